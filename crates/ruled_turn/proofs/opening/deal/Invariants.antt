use Rattle.std.proofs.Common.{◌≡◌, ◌≤◌, ◌-◌, [], drop, map, take}
use Rattle.ruled_turn.specs.Passes.{outside_pass}
use Rattle.ruled_turn.specs.Standings.{outside}
use Rattle.ruled_turn.proofs.opening.deal.Given as goal

-- the first of the passes were dealt, and the first seat carries the others
abbrev pub invariant-loop-pass : goal.invariant-loop-pass
invariant-loop-pass g l = record {
  from : 1 ≤ l._pass;
  first : l.first.me ≡ (outside (drop (l._pass - 1) l.fn.first.me.0.carried), []);
  table : l.first.table_id ≡ l.shared.table_id;
  dealt : l.dealt.items ≡ map (λ c. outside_pass l.shared.table_id c.0 c.1) (take (l._pass - 1) l.fn.first.me.0.carried);
}
