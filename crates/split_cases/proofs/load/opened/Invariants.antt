use Rattle.std.proofs.Common.{◌≡◌}
use Rattle.std.specs.Prelude.{map}
use Rattle.std.specs.List.{range_with_len}
use Rattle.split_cases.specs.Load.{load_open}
use Rattle.split_cases.proofs.load.opened.Given as goal

-- the calls so far
abbrev pub invariant-loop-t : goal.invariant-loop-t
invariant-loop-t l = l.calls.items ≡ map load_open (range_with_len 0 l.t)
