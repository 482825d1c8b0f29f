use Rattle.std.proofs.Common.{◌≡◌, ◌++◌, ◌∷◌, drop, flat_map}
use Rattle.report_text.proofs.bytes.put_steps.Given as goal

-- the text so far, and the names that are left
abbrev pub invariant-loop-name : goal.invariant-loop-name
invariant-loop-name l = l.text.items ++ flat_map (λ name. 47 ∷ name) (drop l.name-index l.names) ≡ l.fn.text.items ++ flat_map (λ name. 47 ∷ name) l.names
