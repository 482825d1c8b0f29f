use Rattle.std.proofs.Common.{◌≡◌, ℕ, ◌<◌, false}
use Rattle.k_reading.specs.layout_model.Names.{row, is_entry}
use Rattle.check_image.proofs.names.is_only.Given as goal

-- no line so far has the parent and the name
abbrev pub invariant-loop-later : goal.invariant-loop-later
invariant-loop-later l = (m : ℕ) → l.line < m → m < l.later → is_entry l.name.parent l.name.name (row l.names m) ≡ false
