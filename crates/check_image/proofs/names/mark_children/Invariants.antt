use Rattle.std.proofs.Common.{ℕ, ◌+◌, take}
use Rattle.k_reading.specs.layout_model.Names.{names_of}
use Rattle.check_image.specs.Marks.{AreMarks}
use Rattle.check_image.proofs.names.mark_children.Given as goal

-- the names so far
abbrev pub invariant-loop-row : goal.invariant-loop-row
invariant-loop-row l = (x : ℕ → ℕ) → AreMarks l.initial.marks x → AreMarks l.marks (λ ino. x ino + names_of (take l.row-index l.names) ino)
