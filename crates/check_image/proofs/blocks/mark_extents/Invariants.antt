use Rattle.std.proofs.Common.{ℕ, ◌+◌, take}
use Rattle.std.specs.List.{count_by}
use Rattle.k_reading.specs.extent_model.Extents.{holds_disk}
use Rattle.check_image.specs.Marks.{AreMarks}
use Rattle.check_image.proofs.blocks.mark_extents.Given as goal

-- what is counted so far
abbrev pub invariant-loop-extent : goal.invariant-loop-extent
invariant-loop-extent l = (x : ℕ → ℕ) → AreMarks l.initial.marks x → AreMarks l.marks (λ i. x i + count_by (λ e. holds_disk e (l.first + i)) (take l.extent-index l.extents))
