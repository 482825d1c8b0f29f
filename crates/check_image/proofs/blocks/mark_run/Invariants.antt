use Rattle.std.proofs.Common.{ℕ, ◌+◌, ◌-◌}
use Rattle.k_reading.specs.extent_model.Counts.{one_if}
use Rattle.k_reading.specs.extent_model.Extents.{is_within}
use Rattle.check_image.specs.Marks.{AreMarks}
use Rattle.check_image.proofs.blocks.mark_run.Given as goal

-- the run so far
abbrev pub invariant-loop-place : goal.invariant-loop-place
invariant-loop-place l = (x : ℕ → ℕ) → AreMarks l.initial.marks x → AreMarks l.marks (λ i. x i + one_if (is_within l.from (l.place - l.from) i))
