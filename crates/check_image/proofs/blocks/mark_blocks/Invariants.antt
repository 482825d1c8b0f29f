use Rattle.std.proofs.Common.{ℕ, ◌+◌, take}
use Rattle.std.specs.Prelude.{◌==◌}
use Rattle.std.specs.List.{count_by}
use Rattle.check_image.specs.Marks.{AreMarks}
use Rattle.check_image.proofs.blocks.mark_blocks.Given as goal

-- what is counted so far
abbrev pub invariant-loop-block : goal.invariant-loop-block
invariant-loop-block l = (x : ℕ → ℕ) → AreMarks l.initial.marks x → AreMarks l.marks (λ i. x i + count_by (λ b. b == l.first + i) (take l.block-index l.blocks))
