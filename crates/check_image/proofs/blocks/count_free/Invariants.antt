use Rattle.std.proofs.Common.{◌≡◌, take}
use Rattle.std.specs.Prelude.{◌==◌}
use Rattle.std.specs.List.{count_by}
use Rattle.check_image.proofs.blocks.count_free.Given as goal

-- the places so far
abbrev pub invariant-loop-mark : goal.invariant-loop-mark
invariant-loop-mark l = l.count ≡ count_by (λ n. n == 0) (take l.mark-index l.marks)
