use Rattle.std.proofs.Common.{◌≡◌, ◌≤◌, length, drop}
use Rattle.check_image.specs.Above.{IsAbove}
use Rattle.check_image.proofs.names.parents_above.Given as goal

-- what the lines behind give
abbrev pub invariant-loop-line : goal.invariant-loop-line
invariant-loop-line l = (l.line ≤ length l.names) × (length l.above.items ≡ l.inodes) × IsAbove (drop l.line l.names) l.above.items

abbrev pub decreases-loop-line : goal.decreases-loop-line
decreases-loop-line l = l.line
