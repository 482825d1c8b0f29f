use Rattle.std.proofs.Common.{◌≤◌, ◌-◌}
use Rattle.k_names.specs.Heights.{HasHeightBefore}
use Rattle.k_names.proofs.walks.+height_within.Given as goal

-- fewer names are left to go
abbrev pub decreases-height_within : goal.decreases-height_within
decreases-height_within l = l.most

-- the longest path that begins with a line before this one
abbrev pub invariant-loop-row : goal.invariant-loop-row
invariant-loop-row l = HasHeightBefore l.rows (l.most - 1) l.ino l.row-index l.height × (l.height ≤ l.most)
