use Rattle.std.proofs.Common.{◌≡◌, ◌-◌, ◌≤◌, length, take}
use Rattle.layout_model.specs.Tables.{names_below}
use Rattle.k_names.proofs.children.children.Given as goal

-- the names of the lines before this one
abbrev pub invariant-loop-line : goal.invariant-loop-line
invariant-loop-line l = record {
  within : l.from ≤ length l.rows;
  names : l.names.items ≡ names_below (take l.from l.rows) l.parent;
}

abbrev pub decreases-loop-line : goal.decreases-loop-line
decreases-loop-line l = length l.rows - l.from
