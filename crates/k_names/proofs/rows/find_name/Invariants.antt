use Rattle.std.proofs.Common.{◌≡◌, ◌-◌, ◌<◌, ◌≤◌, ℕ, false, length}
use Rattle.layout_model.specs.Names.{is_entry, row}
use Rattle.k_names.proofs.rows.find_name.Given as goal

-- no line before this one passes
abbrev pub invariant-loop-line : goal.invariant-loop-line
invariant-loop-line l = record {
  within : l.from ≤ length l.rows;
  passed : (k : ℕ) → k < l.from → is_entry l.parent l.name (row l.rows k) ≡ false;
}

abbrev pub decreases-loop-line : goal.decreases-loop-line
decreases-loop-line l = length l.rows - l.from
