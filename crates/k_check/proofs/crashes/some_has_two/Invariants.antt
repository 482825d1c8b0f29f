use Rattle.std.proofs.Common.{◌≡◌, ◌+◌, ◌*◌, ◌<◌, ℕ, true}
use Rattle.oplog_entry.specs.pm_model.Cells.{cell, is_single}
use Rattle.k_check.proofs.crashes.some_has_two.Given as goal

-- the words so far have one candidate
abbrev pub invariant-loop-word : goal.invariant-loop-word
invariant-loop-word l = (j : ℕ) → j < l.word → is_single (cell l.pm (8 * l.line + j)) ≡ true
