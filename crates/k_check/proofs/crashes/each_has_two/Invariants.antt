use Rattle.std.proofs.Common.{◌≡◌, ◌+◌, ◌*◌, ◌<◌, ℕ, true}
use Rattle.oplog_entry.specs.pm_model.Cells.{cell, has_two}
use Rattle.k_check.proofs.crashes.each_has_two.Given as goal

-- the words so far have two candidates
abbrev pub invariant-loop-word : goal.invariant-loop-word
invariant-loop-word l = (j : ℕ) → j < l.word → has_two (cell l.pm (8 * l.line + j)) ≡ true
