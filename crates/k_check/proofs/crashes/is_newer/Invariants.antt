use Rattle.std.proofs.Common.{◌≡◌, ◌+◌, ◌*◌, ◌<◌, ℕ}
use Rattle.oplog_entry.specs.pm_model.Cells.{cell, newest}
use Rattle.oplog_entry.specs.pm_model.Words.{word_at}
use Rattle.k_check.proofs.crashes.is_newer.Given as goal

-- the words so far are the newer candidates
abbrev pub invariant-loop-word : goal.invariant-loop-word
invariant-loop-word l = (j : ℕ) → j < l.word → word_at l.bytes (8 * l.line + j) ≡ newest (cell l.pm (8 * l.line + j))
