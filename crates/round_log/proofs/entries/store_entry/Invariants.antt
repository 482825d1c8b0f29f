use Rattle.std.proofs.Common.{◌≡◌, ◌<◌, ℕ, true, Some}
use Rattle.oplog_entry.specs.pm_model.Powers.{is_on, Steps}
use Rattle.oplog_entry.specs.pm_model.Words.{word_at}
use Rattle.oplog_entry.proofs.EntryWords.{IsStoring}
use Rattle.round_log.proofs.entries.store_entry.Given as goal

-- the words before this one were stored, as long as the power lasted, and each took a step
abbrev pub invariant-loop-word : goal.invariant-loop-word
invariant-loop-word l = record {
  stores : IsStoring l.initial.line.cells (word_at l.bytes) l.word (is_on l.power) l.line.cells;
  place : l.line.place ≡ l.initial.line.place;
  steps : Steps l.word l.initial.power l.power;
  took : 0 < l.word → is_on l.power ≡ true → (given : ℕ) → l.initial.power.given ≡ Some given → l.initial.power.taken < l.power.taken;
}
