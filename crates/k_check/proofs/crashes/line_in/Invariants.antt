use Rattle.std.proofs.Common.{◌≡◌, ◌*◌, length, take}
use Rattle.oplog_entry.specs.pm_model.Bytes.{line_front}
use Rattle.oplog_entry.specs.pm_model.Words.{word_at}
use Rattle.k_check.proofs.crashes.line_in.Given as goal

-- the words before this one stand in the front of the content
abbrev pub invariant-loop-word : goal.invariant-loop-word
invariant-loop-word l = record {
  size : length l.content ≡ 64;
  front : take (8 * l.word) l.content ≡ line_front (word_at l.bytes) l.line l.word;
}
