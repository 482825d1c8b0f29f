use Rattle.std.proofs.Common.{◌≡◌, ◌*◌, length, take}
use Rattle.pm_lines.specs.pm_model.Bytes.{line_front}
use Rattle.pm_lines.specs.pm_model.Images.{words_of}
use Rattle.oplog_entry.proofs.scanning.bytes_of.Given as goal

-- the words before this one stand in the front of the bytes
abbrev pub invariant-loop-word : goal.invariant-loop-word
invariant-loop-word l = record {
  size : length l.bytes ≡ 64;
  front : take (8 * l.word) l.bytes ≡ line_front (words_of l.line.cells) 0 l.word;
}
