use Rattle.std.proofs.Common.{◌≡◌, ◌<◌, take}
use Rattle.k_names.specs.Indexes.{name_word}
use Rattle.k_names.proofs.rows.name_word.Given as goal

-- the word of the bytes before this one
abbrev pub invariant-loop-byte : goal.invariant-loop-byte
invariant-loop-byte l = record {
  small : l.word < 4294967296;
  word : l.word ≡ name_word l.parent (take l.byte-index l.name);
}
