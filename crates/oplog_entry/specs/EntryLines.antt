-- What an append leaves in its line.
use Rattle.std.specs.Prelude.{◌≡◌, ◌⊎◌, ◌<◌, ℕ, List, true, false}
use Rattle.image_model.specs.pm_model.declared.Cell.{Cell}
use Rattle.image_model.specs.pm_model.Cells.{cell, has_two, is_lent, is_single, newest, oldest}
use Rattle.image_model.specs.pm_model.Words.{word_at, Words}
use Rattle.layout_model.specs.declared.lines.Draft.{Draft}
use Rattle.layout_model.specs.Entries.{encode_entry}
use Rattle.image_model.specs.LogRule.{HoldsEntry, words_of_line}
use Rattle.oplog_entry.specs.declared.claims.Mark.{Mark}
use Rattle.oplog_entry.specs.declared.claims.Mark.TheVariants.{Lost, Written}

-- the eight words of an entry with its sequence number
abbrev pub entry_words : Draft → ℕ → Words
entry_words d seq = word_at (encode_entry d seq)

-- each word of the line has one candidate
abbrev pub IsSingle : List Cell → Type 0
IsSingle cells = (j : ℕ) → j < 8 → is_single (cell cells j) ≡ true

-- each word of the line is as it was first, alone or with the word of an entry as the newer candidate
pub record IsPutOver (cells : List Cell) (first entry : Words) : Type 0 where
  pub home : (j : ℕ) → j < 8 → is_lent (cell cells j) ≡ false
  pub older : (j : ℕ) → j < 8 → oldest (cell cells j) ≡ first j
  pub newer : (j : ℕ) → j < 8 → has_two (cell cells j) ≡ true → newest (cell cells j) ≡ entry j

-- what the line of a claim holds beside what it held at first: the entry, whole and with one candidate a word; or, where
-- the append lost its power, that or the entry put over the first words
abbrev pub Holds : Mark → Draft → ℕ → List Cell → List Cell → Type 0
Holds Written d seq first cells = HoldsEntry cells d seq
Holds Lost d seq first cells = HoldsEntry cells d seq ⊎ IsPutOver cells (words_of_line first) (entry_words d seq)
