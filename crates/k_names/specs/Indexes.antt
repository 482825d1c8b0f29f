-- Indexes of a table of names: for each line one pair of a word of its row and the line, as rising numbers.
use Rattle.std.specs.Prelude.{◌≡◌, ◌≢◌, ℕ, ◌+◌, ◌*◌, ◌%◌, ◌<◌, ◌≤◌, ◌^◌, List, length, slice_index, Option, Some, None}
use Rattle.std.specs.List.{fold}
use Rattle.layout_model.specs.Lines.{NameRow}
use Rattle.layout_model.specs.Names.{Rows, row}

-- a word and a line as one number: pairs rise with their words, and those of one word with their lines
abbrev pub pair_of : ℕ → ℕ → ℕ
pair_of word line = word * 4294967296 + line

-- the pair is one of these
pub record Has (pairs : List ℕ) (pair : ℕ) : Type 0 where
  pub at : ℕ
  pub within : at < length pairs
  pub is : slice_index pairs at ≡ pair

pub record IsRising (pairs : List ℕ) : Type 0 where
  pub rises : (i j : ℕ) → i < j → j < length pairs → slice_index pairs i < slice_index pairs j

-- so many pairs, and no other, are below a number
pub record IsBegun (pairs : List ℕ) (pair n : ℕ) : Type 0 where
  pub within : n ≤ length pairs
  pub before : (k : ℕ) → k < n → slice_index pairs k < pair
  pub behind : (k : ℕ) → n ≤ k → k < length pairs → pair ≤ slice_index pairs k

-- the lowest line of a word from a line on
pub record IsNextLine (pairs : List ℕ) (word from line : ℕ) : Type 0 where
  pub fits : line < 2 ^ 32
  pub from_on : from ≤ line
  pub has : Has pairs (pair_of word line)
  pub first : (k : ℕ) → from ≤ k → k < line → Has pairs (pair_of word k) → ⊥

-- a word has no line from a line on
pub record HasNoLine (pairs : List ℕ) (word from : ℕ) : Type 0 where
  pub none : (k : ℕ) → from ≤ k → k < 2 ^ 32 → Has pairs (pair_of word k) → ⊥

-- the pair gone is no longer there, the pair put is, and the others are as before
pub record IsChanged (old : List ℕ) (gone put : ℕ) (new : List ℕ) : Type 0 where
  pub rising : IsRising new
  pub kept : (pair : ℕ) → Has new pair → pair ≢ put → Has old pair × (pair ≢ gone)
  pub stays : (pair : ℕ) → Has old pair → pair ≢ gone → Has new pair
  pub own : Has new put

-- So many lines that are free, each with the word of no row.
abbrev pub no_word : ℕ
no_word = 4294967295

pub record AreBlank (pairs : List ℕ) (lines : ℕ) : Type 0 where
  pub size : length pairs ≡ lines
  pub each : (k : ℕ) → k < lines → slice_index pairs k ≡ pair_of no_word k

-- the word of a parent and a name: one in 2^32 pairs of them has the word of another
abbrev pub name_word : ℕ → List ℕ → ℕ
name_word parent name = fold (λ word byte. (word * 16777619 + byte) % 4294967296) parent name

-- the words of a row
abbrev pub name_word_of : Option NameRow → ℕ
name_word_of None = no_word
name_word_of (Some r) = name_word r.parent r.name

abbrev pub parent_word_of : Option NameRow → ℕ
parent_word_of None = no_word
parent_word_of (Some r) = r.parent

abbrev pub child_word_of : Option NameRow → ℕ
child_word_of None = no_word
child_word_of (Some r) = r.child

-- a pair of a line and the word of its row
pub record IsLineOf (word : Option NameRow → ℕ) (rows : Rows) (pair : ℕ) : Type 0 where
  pub line : ℕ
  pub within : line < length rows
  pub is : pair ≡ pair_of (word (row rows line)) line

-- each line of the table has its pair, and there is no other
pub record IsIndex (word : Option NameRow → ℕ) (rows : Rows) (pairs : List ℕ) : Type 0 where
  pub has : (k : ℕ) → k < length rows → Has pairs (pair_of (word (row rows k)) k)
  pub only : (pair : ℕ) → Has pairs pair → IsLineOf word rows pair

-- the indexes agree with the lines
pub record AreIndexes (rows : Rows) (by_name by_parent by_child : List ℕ) : Type 0 where
  pub names : IsIndex name_word_of rows by_name
  pub parents : IsIndex parent_word_of rows by_parent
  pub children : IsIndex child_word_of rows by_child
