-- What a batch is: the lines that one transaction sets, with their content, no line twice.
use Rattle.std.specs.Prelude.{◌≡◌, ◌≢◌, ◌≤◌, ◌<◌, ◌==◌, ℕ, ◌+◌, Bool, true, List, [], ◌∷◌, ◌++◌, length, map, not, ◌||◌, slice_index_or, if◌then◌else◌}
use Rattle.std.specs.List.{filter, list_any}
use Rattle.image_layout.specs.layout_model.Journal.{patched}
use Rattle.k_journal.specs.declared.batches.Record.{Record}
use Rattle.pm_lines.specs.pm_model.Words.{Words, word_at}

abbrev pub no_entry : Record
no_entry = record { line = 0; bytes = [] }

-- the line of entry k, and word j of its content
abbrev pub target : List Record → ℕ → ℕ
target b k = (slice_index_or b k no_entry).line

abbrev pub content : List Record → ℕ → Words
content b k = word_at (slice_index_or b k no_entry).bytes

-- the words in which each line of the batch is set
abbrev pub with_batch : List Record → Words → Words
with_batch b = patched (length b) (target b) (content b)

-- no two entries are of one line
abbrev pub IsDistinct : List Record → Type 0
IsDistinct b = (j k : ℕ) → j < k → k < length b → target b j ≢ target b k

-- each line of the batch passes the test
abbrev pub AllLines : (ℕ → Bool) → List Record → Type 0
AllLines test b = (k : ℕ) → k < length b → test (target b k) ≡ true

-- the batch sets the line
abbrev pub HasLine : List Record → ℕ → Type 0
HasLine b line = (k : ℕ) × (k < length b) × (target b k ≡ line)

-- the batch does not set the line
abbrev pub IsNew : List Record → ℕ → Type 0
IsNew b line = (k : ℕ) → k < length b → target b k ≢ line

-- the first place of the line
pub record IsFirstPlace (b : List Record) (line place : ℕ) : Type 0 where
  pub within : place < length b
  pub here : target b place ≡ line
  pub not_before : (k : ℕ) → k < place → target b k ≢ line

-- the batch in which the line has this content: in the place that it has, or at the end
abbrev pub with_line_set : List Record → ℕ → List ℕ → List Record
with_line_set [] line bytes = record { line = line; bytes = bytes } ∷ []
with_line_set (e ∷ es) line bytes =
    if e.line == line then record { line = line; bytes = bytes } ∷ es else e ∷ with_line_set es line bytes

-- room for 128 lines
pub record HasRoom (b : List Record) (capacity : ℕ) : Type 0 where
  pub most : length b ≤ 128
  pub room : 128 ≤ capacity
  pub distinct : IsDistinct b

-- the lines that the batch sets, in the order in which they came
abbrev pub lines_of : List Record → List ℕ
lines_of b = map (λ (e : Record). e.line) b

-- whether the batch sets the line
abbrev pub has_line : List Record → ℕ → Bool
has_line b line = list_any (λ l. l == line) (lines_of b)

-- the lines of b that a does not set
abbrev pub new_lines : List Record → List Record → List ℕ
new_lines a b = filter (λ line. not (has_line a line)) (lines_of b)

-- how many these are, with one line besides, where neither sets it
abbrev pub new_with : List Record → List Record → ℕ → ℕ
new_with a b line = length (new_lines a b) + (if has_line a line || has_line b line then 0 else 1)

-- THE LINES OF b ARE LAID OVER THOSE OF a: c sets the lines of a and, behind them, those of b that a does not set. Where both
-- set a line it is set as b does.
pub record AreLaid (a b c : List Record) : Type 0 where
  pub lines : lines_of c ≡ lines_of a ++ new_lines a b
  pub count : length c ≡ length a + length (new_lines a b)
  pub tests : (test : ℕ → Bool) → AllLines test a → AllLines test b → AllLines test c
  pub meaning : (f : Words) (w : ℕ) → with_batch c f w ≡ with_batch b (with_batch a f) w
