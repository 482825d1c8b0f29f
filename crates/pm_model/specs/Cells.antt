-- The cells of a device: what a store, a flush and a fence make of one word.
use Rattle.std.specs.Prelude.{◌≡◌, ◌⊎◌, ℕ, Bool, true, false, List, slice_index_or}
use Rattle.pm_model.specs.declared.Cell.{Cell}
use Rattle.pm_model.specs.declared.Cell.TheVariants.{Single, Two, Marked, Lent}

-- the cell of word i; past the end of the device a single 0
abbrev pub cell : List Cell → ℕ → Cell
cell d i = slice_index_or d i (Single 0)

abbrev pub is_single : Cell → Bool
is_single (Single a) = true
is_single (Two a b) = false
is_single (Marked a b) = false
is_single Lent = false

abbrev pub is_lent : Cell → Bool
is_lent (Single a) = false
is_lent (Two a b) = false
is_lent (Marked a b) = false
is_lent Lent = true

abbrev pub is_marked : Cell → Bool
is_marked (Single a) = false
is_marked (Two a b) = false
is_marked (Marked a b) = true
is_marked Lent = false

abbrev pub has_two : Cell → Bool
has_two (Single a) = false
has_two (Two a b) = true
has_two (Marked a b) = true
has_two Lent = false

-- the older candidate; of a lent word 0
abbrev pub oldest : Cell → ℕ
oldest (Single a) = a
oldest (Two a b) = a
oldest (Marked a b) = a
oldest Lent = 0

-- the last candidate, which a read gives; of a lent word 0
abbrev pub newest : Cell → ℕ
newest (Single a) = a
newest (Two a b) = b
newest (Marked a b) = b
newest Lent = 0

-- after a store of v into a word with one candidate
abbrev pub stored : ℕ → Cell → Cell
stored v (Single a) = Two a v
stored v (Two a b) = Two a b
stored v (Marked a b) = Marked a b
stored v Lent = Lent

-- after a flush of the word's line
abbrev pub flushed : Cell → Cell
flushed (Single a) = Single a
flushed (Two a b) = Marked a b
flushed (Marked a b) = Marked a b
flushed Lent = Lent

-- after a fence
abbrev pub fenced : Cell → Cell
fenced (Single a) = Single a
fenced (Two a b) = Two a b
fenced (Marked a b) = Single b
fenced Lent = Lent

-- with its mark taken off
abbrev pub unmarked : Cell → Cell
unmarked (Single a) = Single a
unmarked (Two a b) = Two a b
unmarked (Marked a b) = Two a b
unmarked Lent = Lent

-- the value is a candidate; of a lent word any value may be
abbrev pub IsCandidate : Cell → ℕ → Type 0
IsCandidate (Single a) v = v ≡ a
IsCandidate (Two a b) v = (v ≡ a) ⊎ (v ≡ b)
IsCandidate (Marked a b) v = (v ≡ a) ⊎ (v ≡ b)
IsCandidate Lent v = Unit {0}

-- each candidate of the new cell is one of the old cell, or v
abbrev pub MayHold : Cell → ℕ → Cell → Type 0
MayHold old v new = (x : ℕ) → IsCandidate new x → IsCandidate old x ⊎ (x ≡ v)

-- the cell is as before, or a fence came
abbrev pub Settles : Cell → Cell → Type 0
Settles old new = (new ≡ old) ⊎ (new ≡ fenced old)

-- no word of the device is lent
abbrev pub AllHome : List Cell → Type 0
AllHome d = (i : ℕ) → is_lent (cell d i) ≡ false

-- each word of the device has one candidate
abbrev pub AllSingle : List Cell → Type 0
AllSingle d = (i : ℕ) → is_single (cell d i) ≡ true
