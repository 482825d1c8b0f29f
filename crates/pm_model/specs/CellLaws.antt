-- Laws of cells and powers that the layers above cite.
use Rattle.std.specs.Prelude.{◌≡◌, ◌<◌, ◌≤◌, ℕ, true, false, List, length}
use Rattle.std.proofs.Common.{refl, ◌∙◌, inl, inr, ⊎_elim}
use Rattle.std.proofs.lemmas.Bool.{cases_lt}
use Rattle.std.proofs.lemmas.List.{get_or_past}
use Rattle.pm_model.specs.declared.Cell.{Cell}
use Rattle.pm_model.specs.declared.Cell.TheVariants.{Single, Two, Marked, Lent}
use Rattle.pm_model.specs.Cells.{cell, is_single, is_lent, newest, oldest, stored, flushed, fenced, IsCandidate, Settles}

-- past the end of a device
pub cell-past : (d : List Cell) (i : ℕ) → length d ≤ i → cell d i ≡ Single 0
cell-past d i past = get_or_past d i (Single 0) past

-- a lent word is a word of the device
pub lent-within : (d : List Cell) (i : ℕ) → is_lent (cell d i) ≡ true → i < length d
lent-within d i lent = ⊎_elim (λ (h : i < length d). h) (λ (h : length d ≤ i). absurd (not_lent d i h lent)) (cases_lt i (length d))
  where
    not_lent : (d : List Cell) (i : ℕ) → length d ≤ i → is_lent (cell d i) ≡ true → ⊥
    not_lent d i past lent = let e : cell d i ≡ Single 0 = cell-past d i past in cc (rw e at lent)

-- a word with one candidate is not lent
pub single-home : (c : Cell) → is_single c ≡ true → is_lent c ≡ false
single-home (Single a) single = refl
single-home (Two a b) single = refl
single-home (Marked a b) single = refl
single-home Lent single = cc

-- no step of a memory lends a word or takes one back
pub is_lent-stored : (v : ℕ) (c : Cell) → is_lent (stored v c) ≡ is_lent c
is_lent-stored v (Single a) = refl
is_lent-stored v (Two a b) = refl
is_lent-stored v (Marked a b) = refl
is_lent-stored v Lent = refl

pub is_lent-flushed : (c : Cell) → is_lent (flushed c) ≡ is_lent c
is_lent-flushed (Single a) = refl
is_lent-flushed (Two a b) = refl
is_lent-flushed (Marked a b) = refl
is_lent-flushed Lent = refl

pub is_lent-fenced : (c : Cell) → is_lent (fenced c) ≡ is_lent c
is_lent-fenced (Single a) = refl
is_lent-fenced (Two a b) = refl
is_lent-fenced (Marked a b) = refl
is_lent-fenced Lent = refl

-- the candidate of a word that has one is what a read gives
pub candidate-single : (c : Cell) (v : ℕ) → is_single c ≡ true → IsCandidate c v → v ≡ newest c
candidate-single (Single a) v single is = is
candidate-single (Two a b) v single is = cc
candidate-single (Marked a b) v single is = cc
candidate-single Lent v single is = cc

-- what a read gives, and the oldest value, are candidates
pub newest-candidate : (c : Cell) → IsCandidate c (newest c)
newest-candidate (Single a) = refl
newest-candidate (Two a b) = inr refl
newest-candidate (Marked a b) = inr refl
newest-candidate Lent = tt

pub oldest-candidate : (c : Cell) → IsCandidate c (oldest c)
oldest-candidate (Single a) = refl
oldest-candidate (Two a b) = inl refl
oldest-candidate (Marked a b) = inl refl
oldest-candidate Lent = tt

-- a fence leaves no candidate that was none
pub candidate-fenced : (c : Cell) (v : ℕ) → IsCandidate (fenced c) v → IsCandidate c v
candidate-fenced (Single a) v is = is
candidate-fenced (Two a b) v is = is
candidate-fenced (Marked a b) v is = inr is
candidate-fenced Lent v is = tt

-- a word that settles has no candidate that was none
pub candidate-settles : (old new : Cell) (v : ℕ) → Settles old new → IsCandidate new v → IsCandidate old v
candidate-settles old new v settles is =
    ⊎_elim (λ (e : new ≡ old). rw e at is) (λ (e : new ≡ fenced old). candidate-fenced old v (rw e at is)) settles

-- a word of one candidate, and what a fence makes of it
pub single-newest : (c : Cell) → is_single c ≡ true → c ≡ Single (newest c)
single-newest (Single a) single = refl
single-newest (Two a b) single = cc
single-newest (Marked a b) single = cc
single-newest Lent single = cc

fenced-single : (c : Cell) → is_single c ≡ true → fenced c ≡ Single (newest c)
fenced-single (Single a) single = refl
fenced-single (Two a b) single = cc
fenced-single (Marked a b) single = cc
fenced-single Lent single = cc

-- a word of one candidate that settles keeps it
pub settled-single : (old new : Cell) → Settles old new → is_single old ≡ true → new ≡ Single (newest old)
settled-single old new settles single = ⊎_elim
    (λ (e : new ≡ old). e ∙ single-newest old single)
    (λ (e : new ≡ fenced old). e ∙ fenced-single old single)
    settles
