-- What a power loss may leave of a device, and how the images of a device before and after a call are tied.
use Rattle.std.specs.Prelude.{◌≡◌, ◌*◌, ℕ, true, List, length, refl}
use Rattle.pm_model.specs.declared.Cell.{Cell}
use Rattle.pm_model.specs.Cells.{cell, newest, is_lent, IsCandidate}
use Rattle.pm_model.specs.Words.{Words, word_at}

-- each word of the image is a candidate of the device's
abbrev pub IsImage : List Cell → Words → Type 0
IsImage d image = (i : ℕ) → IsCandidate (cell d i) (image i)

-- the bytes are those of an image of the device, no more and no fewer
pub record IsImageOf (d : List Cell) (bytes : List ℕ) : Type 0 where
  pub size : length bytes ≡ 8 * length d
  pub words : IsImage d (word_at bytes)

-- what a read of each word gives
abbrev pub words_of : List Cell → Words
words_of d i = newest (cell d i)

-- `before` is an image of the old device, with the image's words wherever the old device had lent a word
pub record ComesFrom (old : List Cell) (image before : Words) : Type 0 where
  pub is_image : IsImage old before
  pub lent : (i : ℕ) → is_lent (cell old i) ≡ true → before i ≡ image i

-- Each image of the new device comes from an image of the old one by R. Lent words are the same in both,
-- so it holds whatever words are put back.
abbrev pub Follows : (Words → Words → Type 0) → List Cell → List Cell → Type 0
Follows R old new = (image : Words) → IsImage new image → (before : Words) × ComesFrom old image before × R before image

-- R, and then S
abbrev pub Then : (Words → Words → Type 0) → (Words → Words → Type 0) → Words → Words → Type 0
Then R S a c = (b : Words) × R a b × S b c

-- a device that is as it was
pub Follows-same : (R : Words → Words → Type 0) (d : List Cell) → ((f : Words) → R f f) → Follows R d d
Follows-same R d reflexive image is = (image, record { is_image = is; lent = λ i h. refl }, reflexive image)

-- one relation for another that it implies
pub Follows-weaken : (R S : Words → Words → Type 0) (old new : List Cell) → ((a b : Words) → R a b → S a b) → Follows R old new → Follows S old new
Follows-weaken R S old new implies follows image is =
    let f : (before : Words) × ComesFrom old image before × R before image = follows image is in
    (f.0, f.1, implies f.0 image f.2)
