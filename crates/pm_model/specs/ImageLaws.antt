-- Laws of images that the layers above cite.
use Rattle.std.specs.Prelude.{◌≡◌, ℕ, true, List}
use Rattle.std.proofs.Common.{◌∙◌}
use Rattle.std.proofs.lemmas.Bool.{both_ways}
use Rattle.std.proofs.Math.Path.{fun_ext}
use Rattle.pm_model.specs.declared.Cell.{Cell}
use Rattle.pm_model.specs.CellLaws.{candidate-single, newest-candidate}
use Rattle.pm_model.specs.Cells.{cell, is_lent, AllHome, AllSingle}
use Rattle.pm_model.specs.Images.{IsImage, ComesFrom, Follows, Then, words_of}
use Rattle.pm_model.specs.Words.{Words}

-- what a read of each word gives is an image
pub IsImage-words_of : (d : List Cell) → IsImage d (words_of d)
IsImage-words_of d i = newest-candidate (cell d i)

-- a device whose words have one candidate each has one image
pub image-single : (d : List Cell) (image : Words) → AllSingle d → IsImage d image → image ≡ words_of d
image-single d image single is = fun_ext (λ i. candidate-single (cell d i) (image i) (single i) (is i))

-- from a device of which nothing is lent, it is enough to look at one image
pub Follows-from_words : (R : Words → Words → Type 0) (old new : List Cell) → AllHome old → ((image : Words) → IsImage new image → R (words_of old) image) → Follows R old new
Follows-from_words R old new home each image is =
    (words_of old, record { is_image = IsImage-words_of old; lent = λ i lent. absurd (both_ways (is_lent (cell old i)) (home i) lent) }, each image is)

-- one change after another, where what was lent at first is still lent between the two
pub Follows-then : (R S : Words → Words → Type 0) (a b c : List Cell) → ((i : ℕ) → is_lent (cell a i) ≡ true → is_lent (cell b i) ≡ true)
    → Follows R a b → Follows S b c → Follows (Then R S) a c
Follows-then R S a b c still first second image is =
    let later : (between : Words) × ComesFrom b image between × S between image = second image is in
    let earlier : (before : Words) × ComesFrom a later.0 before × R before later.0 = first later.0 later.1.is_image in (
      earlier.0,
      record { is_image = earlier.1.is_image; lent = λ i lent. earlier.1.lent i lent ∙ later.1.lent i (still i lent) },
      (later.0, earlier.2, later.2),
    )
