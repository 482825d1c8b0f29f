-- Images of a device while parts of it are lent, and once they are back; and that words of blocks that no chain has
-- do not matter to what its images read as.
use Rattle.std.specs.Prelude.{◌≡◌, ◌≢◌, ℕ, ◌+◌, ◌*◌, ◌/◌, ◌%◌, ◌<◌, ◌≤◌, ◌==◌, Bool, true, false, List, [], ◌∷◌, if◌then◌else◌, refl}
use Rattle.std.proofs.Common.{arith, ap, sym, ◌∙◌, subst, inl, inr}
use Rattle.std.proofs.lemmas.Bool.{both_ways, cases_eq, cond-true, cond-false, eq-eqb, ne_eqb}
use Rattle.std.proofs.lemmas.Bool.Decides.{nat_tests}
use Rattle.image_model.specs.pm_model.declared.Cell.{Cell}
use Rattle.image_model.specs.pm_model.declared.Cell.TheVariants.{Single, Two, Marked, Lent}
use Rattle.image_model.specs.pm_model.CellLaws.{candidate-single, newest-candidate}
use Rattle.image_model.specs.pm_model.Cells.{cell, is_single, is_lent, newest, unmarked, IsCandidate, AllHome}
use Rattle.image_model.specs.pm_model.Images.{IsImage, ComesFrom, Follows}
use Rattle.image_model.specs.pm_model.Parts.{GoesOut, ComesBack, put_back, IsImageWith}
use Rattle.image_model.specs.pm_model.Words.{Words}
use Rattle.image_model.specs.layout_model.Journal.{is_journal_word, journaled}
use Rattle.image_model.specs.layout_model.PlaceLaws.{log_line-not_journaled}
use Rattle.image_model.specs.layout_model.Places.{Geometry, first_data, is_journaled_line, log_line}
use Rattle.image_model.specs.Placed.{block_at, IsOutside}
use Rattle.image_model.specs.Reading.{Reads}
use Rattle.image_model.specs.Volume.{Volume, chain}
use Rattle.volume_laws.specs.ImageLaws.{journaled-same, journal-outside}
use Rattle.volume_laws.specs.Reading.{AreUnchained}
use Rattle.volume_laws.specs.ReadingLaws.{reads-same}
use Rattle.volume_laws.specs.SetLaws.{reads-written}

-- ---- cells that are put back

-- The device with a part lent, and the part put back, has the cells that it had.
pub put_back-lent : (size n : ℕ) (old new part : List Cell) (w : ℕ → Cell) → GoesOut size n old new part
    → ((i : ℕ) → i / size ≡ n → w i ≡ cell part (i % size)) → (i : ℕ) → put_back new w i ≡ put_back old w i
put_back-lent size n old new part w out has i = elim (cases_eq (i / size) n) [
  | inl inside ↦
      let own : w i ≡ cell old i = has i inside ∙ out.words i inside in
      cond-true (is_lent (cell new i)) (w i) (cell new i) (ap is_lent (out.out i inside)) ∙ sym (same (is_lent (cell old i)) own)
  | inr outside ↦ ap (λ c. if is_lent c then w i else c) (out.others i outside)
]
  where
    same : (b : Bool) → w i ≡ cell old i → (if b then w i else cell old i) ≡ w i
    same true own = refl
    same false own = sym own

-- Once a part is back the device has the cells that it had with the part, its marks taken off, put back.
pub put_back-settled : (size n : ℕ) (part old new : List Cell) (w : ℕ → Cell) → ComesBack size n part old new
    → ((i : ℕ) → i / size ≡ n → is_lent (cell old i) ≡ true)
    → ((i : ℕ) → i / size ≡ n → w i ≡ unmarked (cell part (i % size))) → (i : ℕ) → put_back new w i ≡ put_back old w i
put_back-settled size n part old new w back lent has i = elim (cases_eq (i / size) n) [
  | inl inside ↦
      let own : w i ≡ cell new i = has i inside ∙ sym (back.words i inside) in
      same (is_lent (cell new i)) own ∙ sym (cond-true (is_lent (cell old i)) (w i) (cell old i) (lent i inside))
  | inr outside ↦ ap (λ c. if is_lent c then w i else c) (back.others i outside)
]
  where
    same : (b : Bool) → w i ≡ cell new i → (if b then w i else cell new i) ≡ w i
    same true own = refl
    same false own = sym own

-- so their images are the same
pub image-put_back : (d e : List Cell) (w : ℕ → Cell) (image : Words) → ((i : ℕ) → put_back e w i ≡ put_back d w i)
    → IsImageWith e w image → IsImageWith d w image
image-put_back d e w image same is i = subst (λ c. IsCandidate c (image i)) (same i) (is i)

-- with nothing lent there is nothing to put back
pub image-home : (d : List Cell) (w : ℕ → Cell) (image : Words) → AllHome d → IsImageWith d w image → IsImage d image
image-home d w image home is i =
    subst (λ c. IsCandidate c (image i)) (cond-false (is_lent (cell d i)) (w i) (cell d i) (home i)) (is i)

-- an image with some cells put back is an image
pub image-with : (d : List Cell) (w : ℕ → Cell) (image : Words) → IsImageWith d w image → IsImage d image
image-with d w image is i = by (cell d i) (is i)
  where
    by : (c : Cell) → IsCandidate (if is_lent c then w i else c) (image i) → IsCandidate c (image i)
    by (Single a) of = of
    by (Two a b) of = of
    by (Marked a b) of = of
    by Lent of = tt

-- ---- images while a part is lent, and once it is back

-- An image of the device with a part lent, whose words there are candidates of the part's, is one of the device without.
pub image-lent : (size n : ℕ) (old new part : List Cell) (image : Words) → GoesOut size n old new part
    → IsImage new image → ((i : ℕ) → i / size ≡ n → IsCandidate (cell part (i % size)) (image i)) → IsImage old image
image-lent size n old new part image out is filled i = elim (cases_eq (i / size) n) [
  | inl inside ↦ subst (λ c. IsCandidate c (image i)) (out.words i inside) (filled i inside)
  | inr outside ↦ subst (λ c. IsCandidate c (image i)) (out.others i outside) (is i)
]

-- Each image of the device with a part lent comes from an image without, which is the same outside the part.
pub follows-lent : (size n : ℕ) (old new part : List Cell) → GoesOut size n old new part
    → ((i : ℕ) → i / size ≡ n → is_lent (cell old i) ≡ false)
    → Follows (λ before image. (i : ℕ) → i / size ≢ n → image i ≡ before i) old new
follows-lent size n old new part out home image is =
    let before : Words = λ i. if i / size == n then newest (cell old i) else image i in
    let inside : (i : ℕ) → i / size ≡ n → before i ≡ newest (cell old i) = λ i at. cond-true (i / size == n) (newest (cell old i)) (image i) (eq-eqb (i / size) n at) in
    let outside : (i : ℕ) → i / size ≢ n → before i ≡ image i = λ i at. cond-false (i / size == n) (newest (cell old i)) (image i) (ne_eqb (i / size) n at) in (
      before,
      record {
        is_image = λ i. elim (cases_eq (i / size) n) [
          | inl at ↦ subst (IsCandidate (cell old i)) (sym (inside i at)) (newest-candidate (cell old i))
          | inr at ↦ subst (IsCandidate (cell old i)) (sym (outside i at)) (subst (λ c. IsCandidate c (image i)) (out.others i at) (is i))
        ];
        lent = λ i lent. elim (cases_eq (i / size) n) [
          | inl at ↦ absurd (both_ways (is_lent (cell old i)) (home i at) lent)
          | inr at ↦ outside i at
        ];
      },
      λ i at. sym (outside i at),
    )

-- Each image of the device with the part back is one of the device before, since any word may stand where one is lent.
pub image-settled : (size n : ℕ) (part old new : List Cell) (image : Words) → ComesBack size n part old new
    → ((i : ℕ) → i / size ≡ n → cell old i ≡ Lent) → IsImage new image → IsImage old image
image-settled size n part old new image back lent is i = elim (cases_eq (i / size) n) [
  | inl inside ↦ subst (λ c. IsCandidate c (image i)) (sym (lent i inside)) tt
  | inr outside ↦ subst (λ c. IsCandidate c (image i)) (back.others i outside) (is i)
]

pub follows-settled : (size n : ℕ) (part old new : List Cell) → ComesBack size n part old new
    → ((i : ℕ) → i / size ≡ n → cell old i ≡ Lent) → Follows (λ before image. (i : ℕ) → image i ≡ before i) old new
follows-settled size n part old new back lent image is =
    (image, record { is_image = image-settled size n part old new image back lent is; lent = λ i at. refl }, λ i. refl)

single-unmarked : (c : Cell) → is_single c ≡ true → unmarked c ≡ c
single-unmarked (Single a) single = refl
single-unmarked (Two a b) single = cc
single-unmarked (Marked a b) single = cc
single-unmarked Lent single = cc

-- A part that comes back with one candidate a word leaves them in every image.
pub settled-single : (size n : ℕ) (part old new : List Cell) → ComesBack size n part old new
    → ((i : ℕ) → i / size ≡ n → is_single (cell part (i % size)) ≡ true)
    → (i : ℕ) → i / size ≡ n → cell new i ≡ cell part (i % size)
settled-single size n part old new back single i inside =
    back.words i inside ∙ single-unmarked (cell part (i % size)) (single i inside)

pub image-settled_words : (size n : ℕ) (part old new : List Cell) (image : Words) → ComesBack size n part old new
    → ((i : ℕ) → i / size ≡ n → is_single (cell part (i % size)) ≡ true)
    → IsImage new image → (i : ℕ) → i / size ≡ n → image i ≡ newest (cell part (i % size))
image-settled_words size n part old new image back single is i inside =
    candidate-single (cell part (i % size)) (image i) (single i inside)
    (subst (λ c. IsCandidate c (image i)) (settled-single size n part old new back single i inside) (is i))

-- ---- what the images read as

-- each image of the device reads as the volume
abbrev pub AllRead : Geometry → Volume → List Cell → Type 0
AllRead g v d = (image : Words) → IsImage d image → Reads g (journaled image) v

-- So they do where the device changes in data blocks that no chain has, whatever is written there.
pub all_read-free : (g : Geometry) (v : Volume) (blocks : List ℕ) (d e : List Cell) → AreUnchained g v blocks
    → AllRead g v d
    → Follows (λ before image. (i : ℕ) → IsOutside blocks i → image i ≡ before i) d e → AllRead g v e
all_read-free g v blocks d e free reads follows image is =
    let from : (before : Words) × ComesFrom d image before × ((i : ℕ) → IsOutside blocks i → image i ≡ before i) = follows image is in
    reads-written g (journaled from.0) (journaled image) v blocks free
    (λ i outside. journaled-same from.0 image i
    (λ w journal. from.2 w (journal-outside g blocks w free.in_data journal)) (from.2 i outside))
    (reads from.0 from.1.is_image)

one_block : (n i : ℕ) → IsOutside (n ∷ []) i → i / 512 ≢ n
one_block n i outside same = outside 0 (omega arith) (sym same)

-- where a block that no chain has is lent
pub all_read-lent : (g : Geometry) (v : Volume) (n : ℕ) (d e part : List Cell) → AreUnchained g v (n ∷ [])
    → GoesOut 512 n d e part → ((i : ℕ) → i / 512 ≡ n → is_lent (cell d i) ≡ false) → AllRead g v d → AllRead g v e
all_read-lent g v n d e part free out home reads =
    all_read-free g v (n ∷ []) d e free reads (λ image is.
    let from = follows-lent 512 n d e part out home image is in
    (from.0, from.1, λ i outside. from.2 i (one_block n i outside)))

-- and where it comes back
pub all_read-settled : (g : Geometry) (v : Volume) (size n : ℕ) (part d e : List Cell) → ComesBack size n part d e
    → ((i : ℕ) → i / size ≡ n → cell d i ≡ Lent) → AllRead g v d → AllRead g v e
all_read-settled g v size n part d e back lent reads image is = reads image (image-settled size n part d e image back lent is)

-- Log lines too may be lent, or change: no reading looks at them.
abbrev pub IsNoLogWord : Geometry → ℕ → Type 0
IsNoLogWord g i = (s : ℕ) → s < g.log → i / 8 ≢ log_line g s

pub all_read-log : (g : Geometry) (v : Volume) (d e : List Cell) → AllRead g v d
    → Follows (λ before image. (i : ℕ) → IsNoLogWord g i → image i ≡ before i) d e → AllRead g v e
all_read-log g v d e reads follows image is =
    let from : (before : Words) × ComesFrom d image before × ((i : ℕ) → IsNoLogWord g i → image i ≡ before i) = follows image is in
    let r : Reads g (journaled from.0) v = reads from.0 from.1.is_image in
    let journal : (w : ℕ) → is_journal_word w ≡ true → image w ≡ from.0 w = λ w of. from.2 w (λ s below at. let low : w < 2560 = grind (arith, nat_tests) in omega arith) in
    reads-same g (journaled from.0) (journaled image) v
    (record {
      lines = λ w line.
          journaled-same from.0 image w journal
          (from.2 w (λ s below at. both_ways (is_journaled_line g (w / 8))
          (subst (λ n. is_journaled_line g n ≡ false) (sym at) (log_line-not_journaled g s)) line));
      chains = λ ino k j below within word.
          let b = block_at (chain v ino) k in
          let behind : first_data g ≤ b = let in_data = r.blocks ino below k 0 within in grind (arith, nat_tests) in
          journaled-same from.0 image (512 * b + j) journal (from.2 (512 * b + j) (λ s slot at. omega arith));
    })
    r
