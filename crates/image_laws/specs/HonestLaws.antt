-- Laws of torn lines: which images of a line are torn, and where every image of a device is honest.
use Rattle.std.specs.Prelude.{◌≡◌, ◌≢◌, ℕ, ◌+◌, ◌*◌, ◌/◌, ◌<◌, true, false, List, refl}
use Rattle.std.proofs.Common.{arith, ap, sym, ◌∙◌}
use Rattle.std.proofs.lemmas.Bool.{both_ways, cond-true, cond-false}
use Rattle.volume_laws.specs.pm_model.declared.Cell.{Cell}
use Rattle.volume_laws.specs.pm_model.declared.Cell.TheVariants.{Single, Two, Marked, Lent}
use Rattle.volume_laws.specs.pm_model.Cells.{cell, is_single, is_lent, has_two, oldest, newest, AllHome}
use Rattle.volume_laws.specs.pm_model.Frames.{LineIsSingle}
use Rattle.volume_laws.specs.pm_model.Parts.{put_back}
use Rattle.volume_laws.specs.pm_model.Words.{Words}
use Rattle.volume_laws.specs.layout_model.Places.{Geometry, log_line}
use Rattle.volume_laws.specs.image_model.Honest.{HasOlder, HasNewer, SomeHasTwo, EachHasTwo, IsTorn, IsHonest, IsHonestWith}

-- A line is not torn that reads as before, or as after stores to each of its words.
pub older-whole : (cells : ℕ → Cell) (image : Words) (line : ℕ) → HasOlder cells image line → IsTorn cells image line → ⊥
older-whole cells image line older torn = torn.not_older older

pub newer-whole : (cells : ℕ → Cell) (image : Words) (line : ℕ) → EachHasTwo cells line → HasNewer cells image line → IsTorn cells image line → ⊥
newer-whole cells image line each newer torn = torn.not_newer each newer

-- A line is torn that has the newer value of one word and the older one of another.
pub mixed-torn : (cells : ℕ → Cell) (image : Words) (line j k : ℕ) → j < 8 → k < 8 → has_two (cells (8 * line + j)) ≡ true
    → image (8 * line + j) ≢ oldest (cells (8 * line + j)) → image (8 * line + k) ≢ newest (cells (8 * line + k)) → IsTorn cells image line
mixed-torn cells image line j k j_below k_below two not_old not_new =
    record {
      some = (j, j_below, two);
      not_older = λ older. not_old (older j j_below);
      not_newer = λ each newer. not_new (newer k k_below);
    }

-- A line of which only some words were stored is torn unless it reads as before.
pub partly-torn : (cells : ℕ → Cell) (image : Words) (line k : ℕ) → SomeHasTwo cells line → k < 8 → has_two (cells (8 * line + k)) ≡ false
    → ¬ HasOlder cells image line → IsTorn cells image line
partly-torn cells image line k some below single not_older =
    record { some = some; not_older = not_older; not_newer = λ each newer. both_ways (has_two (cells (8 * line + k))) single (each k below) }

-- A line whose words have one candidate each is never torn.
single-two : (c : Cell) → is_single c ≡ true → has_two c ≡ false
single-two (Single a) single = refl
single-two (Two a b) single = cc
single-two (Marked a b) single = cc
single-two Lent single = refl

pub single-whole : (d : List Cell) (image : Words) (line : ℕ) → LineIsSingle line d → IsTorn (cell d) image line → ⊥
single-whole d image line single torn =
    let j = torn.some.0 in
    both_ways (has_two (cell d (8 * line + j)))
    (single-two (cell d (8 * line + j)) (single (8 * line + j) (let below : j < 8 = torn.some.1 in omega arith)))
    torn.some.2

-- A lent line is never torn in the device itself, so that honesty has to be said with its words put back.
lent-two : (c : Cell) → is_lent c ≡ true → has_two c ≡ false
lent-two (Single a) lent = refl
lent-two (Two a b) lent = cc
lent-two (Marked a b) lent = cc
lent-two Lent lent = refl

pub lent-whole : (d : List Cell) (image : Words) (line : ℕ) → ((i : ℕ) → i / 8 ≡ line → is_lent (cell d i) ≡ true) → IsTorn (cell d) image line → ⊥
lent-whole d image line lent torn =
    let j = torn.some.0 in
    both_ways (has_two (cell d (8 * line + j)))
    (lent-two (cell d (8 * line + j)) (lent (8 * line + j) (let below : j < 8 = torn.some.1 in omega arith)))
    torn.some.2

-- the cells that are put back are those of the words that are lent, and of these alone
pub put_back-lent : (d : List Cell) (back : ℕ → Cell) (i : ℕ) → is_lent (cell d i) ≡ true → put_back d back i ≡ back i
put_back-lent d back i lent = cond-true (is_lent (cell d i)) (back i) (cell d i) lent

pub put_back-home : (d : List Cell) (back : ℕ → Cell) (i : ℕ) → is_lent (cell d i) ≡ false → put_back d back i ≡ cell d i
put_back-home d back i home = cond-false (is_lent (cell d i)) (back i) (cell d i) home

-- a torn line of the cells is one of other cells that are the same in that line
pub IsTorn-same : (cells others : ℕ → Cell) (image : Words) (line : ℕ) → ((i : ℕ) → i / 8 ≡ line → others i ≡ cells i) → IsTorn cells image line → IsTorn others image line
IsTorn-same cells others image line same torn =
    let at : (j : ℕ) → j < 8 → others (8 * line + j) ≡ cells (8 * line + j) = λ j below. same (8 * line + j) (omega arith) in
    record {
      some = (torn.some.0, torn.some.1, ap has_two (at torn.some.0 torn.some.1) ∙ torn.some.2);
      not_older = λ older. torn.not_older (λ j below. older j below ∙ ap oldest (at j below));
      not_newer = λ each newer.
          torn.not_newer (λ j below. ap has_two (sym (at j below)) ∙ each j below) (λ j below. newer j below ∙ ap newest (at j below));
    }

-- where nothing is lent nothing is put back
pub IsHonest-home : (g : Geometry) (d : List Cell) (back : ℕ → Cell) (image : Words) → AllHome d → IsHonestWith g d back image → IsHonest g (cell d) image
IsHonest-home g d back image home honest slot below torn =
    honest slot below (IsTorn-same (cell d) (put_back d back) image (log_line g slot) (λ i at. put_back-home d back i (home i)) torn)

-- every image is honest of a device whose log lines have one candidate a word
pub IsHonest-single : (g : Geometry) (d : List Cell) (image : Words) → ((slot : ℕ) → slot < g.log → LineIsSingle (log_line g slot) d) → IsHonest g (cell d) image
IsHonest-single g d image single slot below torn = absurd (single-whole d image (log_line g slot) (single slot below) torn)
