-- While a device is settled, each honest image is checked and has the content of the image before.
use Rattle.std.specs.Prelude.{◌≡◌, ◌<◌, ◌≤◌, ◌*◌, ◌/◌, ◌^◌, ℕ, false, true, [], refl}
use Rattle.std.proofs.Common.{◌∙◌, sym, ap, subst, arith, inl, inr}
use Rattle.std.proofs.lemmas.Bool.{cases_lt}
use Rattle.world_image_laws.specs.pm_model.CellLaws.{single-home}
use Rattle.world_image_laws.specs.pm_model.Cells.{cell, newest}
use Rattle.world_image_laws.specs.pm_model.ImageLaws.{Follows-from_words, image-single, IsImage-words_of}
use Rattle.world_image_laws.specs.pm_model.Images.{Follows, words_of}
use Rattle.world_image_laws.specs.pm_model.Words.{Words}
use Rattle.world_image_laws.specs.layout_model.Journal.{IsSound, journaled}
use Rattle.world_image_laws.specs.layout_model.Places.{Geometry, is_data_block, is_journaled_line}
use Rattle.world_image_laws.specs.image_model.Checked.{IsCheckedAs}
use Rattle.world_image_laws.specs.image_model.Content.{content, found}
use Rattle.world_image_laws.specs.image_model.Kept.{AreKept}
use Rattle.world_image_laws.specs.image_model.Placed.{IsOutside}
use Rattle.world_image_laws.specs.image_model.Reading.{base_set, Reads}
use Rattle.world_image_laws.specs.image_model.Rules.{geometry_of, IsChecked}
use Rattle.world_image_laws.specs.image_model.Volume.{Volume}
use Rattle.world_image_laws.specs.image_laws.CheckedLaws.{checked-parts}
use Rattle.k_split.specs.k_journal.declared.outcomes.Commit.{Commit}
use Rattle.world_image_laws.specs.k_split_model.Stands.{IsOldOrNew}
use Rattle.world_image_laws.specs.k_split_model.View.{View}
use Rattle.k_split.specs.Answers.{Changes, IsCut}
use Rattle.k_split.specs.Laps.{IsBaseAnswer, IsRestartAnswer, next_base}
use Rattle.log_replay.proofs.DropImages.{still-shows}
use Rattle.log_replay.proofs.LapImages.{checked_risen, content_risen, data_risen, numbers_risen}
use Rattle.log_replay.proofs.Opened.{checked_again, content_of_image, dead_again, numbers_again, shown_in}
use Rattle.log_replay.proofs.OwnImage.{dead-own, recovered-own, settle-done, volume-own}
use Rattle.log_replay.proofs.RestartImages.{restart-shows}
use Rattle.log_replay.proofs.Shown.{shown-follows, shown-single, shown-then}
use Rattle.log_replay.specs.Sheds.{IsSettled, LosesNameless, MaySettle, StaysShown, StillShows}

outside_none : (i : ℕ) → IsOutside [] i
outside_none i k below same = absurd (omega (arith, below))

module _ (k k2 : View) (may : MaySettle k) (loses : LosesNameless k k2) where
  abbrev g : Geometry
  g = k.volume.geometry

  abbrev f : Words
  f = words_of k.cells

  geometry-is : k2.volume.geometry ≡ g
  geometry-is = loses.sheds.geometry

  numbers2 : geometry_of (words_of k2.cells) ≡ g
  numbers2 = numbers_again g f k k2 may.numbers may.checked (recovered-own k may) (volume-own k may) may.rest loses.sheds loses.others loses.rest loses.free (dead-own k may)

  checked2 : IsCheckedAs (4096 * g.blocks) (words_of k2.cells) k2.volume
  checked2 = checked_again g f k k2 may.numbers may.checked (recovered-own k may) (volume-own k may) may.rest loses.sheds loses.others loses.rest loses.free (dead-own k may)

  checked-here : IsCheckedAs (4096 * k2.volume.geometry.blocks) (words_of k2.cells) k2.volume
  checked-here = subst (λ (h : Geometry). IsCheckedAs (4096 * h.blocks) (words_of k2.cells) k2.volume) (sym geometry-is) checked2

  may2 : MaySettle k2
  may2 = record {
    rest = loses.rest;
    numbers = numbers2 ∙ sym geometry-is;
    checked = checked-parts (4096 * k2.volume.geometry.blocks) (words_of k2.cells) k2.volume checked-here;
    dead = dead_again g f k k2 may.numbers may.checked (recovered-own k may) (volume-own k may) may.rest loses.sheds loses.others loses.rest loses.free (dead-own k may);
  }

  -- an image of the change of the base
  module _ (image : Words) (low : k2.volume.base ≤ 2 ^ 62) (w : Volume) (is : w ≡ base_set (next_base k2.volume) k2.volume) (cut : AreKept w)
      (changed : IsOldOrNew k2.volume.geometry [] k2.volume w (words_of k2.cells) image) where
    old-shows : Reads k2.volume.geometry (journaled image) k2.volume → StillShows g f image
    old-shows reads =
        still-shows k may k2.volume image loses.sheds loses.free loses.rest.order.whole.kept.kept (subst (λ h. Reads h (journaled image) k2.volume) geometry-is reads)
        (subst (λ h. IsSound h image) geometry-is changed.sound)
        (λ i out line. changed.others i out (subst (λ h. is_journaled_line h (i / 8) ≡ false) (sym geometry-is) line) (outside_none i) ∙ ap newest (loses.others i out line))

    new-shows : Reads k2.volume.geometry (journaled image) w → StillShows g f image
    new-shows reads = record {
      numbers = numbers_risen k2 may2 checked-here low w is cut image changed reads ∙ geometry-is;
      checked =
          subst (λ (h : Geometry). IsChecked (4096 * h.blocks) image) geometry-is
          (checked-parts (4096 * k2.volume.geometry.blocks) image w (checked_risen k2 may2 checked-here low w is cut image changed reads));
      same = λ path.
          subst (λ h. content h image path ≡ found k2.volume [] (journaled image) path) geometry-is (content_risen k2 may2 checked-here low w is cut image changed reads path)
          ∙ (shown_in g f k k2 may.numbers may.checked (recovered-own k may) (volume-own k may) may.rest loses.sheds loses.others (journaled image)
          (λ b j in_data below. data_risen k2 may2 checked-here low w is cut image changed reads b j (subst (λ h. is_data_block h b ≡ true) (sym geometry-is) in_data) below) path
          ∙ sym (content_of_image g f k k2 may.numbers may.checked (recovered-own k may) (volume-own k may) may.rest loses.sheds loses.others (dead-own k may) path));
    }

    both-show : StillShows g f image
    both-show = elim changed.reads [ inl reads ↦ old-shows reads | inr reads ↦ new-shows reads ]

  images-cut : (k3 : View) → k2.volume.base ≤ 2 ^ 62 → IsCut (base_set (next_base k2.volume) k2.volume) k2 k3 → Follows (StillShows g) k.cells k3.cells
  images-cut k3 low cut =
      Follows-from_words (StillShows g) k.cells k3.cells (λ i. single-home (cell k.cells i) (may.rest.single i)) (λ image is.
      (let settled : k2.committed ≡ k2.volume = loses.rest.order.settled loses.rest.unbatched in
      let w : Volume = base_set (next_base k2.volume) k2.volume in
      let own : Changes k2.volume w k2.cells k3.cells = subst (λ v. Changes v w k2.cells k3.cells) settled cut.changes in
      let from = own.each_image image is in
      let here : IsOldOrNew k2.volume.geometry [] k2.volume w (words_of k2.cells) image =
      subst (λ before. IsOldOrNew k2.volume.geometry [] k2.volume w before image) (image-single k2.cells from.0 loses.rest.single from.1.is_image) from.2
      in
      both-show image low w refl cut.whole.kept.kept here))

-- a device that is settled shows what it did
settled-shows : (k k3 : View) → IsSettled k.volume.geometry (words_of k.cells) k3 → StillShows k.volume.geometry (words_of k.cells) (words_of k3.cells)
settled-shows k k3 is = record {
  numbers = is.numbers;
  checked = checked-parts (4096 * k.volume.geometry.blocks) (words_of k3.cells) k3.volume is.checked;
  same = is.shows;
}

-- what the power leaves of it, where the base rises and where the log begins anew
pub settle-images : (k k2 k3 : View) (r : Commit) → MaySettle k → LosesNameless k k2 → Follows (StillShows k.volume.geometry) k.cells k2.cells
    → (k2.volume.base ≤ 2 ^ 62 → IsBaseAnswer (next_base k2.volume) k2 k3 r) → (2 ^ 62 < k2.volume.base → IsRestartAnswer k2 k3 r)
    → StaysShown k.volume.geometry (words_of k.cells) k3.cells
settle-images k k2 k3 Commit.Done may loses images rises anew =
    let settled = settle-done k k2 k3 Commit.Done may loses rises anew in
    shown-single k.volume.geometry (words_of k.cells) k3.cells settled.rest.single (settled-shows k k3 settled)
settle-images k k2 k3 Commit.PowerLost may loses images rises anew = elim (cases_lt (2 ^ 62) k2.volume.base) [
  | inl high ↦
      shown-then k.volume.geometry k2.volume.geometry (words_of k.cells) (words_of k2.cells) k3.cells loses.sheds.geometry own
      (restart-shows k2 (may2 k k2 may loses) k3 (anew high))
  | inr low ↦ risen low (rises low)
] where
  own : StillShows k.volume.geometry (words_of k.cells) (words_of k2.cells)
  own =
      let from = images (words_of k2.cells) (IsImage-words_of k2.cells) in
      subst (λ before. StillShows k.volume.geometry before (words_of k2.cells)) (image-single k.cells from.0 may.rest.single from.1.is_image) from.2

  risen : k2.volume.base ≤ 2 ^ 62 → IsBaseAnswer (next_base k2.volume) k2 k3 Commit.PowerLost → StaysShown k.volume.geometry (words_of k.cells) k3.cells
  risen low (inl off) =
      subst (λ (z : View). StaysShown k.volume.geometry (words_of k.cells) z.cells) (sym off) (shown-follows k.volume.geometry k.cells k2.cells may.rest.single images)
  risen low (inr cut) = shown-follows k.volume.geometry k.cells k3.cells may.rest.single (images-cut k k2 may loses k3 low cut)
