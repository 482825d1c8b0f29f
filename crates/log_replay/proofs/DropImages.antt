-- While nameless files go, each image of the device is checked and has the content of the image before.
use Rattle.std.specs.Prelude.{◌≡◌, ◌⊎◌, ◌<◌, ◌≤◌, ◌+◌, ◌*◌, ◌/◌, ℕ, false, true, List, [], Err, refl}
use Rattle.std.proofs.Common.{◌∙◌, sym, ap, subst, arith, inl, inr}
use Rattle.world_image_laws.specs.pm_model.CellLaws.{single-home}
use Rattle.world_image_laws.specs.pm_model.Cells.{cell, newest}
use Rattle.world_image_laws.specs.pm_model.ImageLaws.{Follows-from_words, image-single, IsImage-words_of}
use Rattle.world_image_laws.specs.pm_model.Images.{Follows, words_of}
use Rattle.world_image_laws.specs.pm_model.Words.{Words}
use Rattle.world_image_laws.specs.layout_model.Journal.{IsSound, is_journal_word, journaled}
use Rattle.world_image_laws.specs.layout_model.PlaceLaws.{behind_log-words}
use Rattle.world_image_laws.specs.layout_model.Places.{commit_word, Geometry, is_data_block, is_journaled_line}
use Rattle.world_image_laws.specs.image_model.Checked.{IsCheckedAs}
use Rattle.world_image_laws.specs.image_model.Content.{content, found}
use Rattle.world_image_laws.specs.image_model.Kept.{AreKept}
use Rattle.world_image_laws.specs.image_model.Live.{live_entries}
use Rattle.world_image_laws.specs.image_model.Placed.{IsOutside}
use Rattle.world_image_laws.specs.image_model.Reading.{Reads}
use Rattle.world_image_laws.specs.image_model.Room.{unused_blocks}
use Rattle.world_image_laws.specs.image_model.Volume.{Volume, volume}
use Rattle.world_image_laws.specs.image_laws.CheckedLaws.{checked-parts, head-checked, parts-checked}
use Rattle.world_image_laws.specs.k_split_model.ChangesChanges.{dropped}
use Rattle.world_image_laws.specs.k_split_model.Stands.{IsOldOrNew}
use Rattle.world_image_laws.specs.k_split_model.View.{View}
use Rattle.k_split.specs.Answers.{Changes, IsCut, IsOff}
use Rattle.k_split.specs.declared.faults.KFault.{KFault}
use Rattle.k_split.specs.Names.{IsDropAnswer}
use Rattle.world_image_laws.specs.volume_laws.Footprint.{SameLog}
use Rattle.world_image_laws.specs.volume_laws.ImageLaws.{journaled-other}
use Rattle.world_image_laws.specs.volume_laws.LineWords.{data_word, data_word-not_journaled}
use Rattle.world_image_laws.specs.volume_laws.ReadingLaws.{reads-volume}
use Rattle.world_image_laws.specs.Changed.{headed_changed, SameLog-changed, sound_headed}
use Rattle.world_image_laws.specs.Images.{IsHeaded}
use Rattle.log_replay.proofs.Checked.{log_kept, none_live}
use Rattle.log_replay.proofs.Dropping.{frees_more, HasShed, sheds_more, used_below}
use Rattle.log_replay.proofs.Opened.{content_of_image, shown_in}
use Rattle.log_replay.proofs.OwnImage.{recovered-own, volume-own}
use Rattle.log_replay.specs.Sheds.{IsShedCut, MaySettle, Sheds, StillShows}

-- no word is in no block
outside_none : (i : ℕ) → IsOutside [] i
outside_none i k below same = absurd (omega (arith, below))

-- ---- an image that reads as a volume without some nameless files

module _ (k : View) (may : MaySettle k) (x : Volume) (image : Words) (sheds : Sheds k.volume x) (free : unused_blocks k.volume ≤ unused_blocks x) (kept : AreKept x)
    (reads : Reads k.volume.geometry (journaled image) x) (sound : IsSound k.volume.geometry image)
    (others : (i : ℕ) → is_journal_word i ≡ false → is_journaled_line k.volume.geometry (i / 8) ≡ false → image i ≡ words_of k.cells i) where
  abbrev g : Geometry
  g = k.volume.geometry

  abbrev f : Words
  f = words_of k.cells

  was : IsCheckedAs (4096 * g.blocks) f k.volume
  was =
      subst (IsCheckedAs (4096 * g.blocks) f) ((λ i. volume (may.numbers i) (journaled f)) ∙ sym (volume-own k may))
      (parts-checked (4096 * g.blocks) f may.checked)

  headed-was : IsHeaded g f
  headed-was = record { head = head-checked (4096 * g.blocks) f may.checked; geometry = may.numbers }

  changed : IsOldOrNew g [] k.volume x f image
  changed = record { reads = inr reads; others = λ i out line none. others i out line; sound = sound }

  headed : IsHeaded g image
  headed = headed_changed g k.volume x f image headed-was changed sheds.base was.reads.base

  log : SameLog g (journaled f) (journaled image)
  log = SameLog-changed g k.volume x f image (sound_headed g f headed-was) changed

  none : live_entries x (journaled image) ≡ []
  none = none_live k.volume x (journaled f) (journaled image) sheds log free may.dead was.log

  checked-now : IsCheckedAs (4096 * g.blocks) image x
  checked-now = record {
    head = headed.head;
    reads = subst (λ h. Reads h (journaled image) x) (sym headed.geometry) reads;
    kept = kept;
    log = log_kept k.volume x (journaled f) (journaled image) sheds log free may.dead was.log;
  }

  data-is : (b j : ℕ) → is_data_block g b ≡ true → j < 512 → journaled image (512 * b + j) ≡ f (512 * b + j)
  data-is b j in_data below =
      let out = behind_log-words g (512 * b + j) (data_word g b j in_data below) in
      let line = data_word-not_journaled g b j in_data below in
      journaled-other g image (512 * b + j) sound out line ∙ others (512 * b + j) out line

  abbrev then : View
  then = record k { volume = x }

  same : (path : List (List ℕ)) → content g image path ≡ content g f path
  same path =
      ap (λ v. found v (live_entries v (journaled image)) (journaled image) path) (reads-volume g (journaled image) x reads)
      ∙ (ap (λ live. found x live (journaled image) path) none
      ∙ (shown_in g f k then may.numbers may.checked (recovered-own k may) (volume-own k may) may.rest sheds (λ i out line. refl) (journaled image) data-is path
      ∙ sym (content_of_image g f k then may.numbers may.checked (recovered-own k may) (volume-own k may) may.rest sheds (λ i out line. refl) dead-own path)))
    where
      dead-own : live_entries (volume g (journaled f)) (journaled f) ≡ []
      dead-own = subst (λ v. live_entries v (journaled f) ≡ []) (volume-own k may) may.dead

  pub still-shows : StillShows g f image
  still-shows = record { numbers = headed.geometry; checked = checked-parts (4096 * g.blocks) image x checked-now; same = same }

-- ---- on the way

module _ (k0 k : View) (ino : ℕ) (may : MaySettle k0) (has : HasShed k0 k ino) where
  abbrev g0 : Geometry
  g0 = k0.volume.geometry

  geometry-is : k.volume.geometry ≡ g0
  geometry-is = has.sheds.geometry

  settled : k.committed ≡ k.volume
  settled = has.rest.order.settled has.rest.unbatched

  -- an image of a change to a volume without some nameless files
  shows-changed : (w : Volume) (image : Words) → Sheds k0.volume w → unused_blocks k0.volume ≤ unused_blocks w → AreKept w
      → IsOldOrNew g0 [] k.volume w (words_of k.cells) image → StillShows g0 (words_of k0.cells) image
  shows-changed w image sheds free kept is = by is.reads where
    others : (i : ℕ) → is_journal_word i ≡ false → is_journaled_line g0 (i / 8) ≡ false → image i ≡ words_of k0.cells i
    others i out line = is.others i out line (outside_none i) ∙ ap newest (has.others i out line)

    by : Reads g0 (journaled image) k.volume ⊎ Reads g0 (journaled image) w → StillShows g0 (words_of k0.cells) image
    by (inl old) = still-shows k0 may k.volume image has.sheds has.free has.rest.order.whole.kept.kept old is.sound others
    by (inr new) = still-shows k0 may w image sheds free kept new is.sound others

  pub images-changed : (w : Volume) (k2 : View) → Sheds k0.volume w → unused_blocks k0.volume ≤ unused_blocks w → AreKept w
      → Changes k.committed w k.cells k2.cells → Follows (StillShows g0) k0.cells k2.cells
  images-changed w k2 sheds free kept changes =
      Follows-from_words (StillShows g0) k0.cells k2.cells (λ i. single-home (cell k0.cells i) (may.rest.single i)) (λ image is.
      (let own : Changes k.volume w k.cells k2.cells = subst (λ v. Changes v w k.cells k2.cells) settled changes in
      let from = own.each_image image is in
      let here : IsOldOrNew k.volume.geometry [] k.volume w (words_of k.cells) image =
      subst (λ before. IsOldOrNew k.volume.geometry [] k.volume w before image) (image-single k.cells from.0 has.rest.single from.1.is_image) from.2
      in
      shows-changed w image sheds free kept (subst (λ h. IsOldOrNew h [] k.volume w (words_of k.cells) image) geometry-is here)))

  -- K-Split at rest on the way
  pub images-way : Follows (StillShows g0) k0.cells k.cells
  images-way =
      Follows-from_words (StillShows g0) k0.cells k.cells (λ i. single-home (cell k0.cells i) (may.rest.single i)) (λ image is.
      subst (StillShows g0 (words_of k0.cells)) (sym (image-single k.cells image has.rest.single is)) own)
    where
      reads-own : Reads g0 (journaled (words_of k.cells)) k.volume
      reads-own =
          subst (λ h. Reads h (journaled (words_of k.cells)) k.volume) geometry-is
          (subst (λ (v : Volume). Reads v.geometry (journaled (words_of k.cells)) v) settled (has.rest.order.stands.reads (words_of k.cells) (IsImage-words_of k.cells)))

      sound-own : IsSound g0 (words_of k.cells)
      sound-own = record {
        count = subst (λ n. n ≤ 128) (sym idle) (omega arith);
        targets = λ r below. absurd (omega (arith, below, idle));
      } where
        idle : words_of k.cells commit_word ≡ 0
        idle = ap newest has.rest.order.stands.idle

      own : StillShows g0 (words_of k0.cells) (words_of k.cells)
      own =
          still-shows k0 may k.volume (words_of k.cells) has.sheds has.free has.rest.order.whole.kept.kept reads-own sound-own
          (λ i out line. ap newest (has.others i out line))

pub images-shed : (k0 k k2 : View) (ino c : ℕ) → MaySettle k0 → HasShed k0 k ino → IsShedCut c k k2 → Follows (StillShows k0.volume.geometry) k0.cells k2.cells
images-shed k0 k k2 ino c may has (nameless, inl off) =
    subst (λ (z : View). Follows (StillShows k0.volume.geometry) k0.cells z.cells) (sym off) (images-way k0 k ino may has)
images-shed k0 k k2 ino c may has (nameless, inr cut) =
    images-changed k0 k ino may has (dropped c k.volume) k2 (sheds_more k0.volume k.volume c has.sheds has.rest.order.whole.maps nameless)
    (omega (arith, has.free, frees_more k.volume c has.rest.order.whole cut.whole (used_below k.volume c nameless.file))) cut.whole.kept.kept cut.changes

-- what is answered where the power went
pub cut-of : (ino : ℕ) (old new : View) → IsDropAnswer ino old new (Err KFault.PowerLost) → IsOff old new ⊎ IsCut (dropped ino old.volume) old new
cut-of ino old new (inl off) = inl off
cut-of ino old new (inr (_, (done, w, made, cut))) = inr (subst (λ x. IsCut x old new) made cut)
