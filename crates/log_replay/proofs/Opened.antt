-- A device that was recovered from an image, and of which nameless files are gone: it is checked, and shows the content of the image.
use Rattle.std.proofs.Common.{◌≡◌, ℕ, ◌+◌, ◌*◌, ◌/◌, ◌<◌, ◌≤◌, true, false, List, [], Some, refl, sym, ◌∙◌, ap, subst, arith, inl, inr}
use Rattle.std.proofs.lemmas.Bool.{cases_lt}
use Rattle.std.proofs.lemmas.List.{get_or_past}
use Rattle.world_image_laws.specs.pm_model.declared.Cell.TheVariants.{Single}
use Rattle.world_image_laws.specs.pm_model.Cells.{cell, newest}
use Rattle.world_image_laws.specs.pm_model.ImageLaws.{IsImage-words_of}
use Rattle.world_image_laws.specs.pm_model.Images.{words_of}
use Rattle.world_image_laws.specs.pm_model.Words.{Words}
use Rattle.world_image_laws.specs.layout_model.Journal.{is_journal_word, journaled}
use Rattle.world_image_laws.specs.layout_model.PlaceLaws.{behind_log-words}
use Rattle.world_image_laws.specs.layout_model.Places.{Geometry, is_data_block, is_journaled_line}
use Rattle.world_image_laws.specs.extent_model.Extents.{covers}
use Rattle.world_image_laws.specs.layout_model.declared.lines.Kind.{Kind}
use Rattle.world_image_laws.specs.layout_model.declared.lines.Kind.TheVariants.{Directory, File, Free, Staging}
use Rattle.world_image_laws.specs.image_model.Checked.{IsCheckedAs}
use Rattle.world_image_laws.specs.image_model.Content.{content, disk_of, found}
use Rattle.world_image_laws.specs.image_model.Kept.{AreKept}
use Rattle.world_image_laws.specs.image_model.Live.{is_directory, live_entries}
use Rattle.world_image_laws.specs.image_model.Reading.{Reads}
use Rattle.world_image_laws.specs.image_model.Room.{unused_blocks}
use Rattle.world_image_laws.specs.image_model.Rules.{file_blocks_of, geometry_of, IsChecked}
use Rattle.world_image_laws.specs.image_model.Volume.{extents, inode, Volume, volume}
use Rattle.world_image_laws.specs.volume_laws.Footprint.{SameData}
use Rattle.world_image_laws.specs.volume_laws.FootprintLaws.{disk_of-covered, found-same}
use Rattle.world_image_laws.specs.volume_laws.LineWords.{data_word, data_word-not_journaled}
use Rattle.world_image_laws.specs.volume_laws.PoolLaws.{covered-in_data}
use Rattle.world_image_laws.specs.volume_laws.ImageLaws.{journaled-other}
use Rattle.world_image_laws.specs.image_laws.CheckedLaws.{head-checked, parts-checked, reads-checked}
use Rattle.world_image_laws.specs.volume_change_laws.CallLaws.{root-directory}
use Rattle.world_image_laws.specs.k_split_model.Stands.{Stands}
use Rattle.world_image_laws.specs.k_split_model.View.{View}
use Rattle.world_image_laws.specs.Changed.{sound_headed}
use Rattle.log_replay.specs.Laws.{IsCheckedToo, IsRecovered}
use Rattle.log_replay.specs.Sheds.{IsAtRest, SameOutside, Sheds}
use Rattle.log_replay.proofs.Checked.{checked_now, dead_now, numbers_now}
use Rattle.log_replay.proofs.Recovered.{recovers_checked}
use Rattle.log_replay.proofs.Same.{shows_the_same}

a_directory : (kind : Kind) → is_directory kind ≡ true → kind ≡ Directory
a_directory Free is = cc
a_directory Directory is = refl
a_directory File is = cc
a_directory Staging is = cc

-- a block that a file reads is a data block
read_in_data : (g : Geometry) (f : Words) (v : Volume) (ino block b : ℕ) → Reads g f v → AreKept v → disk_of v [] ino block ≡ Some b → is_data_block g b ≡ true
read_in_data g f v ino block b r kept is =
    let has = disk_of-covered v [] ino block b is in
    let inodes_are : v.geometry.inodes ≡ g.inodes = ap (λ (x : Geometry). x.inodes) r.geometry in
    elim (cases_lt has.0 g.inodes) [
      | inl below ↦
          subst (λ h. is_data_block h b ≡ true) r.geometry
          (covered-in_data v.geometry (file_blocks_of (inode v has.0).kind) (extents v has.0) b (kept.in_data has.0 (omega (arith, inodes_are))) has.1)
      | inr past ↦
          let none : covers (extents v has.0) b ≡ false = ap (λ es. covers es b) (get_or_past v.maps has.0 [] (omega (arith, r.map_count))) in
          let never : false ≡ true = sym none ∙ has.1 in
          absurd (cc)
    ]

module _ (g : Geometry) (image : Words) (k k2 : View) (numbers : geometry_of image ≡ g) (checked : IsChecked (4096 * g.blocks) image)
    (is : IsRecovered image k.cells) (volume_is : k.volume ≡ volume g (journaled image)) (rest : IsAtRest k)
    (sheds : Sheds k.volume k2.volume) (others : SameOutside k.volume.geometry k.cells k2.cells) where
  too : IsCheckedToo g image k.cells
  too = recovers_checked g image k.cells numbers checked is

  reads : Reads g (journaled image) k.volume
  reads = subst (Reads g (journaled image)) (sym volume_is) (subst (λ h. Reads h (journaled image) (volume h (journaled image))) numbers (reads-checked (4096 * g.blocks) image checked))

  -- the words of data blocks are those of the image
  pub same_word : (b j : ℕ) → is_data_block g b ≡ true → j < 512 → words_of k2.cells (512 * b + j) ≡ journaled image (512 * b + j)
  same_word b j in_data below =
      let out = behind_log-words g (512 * b + j) (data_word g b j in_data below) in
      let line = data_word-not_journaled g b j in_data below in
      ap newest (subst (λ h. SameOutside h k.cells k2.cells) reads.geometry others (512 * b + j) out line) ∙ ap newest (is.words (512 * b + j) out)

  -- what is found in words with the data of the image
  module _ (f : Words) (data_is : (b j : ℕ) → is_data_block g b ≡ true → j < 512 → f (512 * b + j) ≡ words_of k2.cells (512 * b + j)) where
    same_data : SameData k.volume [] (journaled image) f
    same_data = record {
      words = λ ino block b j file short at below. (
          let within = read_in_data g (journaled image) k.volume ino block b reads rest.order.whole.kept.kept at in
          data_is b j within below ∙ same_word b j within below);
    }

    pub shown_in : (path : List (List ℕ)) → found k2.volume [] f path ≡ found k.volume [] (journaled image) path
    shown_in path =
        shows_the_same k.volume k2.volume f path sheds (a_directory (inode k.volume 0).kind (root-directory k.volume rest.order.whole.kept))
        ∙ ap (λ c. c path) (found-same k.volume [] (journaled image) f same_data)

  -- the content of the image, where no entry is live
  pub content_of_image : live_entries (volume g (journaled image)) (journaled image) ≡ [] → (path : List (List ℕ)) → content g image path ≡ found k.volume [] (journaled image) path
  content_of_image dead path =
      ap (λ live. found (volume g (journaled image)) live (journaled image) path) dead ∙ ap (λ v. found v [] (journaled image) path) (sym volume_is)

  -- ---- the device is checked again

  same : (i : ℕ) → is_journal_word i ≡ false → is_journaled_line g (i / 8) ≡ false → cell k2.cells i ≡ cell k.cells i
  same = subst (λ h. SameOutside h k.cells k2.cells) reads.geometry others

  pub words_of_image : (i : ℕ) → is_journal_word i ≡ false → is_journaled_line g (i / 8) ≡ false → cell k2.cells i ≡ Single (image i)
  words_of_image i out line =
      same i out line
      ∙ (is.words i out
      ∙ ap Single (journaled-other g image i (sound_headed g image (record { head = head-checked (4096 * g.blocks) image checked; geometry = numbers })) out line))

  module _ (after : IsAtRest k2) (free : unused_blocks k.volume ≤ unused_blocks k2.volume)
      (dead : live_entries (volume g (journaled image)) (journaled image) ≡ []) where
    was : IsCheckedAs (4096 * g.blocks) (words_of k.cells) k.volume
    was =
        subst (IsCheckedAs (4096 * g.blocks) (words_of k.cells)) ((λ i. volume (too.geometry i) (too.seen i)) ∙ sym volume_is)
        (parts-checked (4096 * g.blocks) (words_of k.cells) too.checked)

    still_dead : live_entries k.volume (journaled (words_of k.cells)) ≡ []
    still_dead = (λ i. live_entries (volume_is i) (too.seen i)) ∙ dead

    committed_is : k2.committed ≡ k2.volume
    committed_is = after.order.settled after.unbatched

    stands : Stands g k2.volume k2.cells
    stands =
        subst (λ h. Stands h k2.volume k2.cells) (sheds.geometry ∙ reads.geometry)
        (subst (λ v. Stands v.geometry v k2.cells) committed_is after.order.stands)

    now_reads : Reads g (journaled (words_of k2.cells)) k2.volume
    now_reads = stands.reads (words_of k2.cells) (IsImage-words_of k2.cells)

    pub numbers_again : geometry_of (words_of k2.cells) ≡ g
    numbers_again =
        numbers_now g (words_of k.cells) k.volume k2.volume k2.cells too.geometry was sheds free still_dead now_reads after.order.whole.kept.kept (ap newest stands.idle)
        (λ i out line. ap newest (same i out line))

    pub checked_again : IsCheckedAs (4096 * g.blocks) (words_of k2.cells) k2.volume
    checked_again =
        checked_now g (words_of k.cells) k.volume k2.volume k2.cells too.geometry was sheds free still_dead now_reads after.order.whole.kept.kept (ap newest stands.idle)
        (λ i out line. ap newest (same i out line))

    pub dead_again : live_entries k2.volume (journaled (words_of k2.cells)) ≡ []
    dead_again =
        dead_now g (words_of k.cells) k.volume k2.volume k2.cells too.geometry was sheds free still_dead now_reads after.order.whole.kept.kept (ap newest stands.idle)
        (λ i out line. ap newest (same i out line))
