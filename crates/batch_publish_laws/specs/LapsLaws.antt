-- The next lap of the log begins.
use Rattle.batch_laws.specs.CommitsLaws.{spare_blocks}
use Rattle.batch_laws.specs.Ready.{GoesReady}
use Rattle.batch_laws.specs.Standing.{PosixGoing, as_claims, sides_of, staged_of}
use Rattle.batch_laws.specs.WorldsLaws.{cut_is_world, live_is_world}
use Rattle.batch_publish_laws.specs.CommittedLaws.{at_rest}
use Rattle.batch_publish_laws.specs.JoinsLaws.{image_headed, shown_kept, world_still}
use Rattle.batch_publish_laws.specs.Laps.{IsNextLap, LapGoesOn, LapLossIsKept}
use Rattle.batch_publish_laws.specs.Named.{SameNamed, world_named}
use Rattle.batch_publish_laws.specs.Words.{headed_based}
use Rattle.live_model.specs.commute_laws.posix_types.declared.item.Item.{Item}
use Rattle.live_model.specs.crash_spec.Posix.{LastBeforeCut}
use Rattle.live_model.specs.file_table.Files.{Files}
use Rattle.live_model.specs.image_model.Room.{unused_blocks}
use Rattle.live_model.specs.image_model.Uses.{owners}
use Rattle.live_model.specs.image_model.Volume.{Volume}
use Rattle.live_model.specs.k_split.Order.{IsInOrder}
use Rattle.live_model.specs.k_split_model.Stands.{IsOldOrNew}
use Rattle.live_model.specs.k_split_model.View.{View}
use Rattle.live_model.specs.layout_model.Journal.{IsSound, journaled}
use Rattle.live_model.specs.layout_model.Places.{Geometry, is_data_block, reserve}
use Rattle.live_model.specs.layout_model.declared.lines.Draft.{Draft}
use Rattle.live_model.specs.pm_model.ImageLaws.{IsImage-words_of}
use Rattle.live_model.specs.pm_model.Images.{ComesFrom, IsImage, words_of}
use Rattle.live_model.specs.pm_model.Words.{Words}
use Rattle.live_model.specs.posix_laws.Cuts.{cut_of}
use Rattle.live_model.specs.posix_spec.Run.{run}
use Rattle.live_model.specs.posix_spec.State.{State}
use Rattle.live_model.specs.world_image_laws.Changed.{same_data, sound_headed}
use Rattle.live_model.specs.world_image_laws.Images.{IsHeaded}
use Rattle.live_model.specs.world_model.Stands.{IsSane, Stands}
use Rattle.live_model.specs.world_model.image_model.Reading.{base_set}
use Rattle.live_model.specs.world_step_laws.Ages.{AreAged}
use Rattle.live_model.specs.world_step_laws.Worlds.{IsWorld}
use Rattle.live_model.specs.image_model.Reading.{Reads}
use Rattle.live_model.specs.k_split.Answers.{Changes}
use Rattle.live_model.specs.list_laws.Members.{In}
use Rattle.live_model.specs.pm_model.declared.Cell.{Cell}
use Rattle.live_model.specs.world_image_laws.Promised.{IsKept}
use Rattle.posix_mode_laws.specs.CutStands.{cut_is_one}
use Rattle.posix_mode_laws.specs.Sides.{AreLengths, PosixWorld, Sides, sized}
use Rattle.posix_mode_laws.specs.Steps.{batch_commits}
use Rattle.std.proofs.Common.{append-nil, arith, inl, inr, subst, sym, ◌∙◌}
use Rattle.std.specs.Prelude.{List, [], length, refl, true, ℕ, ◌+◌, ◌^◌, ◌<◌, ◌≡◌, ◌≤◌, ◌⊎◌}
use Rattle.world_write_laws.specs.JobSteps.{lap}
use Rattle.world_write_laws.specs.layout_model.Places.{base_word}
use Rattle.world_write_laws.specs.volume_laws.Uses.{is_unused}
use Rattle.world_write_laws.specs.world_model.Lent.{in_data}

same_unused : (base : ℕ) (v : Volume) → unused_blocks (base_set base v) ≡ unused_blocks v
unfolding owners
same_unused base v = refl

-- ---- an image that reads as the next lap

module _ (g : Geometry) (k : View) (files : Files) (count : ℕ) (numbers : List ℕ) (start : State) (history : List Item) (base : ℕ)
    (ready : GoesReady g k files count numbers start history) (none : staged_of k.volume files ≡ []) (least : 1 ≤ base) (most : base ≤ 2 ^ 63)
    (cells : List Cell) (changes : Changes k.committed (base_set base k.volume) k.cells cells) where
  abbrev going : PosixGoing g k files count numbers start history
  going = ready.going

  abbrev s : State
  s = run start history

  abbrev sides : Sides
  sides = record { committed = k.committed; committed_numbers = ready.going.old_numbers; batch = base_set base k.volume; numbers = numbers; staged = staged_of (base_set base k.volume) files; lengths = files.sizes }

  medium : k.committed.geometry ≡ g
  medium = sym ready.geometry ∙ going.geometry

  module _ (image : Words) (is : IsImage cells image) (reads : Reads k.committed.geometry (journaled image) (base_set base k.volume)) where
    from : (before : Words) × ComesFrom k.cells image before × IsOldOrNew k.committed.geometry [] k.committed (base_set base k.volume) before image
    from = changes.each_image image is

    before_image : IsImage k.cells from.0
    before_image = from.1.is_image

    sound : IsSound k.committed.geometry from.0
    sound = subst (λ x. IsSound x from.0) (sym medium) (sound_headed g from.0 (going.headed from.0 before_image))

    base_is : journaled image base_word ≡ base
    base_is = sym reads.base

    pub headed : IsHeaded g image
    headed =
        subst (λ x. IsHeaded x image) medium
        (headed_based k.committed.geometry [] k.committed (base_set base k.volume) from.0 image (λ j below. absurd (never j below)) from.2 (subst (λ x. IsHeaded x from.0) (sym medium) (going.headed from.0 before_image))
        (subst (λ n. 1 ≤ n) (sym base_is) least) (subst (λ n. n ≤ 2 ^ 63) (sym base_is) most))
      where
        never : (j : ℕ) → j < 0 → ⊥
        never j below = omega (arith, below)

    same_in : (u : Volume) → IsSane u → u.geometry ≡ g → SameNamed u (journaled from.0) (journaled image)
    same_in u sane same = record {
      each = λ ino block b i below at within.
          same_data k.committed.geometry k.committed (base_set base k.volume) from.0 image sound from.2 b i (subst (λ x. is_data_block x b ≡ true) (same ∙ sym medium) (in_data u sane ino block b below at)) within;
    }

    live : IsWorld (sized files.sizes (base_set base k.volume)) [] [] (journaled image) numbers s 0
    live =
        let world = live_is_world g k files count numbers start history from.0 going before_image in
        lap (sized files.sizes k.volume) (as_claims (staged_of k.volume files)) (journaled image) numbers s count base
        (world_named (sized files.sizes k.volume) (as_claims (staged_of k.volume files)) (journaled from.0) (journaled image) numbers s count (same_in (sized files.sizes k.volume) world.0.valid.stands.sane going.geometry) world.0)
        (world.1 ∙ none)

    pub cut : IsWorld (base_set base k.volume) [] [] (journaled image) numbers (cut_of s) 0
    cut =
        let world = cut_is_world g k files count numbers start history from.0 going before_image in
        lap k.volume [] (journaled image) numbers (cut_of s) count base
        (world_named k.volume [] (journaled from.0) (journaled image) numbers (cut_of s) count (same_in k.volume world.valid.stands.sane going.geometry) world) refl

    lengths : AreLengths sides s
    lengths =
        let kept = (going.world from.0 before_image).lengths in
        subst (λ h. AreLengths sides (run start h)) (sym going.history_is) (record { count = kept.count; each = kept.each })

    pub world : PosixWorld LastBeforeCut (at_rest (base_set base k.volume) files numbers) (journaled image) start history []
    world =
        batch_commits sides (journaled image) start history ((cut_is_one sides (journaled image) s).1 cut.valid.stands)
        (subst (λ (ds : List Draft). Stands (sized files.sizes (base_set base k.volume)) ds (journaled image) numbers s) (sym none) live.valid.stands) lengths

-- ---- the lap began

module _ (g : Geometry) (k l : View) (files : Files) (count : ℕ) (numbers : List ℕ) (start : State) (history : List Item) (base : ℕ)
    (ready : GoesReady g k files count numbers start history) (none : staged_of k.volume files ≡ []) (next : IsNextLap base k l) where
  abbrev standing : PosixGoing g k files count numbers start history
  standing = ready.going

  reads_next : (image : Words) → IsImage l.cells image → Reads k.committed.geometry (journaled image) (base_set base k.volume)
  reads_next image is = subst (λ x. Reads x (journaled image) (base_set base k.volume)) ready.geometry
      (subst (λ (v : Volume). Reads v.geometry (journaled image) v) (next.committed ∙ next.volume) (next.order.stands.reads image is))

  abbrev at_new : View
  at_new = record l { volume = base_set base k.volume; committed = base_set base k.volume }

  is_new : l ≡ at_new
  is_new = let both = next.committed ∙ next.volume in λ i. record l { volume = next.volume i; committed = both i }

  some_cut : IsWorld (base_set base k.volume) [] [] (journaled (words_of l.cells)) numbers (cut_of (run start history)) 0
  some_cut = cut g k files count numbers start history base ready none next.least next.most l.cells next.changes (words_of l.cells) (IsImage-words_of l.cells) (reads_next (words_of l.cells) (IsImage-words_of l.cells))

  goes_on : GoesReady g at_new files 0 numbers start history
  goes_on = record {
    going = record {
      mode = standing.mode;
      order = subst IsInOrder is_new next.order;
      batched = next.batched;
      on = next.on;
      geometry = standing.geometry;
      is_geometry = standing.is_geometry;
      publishing = standing.publishing;
      fits = standing.fits;
      shape = record { root = standing.shape.root; nodes = standing.shape.nodes; names = standing.shape.names };
      blocks = standing.blocks;
      quiet = λ i journal line home. next.singles i (standing.quiet i journal line (sym (next.changes.lent i) ∙ home));
      home = λ i lent. standing.home i (sym (next.changes.lent i) ∙ lent);
      sizes = standing.sizes;
      bare = standing.bare;
      alive = standing.alive;
      aged = subst (λ (ds : List Draft). AreAged (base_set base k.volume) (as_claims ds) 0) (sym none) some_cut.aged;
      spare = subst (λ n. reserve g ≤ n + 3) (sym (same_unused base k.volume)) standing.spare;
      front = history;
      later = [];
      history_is = sym (append-nil history);
      old_numbers = numbers;
      world = λ image is. world g k files count numbers start history base ready none next.least next.most l.cells next.changes image is (reads_next image is);
      headed = λ image is. headed g k files count numbers start history base ready none next.least next.most l.cells next.changes image is (reads_next image is);
      fits_front = standing.fits;
      shape_front = record { root = standing.shape.root; nodes = standing.shape.nodes; names = standing.shape.names };
      free = spare_blocks g (base_set base k.volume) standing.geometry (subst (λ n. reserve g ≤ n + 3) (sym (same_unused base k.volume)) standing.spare);
    };
    geometry = refl;
    base = refl;
    unmapped = ready.unmapped;
    room = subst (λ n. length (staged_of k.volume files) + reserve k.volume.geometry ≤ n + 3) (sym (same_unused base k.volume)) ready.room;
  }

pub lap_goes_on : LapGoesOn
lap_goes_on g k l files count numbers start history base ready none next =
    subst (λ (x : View). GoesReady g x files 0 numbers start history) (sym (is_new g k l files count numbers start history base ready none next))
    (goes_on g k l files count numbers start history base ready none next)

-- ---- the power goes

pub lap_loss_is_kept : LapLossIsKept
lap_loss_is_kept g k files count numbers start history base cells image unfinished ready none least most changes is old_log new_log = by from.2.reads
  where
    from : (before : Words) × ComesFrom k.cells image before × IsOldOrNew k.committed.geometry [] k.committed (base_set base k.volume) before image
    from = changes.each_image image is

    medium : k.committed.geometry ≡ g
    medium = sym ready.geometry ∙ ready.going.geometry

    no_block : (b : ℕ) → In b [] → is_unused k.volume b ≡ true
    no_block b among = absurd among

    spare : reserve g ≤ unused_blocks (base_set base k.volume) + 3
    spare = subst (λ n. reserve g ≤ n + 3) (sym (same_unused base k.volume)) ready.going.spare

    by : Reads k.committed.geometry (journaled image) k.committed ⊎ Reads k.committed.geometry (journaled image) (base_set base k.volume)
        → IsKept g start history unfinished image
    by (inl old) =
        let changed : IsOldOrNew k.committed.geometry [] k.committed k.committed from.0 image = record { reads = inl old; others = from.2.others; sound = from.2.sound } in
        shown_kept g k files count numbers start history unfinished ready image (sides_of k files ready.going.old_numbers numbers) ready.going.front ready.going.later
        ready.going.history_is medium (world_still g k files count numbers start history ready k.committed [] no_block refl from.0 image from.1.is_image changed (λ b among. absurd among)) ready.going.fits_front
        ready.going.shape_front ready.going.free (image_headed g k files count numbers start history ready k.committed [] no_block refl from.0 image from.1.is_image changed) old (old_log old)
    by (inr new) =
        shown_kept g k files count numbers start history unfinished ready image (at_rest (base_set base k.volume) files numbers) history [] (sym (append-nil history))
        ready.going.geometry (world g k files count numbers start history base ready none least most cells changes image is new) ready.going.fits
        (record { root = ready.going.shape.root; nodes = ready.going.shape.nodes; names = ready.going.shape.names }) (spare_blocks g (base_set base k.volume) ready.going.geometry spare)
        (headed g k files count numbers start history base ready none least most cells changes image is new) (subst (λ x. Reads x (journaled image) (base_set base k.volume)) (sym ready.geometry) new) (new_log new)
