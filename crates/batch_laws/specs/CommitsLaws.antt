-- A commit between two calls, done or cut off.
use Rattle.std.specs.Prelude.{◌≡◌, ◌⊎◌, ◌≤◌, ◌+◌, ℕ, true, List, [], ◌++◌, map, refl}
use Rattle.std.proofs.Common.{arith, ap, append-nil, ◌∙◌, sym, subst, inl, inr}
use Rattle.eof_laws.specs.live_model.pm_model.Images.{IsImage}
use Rattle.eof_laws.specs.live_model.pm_model.Words.{Words}
use Rattle.eof_laws.specs.live_model.layout_model.Journal.{IsSound, journaled}
use Rattle.eof_laws.specs.live_model.layout_model.Places.{data_blocks, Geometry, is_data_block, IsGeometry, reserve}
use Rattle.eof_laws.specs.live_model.image_model.Reading.{Reads}
use Rattle.eof_laws.specs.live_model.image_model.Room.{unused_blocks}
use Rattle.eof_laws.specs.live_model.image_model.Volume.{Volume}
use Rattle.eof_laws.specs.live_model.file_table.Files.{Files}
use Rattle.eof_laws.specs.live_model.k_split.Order.{IsInOrder}
use Rattle.eof_laws.specs.live_model.k_split_model.Stands.{IsOldOrNew}
use Rattle.eof_laws.specs.live_model.k_split_model.View.{View}
use Rattle.eof_laws.specs.live_model.commute_laws.posix_types.declared.call.Mode.{Mode}
use Rattle.eof_laws.specs.live_model.commute_laws.posix_types.declared.item.Item.{Item}
use Rattle.eof_laws.specs.live_model.posix_spec.Run.{begun, run, Unfinished}
use Rattle.eof_laws.specs.live_model.posix_spec.State.{Fits, State}
use Rattle.eof_laws.specs.live_model.posix_laws.Lasting.{run_lasts}
use Rattle.eof_laws.specs.live_model.crash_spec.Permitted.{StronglyPermitted}
use Rattle.eof_laws.specs.live_model.crash_spec.Posix.{LastBeforeCut}
use Rattle.eof_laws.specs.live_model.world_model.Rules.{HasFreeBlocks}
use Rattle.eof_laws.specs.live_model.world_model.Shown.{SameButLent}
use Rattle.eof_laws.specs.live_model.world_model.Stands.{Stands}
use Rattle.eof_laws.specs.live_model.world_step_laws.Counts.{HasShape}
use Rattle.eof_laws.specs.live_model.world_image_laws.Changed.{headed_changed, IsWorld-words, same_data, SameLog-changed, ShowsLog-same, sound_headed}
use Rattle.eof_laws.specs.live_model.world_image_laws.Images.{IsHeaded, ShowsLog, ShowsWorld}
use Rattle.eof_laws.specs.live_model.world_image_laws.Kept.{kept_by, one_tree}
use Rattle.eof_laws.specs.live_model.world_image_laws.Promised.{IsKept}
use Rattle.posix_mode_laws.specs.CutStands.{cut_is_one, left_fits}
use Rattle.posix_mode_laws.specs.Sides.{AreLengths, PosixWorld, Sides, sized}
use Rattle.posix_mode_laws.specs.Steps.{batch_commits, permitted_left}
use Rattle.batch_laws.specs.Standing.{as_claims, PosixGoing, sides_of, staged_of}
use Rattle.batch_laws.specs.WorldsLaws.{cut_is_world, live_is_world}
use Rattle.batch_laws.specs.Commits.{CommitGoesOn, CommitKeepsLog, CommitKeepsPromise, GoesCommitted, IsCommitted}
use Rattle.batch_laws.specs.Ready.{GoesReady}

-- the sides once the batch is committed
abbrev at_rest : Volume → Files → List ℕ → Sides
at_rest v files numbers = record { committed = v; committed_numbers = numbers; batch = v; numbers = numbers; staged = staged_of v files; lengths = files.sizes }

-- ---- an image within the commit, and the one before from which it comes

module _ (g : Geometry) (k : View) (files : Files) (count : ℕ) (numbers : List ℕ) (start : State) (history : List Item) (ready : GoesReady g k files count numbers start history)
    (before image : Words) (is : IsImage k.cells before) (changed : IsOldOrNew k.committed.geometry [] k.committed k.volume before image) where
  going : PosixGoing g k files count numbers start history
  going = ready.going

  medium : k.committed.geometry ≡ g
  medium = sym ready.geometry ∙ going.geometry

  sound : IsSound k.committed.geometry before
  sound = subst (λ x. IsSound x before) (sym medium) (sound_headed g before (going.headed before is))

  pub headed : IsHeaded g image
  headed =
      subst (λ x. IsHeaded x image) medium
      (headed_changed k.committed.geometry k.committed k.volume before image (subst (λ x. IsHeaded x before) (sym medium) (going.headed before is)) changed ready.base
      (going.order.stands.reads before is).base)

  -- data are the same
  same_bytes : (u : Volume) → u.geometry ≡ g → SameButLent u [] (journaled before) (journaled image)
  same_bytes u same b i in_data below lent =
      same_data k.committed.geometry k.committed k.volume before image sound changed b i (subst (λ x. is_data_block x b ≡ true) (same ∙ sym medium) in_data) below

  -- the log of the committed volume, as this volume of its geometry and lap sees it
  log : (u : Volume) → u.geometry ≡ k.committed.geometry → u.base ≡ k.committed.base → ShowsLog k.committed [] (journaled before) → ShowsLog u [] (journaled image)
  log u geometry base shows = ShowsLog-same k.committed u [] (journaled before) (journaled image) geometry base (SameLog-changed k.committed.geometry k.committed k.volume before image sound changed) shows

  -- THE COMMITTED BATCH, by the words of this image: all of the history is kept.
  committed_world : PosixWorld LastBeforeCut (at_rest k.volume files numbers) (journaled image) start history []
  committed_world =
      let v : Volume = sized files.sizes k.volume in
      let x : Sides = sides_of k files going.old_numbers numbers in
      let s : State = run start history in
      let live = live_is_world g k files count numbers start history before going is in
      let seen = IsWorld-words v (as_claims (staged_of k.volume files)) [] (journaled before) (journaled image) numbers s count (same_bytes v going.geometry) live.0 in
      let cut = IsWorld-words k.volume [] [] (journaled before) (journaled image) numbers _ count (same_bytes k.volume going.geometry) (cut_is_world g k files count numbers start history before going is) in
      batch_commits x (journaled image) start history
      ((cut_is_one x (journaled image) s).1 cut.valid.stands)
      (subst (λ ds. Stands v ds (journaled image) numbers s) live.1 seen.valid.stands)
      (subst (λ h. AreLengths x (run start h)) (sym going.history_is) (going.world before is).lengths)

pub commit_keeps_log : CommitKeepsLog
commit_keeps_log g k l files count numbers start history ready committed home image is =
    let from = committed.changes.each_image image is in
    log g k files count numbers start history ready from.0 image from.1.is_image from.2 l.committed
    (ap (λ (v : Volume). v.geometry) committed.committed ∙ ready.geometry) (ap (λ (v : Volume). v.base) committed.committed ∙ ready.base) (home from.0 from.1.is_image)

-- ---- the commit is done

abbrev at_new : View → View → View
at_new k l = record l { volume = k.volume; committed = k.volume }

is_new : (k l : View) → IsCommitted k l → l ≡ at_new k l
is_new k l committed = λ i. record l { volume = committed.volume i; committed = committed.committed i }

-- blocks enough are free of a volume without a claim
pub spare_blocks : (g : Geometry) (v : Volume) → v.geometry ≡ g → reserve g ≤ unused_blocks v + 3 → HasFreeBlocks v [] []
spare_blocks g v same spare = let own = subst (λ x. reserve x ≤ unused_blocks v + 3) (sym same) spare in omega (arith, own)

goes_committed : (g : Geometry) (k l : View) (files : Files) (count : ℕ) (numbers : List ℕ) (start : State) (history : List Item) → GoesReady g k files count numbers start history → IsCommitted k l
    → GoesCommitted g (at_new k l) files count numbers start history
goes_committed g k l files count numbers start history ready committed = record {
  ready = record {
    going = record {
      mode = going.mode;
      order = subst IsInOrder (is_new k l committed) committed.order;
      batched = committed.batched;
      on = committed.on;
      geometry = going.geometry;
      is_geometry = going.is_geometry;
      publishing = going.publishing;
      fits = going.fits;
      shape = going.shape;
      blocks = going.blocks;
      quiet = λ i journal line home. committed.singles i (going.quiet i journal line (sym (committed.changes.lent i) ∙ home));
      home = λ i lent. going.home i (sym (committed.changes.lent i) ∙ lent);
      sizes = going.sizes;
      bare = going.bare;
      alive = going.alive;
      aged = going.aged;
      spare = going.spare;
      front = history;
      later = [];
      history_is = sym (append-nil history);
      old_numbers = numbers;
      world = λ image is.
          let from = committed.changes.each_image image is in
          committed_world g k files count numbers start history ready from.0 image from.1.is_image from.2;
      headed = λ image is.
          let from = committed.changes.each_image image is in
          headed g k files count numbers start history ready from.0 image from.1.is_image from.2;
      fits_front = going.fits;
      shape_front = going.shape;
      free = spare_blocks g k.volume going.geometry going.spare;
    };
    geometry = refl;
    base = refl;
    unmapped = ready.unmapped;
    room = ready.room;
  };
  front = refl;
  later = refl;
} where
  going : PosixGoing g k files count numbers start history
  going = ready.going

pub commit_goes_on : CommitGoesOn
commit_goes_on g k l files count numbers start history ready committed =
    subst (λ (m : View). GoesCommitted g m files count numbers start history) (sym (is_new k l committed)) (goes_committed g k l files count numbers start history ready committed)

-- ---- the promise of an image that shows a medium

module _ (w : Sides) (f : Words) (start : State) (front later : List Item) (world : PosixWorld LastBeforeCut w f start front later) (image : Words) where
  medium_fits : Fits (run start front) → Fits world.medium.state
  medium_fits fits = left_fits (LastBeforeCut (run start front) (map begun later)) (run start front) world.medium.state world.medium.left (world.medium.shape ∙ sym (run_lasts start front).shape) fits

  medium_shape : HasShape w.committed (run start front) → HasShape w.committed world.medium.state
  medium_shape shape =
      let same = world.medium.shape ∙ sym (run_lasts start front).shape in
      record {
        root = subst (λ x. 1 ≤ x.nodes) (sym same) shape.root;
        nodes = ap (λ x. x.nodes + 4) same ∙ shape.nodes;
        names = ap (λ x. x.names) same ∙ shape.names;
      }

  -- by other words, of which the data are the same
  pub shows_medium : Fits (run start front) → HasShape w.committed (run start front) → start.shape.data_blocks ≡ data_blocks w.committed.geometry → IsGeometry w.committed.geometry → HasFreeBlocks w.committed [] []
      → IsHeaded w.committed.geometry image → Reads w.committed.geometry (journaled image) w.committed → SameButLent w.committed [] f (journaled image) → ShowsLog w.committed [] (journaled image)
      → ShowsWorld w.committed [] [] w.committed_numbers world.medium.state 0 image
  shows_medium fits shape blocks geometry free headed reads same log = record {
    headed = headed;
    reads = reads;
    world = IsWorld-words w.committed [] [] f (journaled image) w.committed_numbers world.medium.state 0 same (record {
      valid = record { stands = world.medium.stands; out = tt; fits = medium_fits fits; room = omega arith };
      claims_stand = record { orders = λ a b d e first second other d_file e_file one. absurd first; settled = λ slot d there file. absurd there };
      aged = record { small = omega arith; staging = λ d there. absurd there; own = λ d there. absurd there; taken = λ d there. absurd there };
      shape = medium_shape shape;
      geometry = geometry;
    });
    room = record { free = free; blocks = ap (λ x. x.data_blocks) world.medium.shape ∙ blocks };
    landed = [];
    filled = tt;
    log = log;
  }

  module _ (unfinished : List Unfinished) (shown : ShowsWorld w.committed [] [] w.committed_numbers world.medium.state 0 image) where
    -- it is kept
    pub kept : start.mode ≡ Mode.Posix → IsKept w.committed.geometry start (front ++ later) unfinished image
    kept mode =
        kept_by w.committed [] [] w.committed_numbers world.medium.state 0 image start (front ++ later) unfinished shown
        (λ left tree_is. subst (λ m. StronglyPermitted m start (front ++ later) unfinished left) (sym mode)
        (permitted_left LastBeforeCut w f start front later unfinished left world
        (one_tree w.committed [] w.committed_numbers world.medium.state 0 image left shown tree_is)))

-- ---- the commit is cut off

-- each image shows the old medium, or the new one
module _ (g : Geometry) (k : View) (files : Files) (count : ℕ) (numbers : List ℕ) (start : State) (history : List Item) (ready : GoesReady g k files count numbers start history)
    (before image : Words) (is : IsImage k.cells before) (changed : IsOldOrNew k.committed.geometry [] k.committed k.volume before image) (seen : ShowsLog k.committed [] (journaled image)) where
  abbrev standing : PosixGoing g k files count numbers start history
  standing = ready.going

  abbrev medium_is : k.committed.geometry ≡ g
  medium_is = medium g k files count numbers start history ready before image is changed

  abbrev old_sides : Sides
  old_sides = sides_of k files ready.going.old_numbers numbers

  abbrev old_world : PosixWorld LastBeforeCut old_sides (journaled before) start ready.going.front ready.going.later
  old_world = ready.going.world before is

  abbrev new_world : PosixWorld LastBeforeCut (at_rest k.volume files numbers) (journaled image) start history []
  new_world = committed_world g k files count numbers start history ready before image is changed

  abbrev Shows : Type 0
  Shows =
      ShowsWorld k.committed [] [] ready.going.old_numbers old_world.medium.state 0 image
      ⊎ ShowsWorld k.volume [] [] numbers new_world.medium.state 0 image

  shows : Shows
  shows = by changed.reads where
    head : IsHeaded g image
    head = headed g k files count numbers start history ready before image is changed

    by : Reads k.committed.geometry (journaled image) k.committed ⊎ Reads k.committed.geometry (journaled image) k.volume → Shows
    by (inl old) = inl (
        shows_medium old_sides (journaled before) start standing.front standing.later old_world image standing.fits_front standing.shape_front
        (standing.blocks ∙ ap data_blocks (sym medium_is)) (subst IsGeometry (sym medium_is) standing.is_geometry) standing.free (subst (λ x. IsHeaded x image) (sym medium_is) head) old
        (same_bytes g k files count numbers start history ready before image is changed k.committed medium_is)
        seen)
    by (inr new) = inr (
        shows_medium (at_rest k.volume files numbers) (journaled image) start history [] new_world image standing.fits standing.shape
        (standing.blocks ∙ ap data_blocks (sym standing.geometry)) (subst IsGeometry (sym standing.geometry) standing.is_geometry) (spare_blocks g k.volume standing.geometry standing.spare)
        (subst (λ x. IsHeaded x image) (sym standing.geometry) head) (subst (λ x. Reads x (journaled image) k.volume) (sym ready.geometry) new) (λ b i in_data below lent. refl)
        (ShowsLog-same k.committed k.volume [] (journaled image) (journaled image) ready.geometry ready.base (record { words = λ slot i below at. refl }) seen))

  pub cut_kept : (unfinished : List Unfinished) → IsKept g start history unfinished image
  cut_kept unfinished = elim shows [
    | inl old ↦
        subst (λ h. IsKept g start h unfinished image) (sym standing.history_is)
        (subst (λ x. IsKept x start (standing.front ++ standing.later) unfinished image) medium_is
        (kept old_sides (journaled before) start standing.front standing.later old_world image unfinished old standing.mode))
    | inr new ↦
        subst (λ h. IsKept g start h unfinished image) (append-nil history)
        (subst (λ x. IsKept x start (history ++ []) unfinished image) standing.geometry
        (kept (at_rest k.volume files numbers) (journaled image) start history [] new_world image unfinished new standing.mode))
  ]

pub commit_keeps_promise : CommitKeepsPromise
commit_keeps_promise g k l files count numbers start history unfinished ready home changes image is honest =
    let from = changes.each_image image is in
    cut_kept g k files count numbers start history ready from.0 image from.1.is_image from.2
    (log g k files count numbers start history ready from.0 image from.1.is_image from.2 k.committed refl refl (home from.0 from.1.is_image)) unfinished
