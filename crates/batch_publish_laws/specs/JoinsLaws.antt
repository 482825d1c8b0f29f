-- Where a change of maps joins the batch, and where the power goes then.
use Rattle.batch_laws.specs.CommitsLaws.{kept, shows_medium, spare_blocks}
use Rattle.batch_laws.specs.Ready.{GoesReady}
use Rattle.batch_laws.specs.Standing.{PosixGoing, sides_of, staged_of}
use Rattle.batch_laws.specs.WorldsLaws.{cut_is_world}
use Rattle.batch_publish_laws.specs.Changes.{IsMapGathered}
use Rattle.batch_publish_laws.specs.ChangesLaws.{at_in, named_same, unused_data}
use Rattle.batch_publish_laws.specs.CommittedLaws.{at_rest}
use Rattle.batch_publish_laws.specs.Joins.{IsBase, IsMapJoined, IsWrittenFrom, JoinGoesOn, JoinLossIsKept, base_behind}
use Rattle.batch_publish_laws.specs.Named.{SameNamed, stands_same}
use Rattle.batch_publish_laws.specs.StillsLaws.{gathered_still}
use Rattle.batch_publish_laws.specs.Words.{headed_written}
use Rattle.live_model.specs.commute_laws.posix_types.declared.item.Item.{Item}
use Rattle.live_model.specs.crash_spec.Posix.{LastBeforeCut}
use Rattle.live_model.specs.file_table.Files.{Files}
use Rattle.live_model.specs.image_model.Content.{disk_of}
use Rattle.live_model.specs.image_model.Placed.{block_at}
use Rattle.live_model.specs.image_model.Reading.{Reads}
use Rattle.live_model.specs.image_model.Volume.{Volume}
use Rattle.live_model.specs.k_split.Order.{IsInOrder}
use Rattle.live_model.specs.k_split.k_group_commit.OpenLaws.{covered-unchained}
use Rattle.live_model.specs.k_split_model.Stands.{IsOldOrNew, Stands as StandsAt}
use Rattle.live_model.specs.k_split_model.View.{once_committed, View}
use Rattle.live_model.specs.layout_model.Journal.{IsSound, journaled}
use Rattle.live_model.specs.layout_model.Places.{Geometry, IsGeometry, data_blocks, is_data_block}
use Rattle.live_model.specs.list_laws.Members.{In}
use Rattle.live_model.specs.pm_model.Images.{IsImage}
use Rattle.live_model.specs.pm_model.Words.{Words}
use Rattle.live_model.specs.posix_laws.Publishes.{IsPublishing}
use Rattle.live_model.specs.posix_spec.Run.{Unfinished, run}
use Rattle.live_model.specs.posix_spec.State.{Fits, State}
use Rattle.live_model.specs.world_image_laws.Changed.{ShowsLog-same, sound_headed}
use Rattle.live_model.specs.world_image_laws.Images.{IsHeaded, ShowsLog, ShowsWorld}
use Rattle.live_model.specs.world_image_laws.Promised.{IsKept}
use Rattle.live_model.specs.world_image_laws.image_model.Content.{byte_in}
use Rattle.live_model.specs.world_image_laws.world_model.TreeRules.{used_below}
use Rattle.live_model.specs.world_model.Rules.{HasFreeBlocks}
use Rattle.live_model.specs.world_model.Stands.{IsSane, Stands, is_used}
use Rattle.live_model.specs.world_step_laws.Counts.{HasShape}
use Rattle.posix_mode_laws.specs.Batch.{IsBatch, KeepsShown}
use Rattle.posix_mode_laws.specs.BatchSteps.{batch_steps}
use Rattle.posix_mode_laws.specs.Sides.{AreLengths, BatchStands, PosixWorld, Sides, sized}
use Rattle.posix_mode_laws.specs.Sized.{length-with_sizes}
use Rattle.posix_mode_laws.specs.Steps.{batch_commits}
use Rattle.std.proofs.Common.{ap, append-nil, arith, inl, inr, subst, sym, ◌∙◌}
use Rattle.std.specs.Prelude.{List, None, Option, Some, [], false, refl, true, ℕ, ◌%◌, ◌++◌, ◌/◌, ◌<◌, ◌≡◌}
use Rattle.world_write_laws.specs.volume_laws.Uses.{is_unused}

-- ---- an image behind it, and the one before from which it comes

module _ (g : Geometry) (k : View) (files : Files) (count : ℕ) (numbers : List ℕ) (start : State) (history : List Item) (ready : GoesReady g k files count numbers start history)
    (c : Volume) (blocks : List ℕ) (free : (b : ℕ) → In b blocks → is_unused k.volume b ≡ true) (lap : c.base ≡ k.committed.base)
    (before image : Words) (is : IsImage k.cells before) (changed : IsOldOrNew k.committed.geometry blocks k.committed c before image) where
  abbrev going : PosixGoing g k files count numbers start history
  going = ready.going

  abbrev sides : Sides
  sides = sides_of k files ready.going.old_numbers numbers

  abbrev world : PosixWorld LastBeforeCut (sides_of k files ready.going.old_numbers numbers) (journaled before) start ready.going.front ready.going.later
  world = ready.going.world before is

  medium : k.committed.geometry ≡ g
  medium = sym ready.geometry ∙ going.geometry

  in_blocks : (b : ℕ) → In b blocks → is_data_block k.committed.geometry b ≡ true
  in_blocks b among = subst (λ x. is_data_block x b ≡ true) ready.geometry (unused_data k.volume b (free b among))

  sound : IsSound k.committed.geometry before
  sound = subst (λ x. IsSound x before) (sym medium) (sound_headed g before (going.headed before is))

  same_in : (u : Volume) → IsSane u → u.geometry ≡ g → ((b : ℕ) → In b blocks → is_unused u b ≡ true) → SameNamed u (journaled before) (journaled image)
  same_in u sane geometry unused = named_same blocks k.committed.geometry u k.committed c before image sane (geometry ∙ sym medium) sound changed in_blocks unused

  same_batch : SameNamed k.volume (journaled before) (journaled image)
  same_batch = same_in k.volume (cut_is_world g k files count numbers start history before going is).valid.stands.sane going.geometry free

  same_live : SameNamed (sized files.sizes k.volume) (journaled before) (journaled image)
  same_live = record { each = λ ino block b i below at within. same_batch.each ino block b i (subst (λ n. ino < n) (length-with_sizes k.volume.inodes files.sizes) below) at within }

  cut_at : BatchStands sides (journaled image) (run start (going.front ++ going.later))
  cut_at = record {
    state = world.cut.state;
    shape = world.cut.shape;
    left = world.cut.left;
    stands = stands_same k.volume [] (journaled before) (journaled image) world.cut.stands.log same_batch numbers world.cut.state world.cut.stands;
  }

  live_at : Stands (sized files.sizes k.volume) (staged_of k.volume files) (journaled image) numbers (run start (going.front ++ going.later))
  live_at = stands_same (sized files.sizes k.volume) (staged_of k.volume files) (journaled before) (journaled image) world.live.log same_live numbers (run start (going.front ++ going.later)) world.live

  pub image_headed : IsHeaded g image
  image_headed =
      subst (λ x. IsHeaded x image) medium
      (headed_written k.committed.geometry blocks k.committed c before image (λ j below. in_blocks (block_at blocks j) (at_in blocks j below)) changed (subst (λ x. IsHeaded x before) (sym medium) (going.headed before is)) lap
      (going.order.stands.reads before is).base)

  -- the medium is what it was,
  pub world_still : ((b : ℕ) → In b blocks → is_unused k.committed b ≡ true) → PosixWorld LastBeforeCut sides (journaled image) start going.front going.later
  world_still unused =
      subst (λ h. PosixWorld LastBeforeCut sides (journaled image) start going.front h) (append-nil going.later)
      (batch_steps sides sides (journaled before) (journaled image) start going.front going.later [] world (subst (λ h. IsPublishing (run start h)) going.history_is going.publishing) refl refl shown tt
      (subst (λ h. IsBatch sides (journaled image) start going.front h) (sym (append-nil going.later)) (record { cut = cut_at; live = live_at; lengths = world.lengths; blocks = world.blocks; cuts = world.cuts })))
    where
      same : SameNamed k.committed (journaled before) (journaled image)
      same = same_in k.committed world.medium.stands.sane medium unused

      shown : KeepsShown k.committed (journaled before) (journaled image)
      shown ino i file below = by (disk_of k.committed [] ino (i / 4096)) refl where
        by : (o : Option ℕ) → disk_of k.committed [] ino (i / 4096) ≡ o → byte_in (journaled image) o i ≡ byte_in (journaled before) o i
        by None at = refl
        by (Some b) at = same.each ino (i / 4096) b (i % 4096) (used_below k.committed ino (ap is_used file)) at (omega arith)

  -- or it is the batch
  pub world_anew : PosixWorld LastBeforeCut (at_rest k.volume files numbers) (journaled image) start history []
  world_anew =
      batch_commits sides (journaled image) start history (subst (λ h. BatchStands sides (journaled image) (run start h)) (sym going.history_is) cut_at)
      (subst (λ h. Stands (sized files.sizes k.volume) (staged_of k.volume files) (journaled image) numbers (run start h)) (sym going.history_is) live_at)
      (subst (λ h. AreLengths sides (run start h)) (sym going.history_is) world.lengths)

-- ---- the device at the base

-- the device is in order at the base, with the batch as it was
order_same : (g : Geometry) (k l : View) (files : Files) (count : ℕ) (numbers : List ℕ) (start : State) (history : List Item) (blocks : List ℕ) (w : Volume) → GoesReady g k files count numbers start history
    → IsMapJoined blocks k k l w → IsInOrder (base_behind k l)
order_same g k l files count numbers start history blocks w ready joined = record {
  stands = subst (λ (v : Volume). StandsAt v.geometry v l.cells) joined.committed joined.order.stands;
  whole = order.whole;
  full = order.full;
  committed = order.committed;
  geometry = order.geometry;
  waits = order.waits;
  unused = order.unused;
  unchained = order.unchained;
  journaled = order.journaled;
  few = order.few;
  empty = order.empty;
  settled = order.settled;
  none_waits = order.none_waits;
  none_set = order.none_set;
  unstaged = λ i among out. joined.singles i (order.unstaged i among out);
} where
  order : IsInOrder k
  order = ready.going.order

-- or committed before: then no block waits, and no line is set
order_anew : (g : Geometry) (k l : View) (files : Files) (count : ℕ) (numbers : List ℕ) (start : State) (history : List Item) (blocks : List ℕ) (w : Volume) → GoesReady g k files count numbers start history
    → IsMapJoined blocks (once_committed k) k l w → IsInOrder (base_behind (once_committed k) l)
order_anew g k l files count numbers start history blocks w ready joined = record {
  stands = subst (λ (v : Volume). StandsAt v.geometry v l.cells) joined.committed joined.order.stands;
  whole = order.whole;
  full = order.full;
  committed = order.whole;
  geometry = refl;
  waits = λ b among. (let never : false ≡ true = among in cc);
  unused = λ b unused settled. unused;
  unchained = λ b has. covered-unchained k.volume b order.whole has;
  journaled = λ line among. (let never : false ≡ true = among in cc);
  few = omega arith;
  empty = λ none. (refl, refl);
  settled = λ off. refl;
  none_waits = λ off. refl;
  none_set = λ off. refl;
  unstaged = λ i among out. joined.singles i (order.unstaged i among out);
} where
  order : IsInOrder k
  order = ready.going.order

-- with the batch as it was
at_same : (g : Geometry) (k l : View) (files : Files) (count : ℕ) (numbers : List ℕ) (start : State) (history : List Item) (blocks : List ℕ) (w : Volume) → GoesReady g k files count numbers start history
    → IsMapJoined blocks k k l w → GoesReady g (base_behind k l) files count numbers start history
at_same g k l files count numbers start history blocks w ready joined = record {
  going = record {
    mode = going.mode;
    order = order_same g k l files count numbers start history blocks w ready joined;
    batched = going.batched;
    on = going.on;
    geometry = going.geometry;
    is_geometry = going.is_geometry;
    publishing = going.publishing;
    fits = going.fits;
    shape = going.shape;
    blocks = going.blocks;
    quiet = λ i journal line home. joined.singles i (going.quiet i journal line (sym (joined.written.changes.lent i) ∙ home));
    home = λ i lent. going.home i (sym (joined.written.changes.lent i) ∙ lent);
    sizes = going.sizes;
    bare = going.bare;
    alive = going.alive;
    aged = going.aged;
    spare = going.spare;
    front = going.front;
    later = going.later;
    history_is = going.history_is;
    old_numbers = going.old_numbers;
    world = λ image is.
        let from = joined.written.changes.each_image image is in
        world_still g k files count numbers start history ready k.committed blocks joined.written.spare.batch refl from.0 image from.1.is_image from.2 joined.written.spare.committed;
    headed = λ image is.
        let from = joined.written.changes.each_image image is in
        image_headed g k files count numbers start history ready k.committed blocks joined.written.spare.batch refl from.0 image from.1.is_image from.2;
    fits_front = going.fits_front;
    shape_front = going.shape_front;
    free = going.free;
  };
  geometry = ready.geometry;
  base = ready.base;
  unmapped = ready.unmapped;
  room = ready.room;
} where
  going : PosixGoing g k files count numbers start history
  going = ready.going

-- or committed before
at_anew : (g : Geometry) (k l : View) (files : Files) (count : ℕ) (numbers : List ℕ) (start : State) (history : List Item) (blocks : List ℕ) (w : Volume) → GoesReady g k files count numbers start history
    → IsMapJoined blocks (once_committed k) k l w → GoesReady g (base_behind (once_committed k) l) files count numbers start history
at_anew g k l files count numbers start history blocks w ready joined = record {
  going = record {
    mode = going.mode;
    order = order_anew g k l files count numbers start history blocks w ready joined;
    batched = going.batched;
    on = going.on;
    geometry = going.geometry;
    is_geometry = going.is_geometry;
    publishing = going.publishing;
    fits = going.fits;
    shape = going.shape;
    blocks = going.blocks;
    quiet = λ i journal line home. joined.singles i (going.quiet i journal line (sym (joined.written.changes.lent i) ∙ home));
    home = λ i lent. going.home i (sym (joined.written.changes.lent i) ∙ lent);
    sizes = going.sizes;
    bare = going.bare;
    alive = going.alive;
    aged = going.aged;
    spare = going.spare;
    front = history;
    later = [];
    history_is = sym (append-nil history);
    old_numbers = numbers;
    world = λ image is.
        let from = joined.written.changes.each_image image is in
        world_anew g k files count numbers start history ready k.volume blocks joined.written.spare.batch ready.base from.0 image from.1.is_image from.2;
    headed = λ image is.
        let from = joined.written.changes.each_image image is in
        image_headed g k files count numbers start history ready k.volume blocks joined.written.spare.batch ready.base from.0 image from.1.is_image from.2;
    fits_front = going.fits;
    shape_front = going.shape;
    free = spare_blocks g k.volume going.geometry going.spare;
  };
  geometry = refl;
  base = refl;
  unmapped = ready.unmapped;
  room = ready.room;
} where
  going : PosixGoing g k files count numbers start history
  going = ready.going

-- the change from there on
from_base : (g : Geometry) (k l base : View) (files : Files) (count : ℕ) (numbers : List ℕ) (start : State) (history : List Item) (blocks : List ℕ) (w : Volume)
    → GoesReady g (base_behind base l) files count numbers start history → IsMapJoined blocks base k l w → IsMapGathered blocks (base_behind base l) l w
from_base g k l base files count numbers start history blocks w ready joined =
    gathered_still g (base_behind base l) l files count numbers start history blocks w ready
    (record { volume = joined.volume; committed = joined.committed; cells = refl; order = joined.order; batched = joined.batched; on = joined.on })
    (record { committed = joined.written.spare.committed; batch = joined.written.spare.batch })

pub join_goes_on : JoinGoesOn
join_goes_on g k l base files count numbers start history blocks w ready is_base joined =
    let behind : GoesReady g (base_behind base l) files count numbers start history = at is_base in
    (behind, from_base g k l base files count numbers start history blocks w behind joined)
  where
    at : IsBase k base → GoesReady g (base_behind base l) files count numbers start history
    at (inl same) =
        subst (λ (b : View). IsMapJoined blocks b k l w → GoesReady g (base_behind b l) files count numbers start history) (sym same) (at_same g k l files count numbers start history blocks w ready) joined
    at (inr committed) =
        subst (λ (b : View). IsMapJoined blocks b k l w → GoesReady g (base_behind b l) files count numbers start history) (sym committed) (at_anew g k l files count numbers start history blocks w ready) joined

-- ---- the power goes

module _ (g : Geometry) (k : View) (files : Files) (count : ℕ) (numbers : List ℕ) (start : State) (history : List Item) (unfinished : List Unfinished)
    (ready : GoesReady g k files count numbers start history) (image : Words) where
  abbrev pub Kept : Type 0
  Kept = IsKept g start history unfinished image

  abbrev standing : PosixGoing g k files count numbers start history
  standing = ready.going

  -- an image that shows a World of POSIX mode
  pub shown_kept : (x : Sides) (front later : List Item) → history ≡ front ++ later → x.committed.geometry ≡ g → PosixWorld LastBeforeCut x (journaled image) start front later → Fits (run start front)
      → HasShape x.committed (run start front) → HasFreeBlocks x.committed [] [] → IsHeaded g image → Reads x.committed.geometry (journaled image) x.committed → ShowsLog x.committed [] (journaled image) → Kept
  shown_kept x front later history_is same world fits shape free headed reads shows =
      subst (λ h. IsKept g start h unfinished image) (sym history_is)
      (subst (λ y. IsKept y start (front ++ later) unfinished image) same (kept x (journaled image) start front later world image unfinished seen standing.mode)) where
        seen : ShowsWorld x.committed [] [] x.committed_numbers world.medium.state 0 image
        seen =
            shows_medium x (journaled image) start front later world image fits shape (standing.blocks ∙ ap data_blocks (sym same)) (subst IsGeometry (sym same) standing.is_geometry) free
            (subst (λ y. IsHeaded y image) (sym same) headed) reads (λ b i in_data below lent. refl) shows

module _ (g : Geometry) (k l : View) (files : Files) (count : ℕ) (numbers : List ℕ) (start : State) (history : List Item) (blocks : List ℕ) (unfinished : List Unfinished)
    (ready : GoesReady g k files count numbers start history) (image : Words) (is : IsImage l.cells image) (log : ShowsLog k.committed [] (journaled image)) where
  medium_still : k.committed.geometry ≡ g
  medium_still = sym ready.geometry ∙ ready.going.geometry

  abbrev KeptHere : Type 0
  KeptHere = IsKept g start history unfinished image

  still_kept : IsWrittenFrom blocks k k l → KeptHere
  still_kept written =
      let from = written.changes.each_image image is in
      shown_kept g k files count numbers start history unfinished ready image (sides_of k files ready.going.old_numbers numbers) ready.going.front ready.going.later ready.going.history_is medium_still
      (world_still g k files count numbers start history ready k.committed blocks written.spare.batch refl from.0 image from.1.is_image from.2 written.spare.committed) ready.going.fits_front ready.going.shape_front ready.going.free
      (image_headed g k files count numbers start history ready k.committed blocks written.spare.batch refl from.0 image from.1.is_image from.2) (written.reads image is) log

  anew_kept : IsWrittenFrom blocks (once_committed k) k l → KeptHere
  anew_kept written =
      let from = written.changes.each_image image is in
      shown_kept g k files count numbers start history unfinished ready image (at_rest k.volume files numbers) history [] (sym (append-nil history)) ready.going.geometry
      (world_anew g k files count numbers start history ready k.volume blocks written.spare.batch ready.base from.0 image from.1.is_image from.2) ready.going.fits ready.going.shape
      (spare_blocks g k.volume ready.going.geometry ready.going.spare)
      (image_headed g k files count numbers start history ready k.volume blocks written.spare.batch ready.base from.0 image from.1.is_image from.2) (written.reads image is)
      (ShowsLog-same k.committed k.volume [] (journaled image) (journaled image) ready.geometry ready.base (record { words = λ slot i below at. refl }) log)

pub join_loss_is_kept : JoinLossIsKept
join_loss_is_kept g k l base files count numbers start history blocks unfinished ready (inl same) written image is log =
    still_kept g k l files count numbers start history blocks unfinished ready image is log (subst (λ (b : View). IsWrittenFrom blocks b k l) same written)
join_loss_is_kept g k l base files count numbers start history blocks unfinished ready (inr committed) written image is log =
    anew_kept g k l files count numbers start history blocks unfinished ready image is log (subst (λ (b : View). IsWrittenFrom blocks b k l) committed written)
