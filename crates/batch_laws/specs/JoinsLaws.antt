-- Changes of names that join the batch, and where the power goes in one.
use Rattle.std.specs.Prelude.{◌≡◌, ◌⊎◌, ◌/◌, ◌%◌, ◌<◌, ◌+◌, ◌*◌, ℕ, true, false, List, [], ◌++◌, Option, Some, None, Ok, Err, refl}
use Rattle.std.proofs.Common.{arith, ap, ◌∙◌, sym, subst, inl, inr}
use Rattle.eof_laws.specs.live_model.pm_model.declared.Cell.{Cell}
use Rattle.eof_laws.specs.live_model.pm_model.Frames.{KeepsSingle}
use Rattle.eof_laws.specs.live_model.pm_model.Images.{Follows, Follows-weaken, IsImage}
use Rattle.eof_laws.specs.live_model.pm_model.Words.{byte_of, Words}
use Rattle.eof_laws.specs.live_model.layout_model.Journal.{IsSound, journaled}
use Rattle.eof_laws.specs.live_model.layout_model.Places.{Geometry, is_data_block}
use Rattle.eof_laws.specs.live_model.layout_model.declared.lines.Draft.{Draft}
use Rattle.eof_laws.specs.live_model.layout_model.declared.lines.Kind.TheVariants.{File}
use Rattle.eof_laws.specs.live_model.image_model.Content.{byte_in, disk_of}
use Rattle.eof_laws.specs.live_model.image_model.Placed.{IsOutside}
use Rattle.eof_laws.specs.live_model.image_model.Volume.{inode, Volume}
use Rattle.eof_laws.specs.live_model.file_table.Files.{Files}
use Rattle.eof_laws.specs.live_model.k_split.declared.faults.KFault.{KFault}
use Rattle.eof_laws.specs.live_model.k_split.Answers.{Changes, IsCut, IsOff}
use Rattle.eof_laws.specs.live_model.k_split.Gathers.{Begins, HasJoined, IsCommitted as HasCommitted, IsGatherAnswer, IsJoinCut, Joins, WantsBlocks, WritesNone}
use Rattle.eof_laws.specs.live_model.k_split.Gathers.Begins.{BlocksWanted, InBatch, LinesFull}
use Rattle.eof_laws.specs.live_model.k_split.MapChanges.{ChangesMaps}
use Rattle.eof_laws.specs.live_model.k_split.Names.{make_row, rmdir_row}
use Rattle.eof_laws.specs.live_model.k_split.Order.{IsInOrder}
use Rattle.eof_laws.specs.live_model.k_split_model.Stands.{IsOldOrNew, Stands as StandsOn}
use Rattle.eof_laws.specs.live_model.k_split_model.View.{once_committed, View}
use Rattle.eof_laws.specs.live_model.commute_laws.posix_types.declared.item.Item.{Item}
use Rattle.eof_laws.specs.live_model.commute_laws.posix_types.declared.item.Outcome.{Outcome}
use Rattle.eof_laws.specs.live_model.posix_spec.Run.{run}
use Rattle.eof_laws.specs.live_model.posix_spec.State.{State}
use Rattle.eof_laws.specs.live_model.crash_spec.Posix.{LastBeforeCut}
use Rattle.eof_laws.specs.live_model.world_image_laws.Changed.{IsWorld-words, same_data, sound_headed}
use Rattle.eof_laws.specs.live_model.world_image_laws.Images.{IsHeaded}
use Rattle.eof_laws.specs.live_model.world_model.Lent.{disk_of-in_data}
use Rattle.eof_laws.specs.live_model.world_model.Shown.{SameButLent}
use Rattle.eof_laws.specs.live_model.world_model.Stands.{is_used, Stands}
use Rattle.k_group_commit.specs.OpenLaws.{covered-unchained}
use Rattle.k_split_laws.specs.Left.{IsLeftOf}
use Rattle.k_split_laws.specs.k_plans.Making.{IsMade}
use Rattle.k_split_laws.specs.k_plans.Removing.{IsRemoved}
use Rattle.posix_mode_laws.specs.Permits.{keeps_words}
use Rattle.posix_mode_laws.specs.Sides.{PosixWorld, Sides, sized}
use Rattle.batch_laws.specs.Changes.{IsGathered}
use Rattle.batch_laws.specs.Commits.{IsCommitted}
use Rattle.batch_laws.specs.CommitsLaws.{commit_goes_on, headed}
use Rattle.batch_laws.specs.Joins.{CommitIsFound, FoundGoesOn, IsFoundFor, IsJoinedFrom, IsStill, LossLeaves, MakeJoins, MakeLoses, RmdirJoins, RmdirLoses}
use Rattle.batch_laws.specs.Losses.{IsBegun, IsLostIn}
use Rattle.batch_laws.specs.Ready.{GoesReady}
use Rattle.batch_laws.specs.Standing.{as_claims, PosixGoing, sides_of, staged_of}
use Rattle.batch_laws.specs.WorldsLaws.{live_is_world}

-- ---- a volume by words of the same data

stands_again : (v : Volume) (f h : Words) (numbers : List ℕ) (s : State) → SameButLent v [] f h → Stands v [] f numbers s → Stands v [] h numbers s
stands_again v f h numbers s same stands = keeps_words v f h numbers s (λ ino i file below. by ino i (ap is_used file) (disk_of v [] ino (i / 4096)) refl) stands where
  by : (ino i : ℕ) → is_used (inode v ino).kind ≡ true → (o : Option ℕ) → disk_of v [] ino (i / 4096) ≡ o → byte_in h o i ≡ byte_in f o i
  by ino i used None is = refl
  by ino i used (Some b) is = same b (i % 4096) (disk_of-in_data v [] stands.sane stands.log ino (i / 4096) b used is) (omega arith) (λ lent. lent)

-- ---- K-Split as it was, by an image of the one before

module _ (g : Geometry) (k : View) (files : Files) (count : ℕ) (numbers : List ℕ) (start : State) (history : List Item) (ready : GoesReady g k files count numbers start history)
    (before image : Words) (is : IsImage k.cells before) (changed : IsOldOrNew k.committed.geometry [] k.committed k.committed before image) where
  abbrev going : PosixGoing g k files count numbers start history
  going = ready.going

  medium : k.committed.geometry ≡ g
  medium = sym ready.geometry ∙ going.geometry

  sound : IsSound k.committed.geometry before
  sound = subst (λ x. IsSound x before) (sym medium) (sound_headed g before (going.headed before is))

  -- data are the same
  same_bytes : (u : Volume) → u.geometry ≡ g → SameButLent u [] (journaled before) (journaled image)
  same_bytes u same b i in_data below lent =
      same_data k.committed.geometry k.committed k.committed before image sound changed b i (subst (λ x. is_data_block x b ≡ true) (same ∙ sym medium) in_data) below

  still_headed : IsHeaded g image
  still_headed = headed g k files count numbers start history ready before image is (record { reads = inl (elim changed.reads [ inl old ↦ old | inr old ↦ old ]); others = changed.others; sound = changed.sound })

  abbrev sides : Sides
  sides = sides_of k files ready.going.old_numbers numbers

  still_world : PosixWorld LastBeforeCut sides (journaled image) start ready.going.front ready.going.later
  still_world = record {
    medium = record {
      state = world.medium.state;
      shape = world.medium.shape;
      left = world.medium.left;
      stands = stands_again k.committed (journaled before) (journaled image) going.old_numbers world.medium.state (same_bytes k.committed medium) world.medium.stands;
      fsyncs = world.medium.fsyncs;
      published = world.medium.published;
    };
    cut = record {
      state = world.cut.state;
      shape = world.cut.shape;
      left = world.cut.left;
      stands = stands_again k.volume (journaled before) (journaled image) numbers world.cut.state (same_bytes k.volume going.geometry) world.cut.stands;
    };
    live = live;
    lengths = world.lengths;
    blocks = world.blocks;
    cuts = world.cuts;
  } where
    world : PosixWorld LastBeforeCut sides (journaled before) start ready.going.front ready.going.later
    world = going.world before is

    live : Stands (sized files.sizes k.volume) (staged_of k.volume files) (journaled image) numbers (run start (going.front ++ going.later))
    live =
        let v : Volume = sized files.sizes k.volume in
        let seen = live_is_world g k files count numbers start history before going is in
        let again = IsWorld-words v (as_claims (staged_of k.volume files)) [] (journaled before) (journaled image) numbers (run start history) count (same_bytes v going.geometry) seen.0 in
        subst (λ h. Stands v (staged_of k.volume files) (journaled image) numbers (run start h)) going.history_is
        (subst (λ ds. Stands v ds (journaled image) numbers (run start history)) seen.1 again.valid.stands)

-- ---- K-Split as it was

still_goes_on : (g : Geometry) (k : View) (d : List Cell) (files : Files) (count : ℕ) (numbers : List ℕ) (start : State) (history : List Item) → GoesReady g k files count numbers start history
    → IsInOrder (record k { cells = d }) → Changes k.committed k.committed k.cells d → KeepsSingle k.cells d → GoesReady g (record k { cells = d }) files count numbers start history
still_goes_on g k d files count numbers start history ready order changes singles = record {
  going = record {
    mode = going.mode;
    order = order;
    batched = going.batched;
    on = going.on;
    geometry = going.geometry;
    is_geometry = going.is_geometry;
    publishing = going.publishing;
    fits = going.fits;
    shape = going.shape;
    blocks = going.blocks;
    quiet = λ i journal line home. singles i (going.quiet i journal line (sym (changes.lent i) ∙ home));
    home = λ i lent. going.home i (sym (changes.lent i) ∙ lent);
    sizes = going.sizes;
    bare = going.bare;
    alive = going.alive;
    aged = going.aged;
    spare = going.spare;
    front = going.front;
    later = going.later;
    history_is = going.history_is;
    old_numbers = going.old_numbers;
    world = λ image is. (let from = changes.each_image image is in still_world g k files count numbers start history ready from.0 image from.1.is_image from.2);
    headed = λ image is. (let from = changes.each_image image is in still_headed g k files count numbers start history ready from.0 image from.1.is_image from.2);
    fits_front = going.fits_front;
    shape_front = going.shape_front;
    free = going.free;
  };
  geometry = ready.geometry;
  base = ready.base;
  unmapped = ready.unmapped;
  room = ready.room;
} where
  going : PosixGoing g k files count numbers start history
  going = ready.going

pub found_goes_on : FoundGoesOn
found_goes_on g k mid files count numbers start history ready (inl still) =
    subst (λ (m : View). GoesReady g m files count numbers start history) (sym still.same)
    (still_goes_on g k mid.cells files count numbers start history ready (subst IsInOrder still.same still.order) still.changes still.singles)
found_goes_on g k mid files count numbers start history ready (inr committed) = (commit_goes_on g k mid files count numbers start history ready committed).ready

-- ---- a commit

pub commit_is_found : CommitIsFound
commit_is_found k l batched on committed = record {
  volume = ap (λ (m : View). m.volume) committed.same;
  committed = ap (λ (m : View). m.committed) committed.same;
  order = committed.order;
  batched = ap (λ (m : View). m.batched) committed.same ∙ batched;
  on = ap (λ (m : View). m.lost) committed.same ∙ on;
  changes = committed.changes;
  singles = committed.singles;
}

-- ---- no block is written

no_block_changed : (blocks : List ℕ) (u v : Volume) (d e : List Cell) → blocks ≡ [] → ChangesMaps blocks u v d e → Changes u v d e
no_block_changed blocks u v d e none changes = record {
  size = changes.size;
  lent = changes.lent;
  each_image = subst (λ bs. Follows (IsOldOrNew u.geometry bs u v) d e) none changes.each_image;
  others = λ i journal line. changes.others i journal line (subst (λ bs. IsOutside bs i) (sym none) (λ j below at. absurd (omega (arith, below))));
}

-- what reads as the old volume reads as the old one or another
old_changed : (u v : Volume) (d e : List Cell) → Changes u u d e → Changes u v d e
old_changed u v d e changes = record {
  size = changes.size;
  lent = changes.lent;
  each_image = Follows-weaken (IsOldOrNew u.geometry [] u u) (IsOldOrNew u.geometry [] u v) d e (λ a b is. record { reads = inl (elim is.reads [ inl old ↦ old | inr old ↦ old ]); others = is.others; sound = is.sound }) changes.each_image;
  others = changes.others;
}

-- ---- K-Split in order, by the device behind a change

module _ (k : View) (order : IsInOrder k) (u : Volume) (d : List Cell) (stands : StandsOn u.geometry u d) (singles : KeepsSingle k.cells d) where
  still_in_order : u ≡ k.committed → IsInOrder (record k { cells = d })
  still_in_order same = record {
    stands = subst (λ (x : Volume). StandsOn x.geometry x d) same stands;
    whole = order.whole;
    full = order.full;
    committed = order.committed;
    geometry = order.geometry;
    waits = order.waits;
    unused = order.unused;
    unchained = order.unchained;
    journaled = order.journaled;
    few = order.few;
    empty = order.empty;
    settled = order.settled;
    none_waits = order.none_waits;
    none_set = order.none_set;
    unstaged = λ i in_data none. singles i (order.unstaged i in_data none);
  }

  committed_in_order : u ≡ k.volume → IsInOrder (record (once_committed k) { cells = d })
  committed_in_order same = record {
    stands = subst (λ (x : Volume). StandsOn x.geometry x d) same stands;
    whole = order.whole;
    full = order.full;
    committed = order.whole;
    geometry = refl;
    waits = λ b among. (let never : false ≡ true = among in cc);
    unused = λ b unused free. unused;
    unchained = λ b has. covered-unchained k.volume b order.whole has;
    journaled = λ line among. (let never : false ≡ true = among in cc);
    few = omega arith;
    empty = λ none. (refl, refl);
    settled = λ never. refl;
    none_waits = λ never. refl;
    none_set = λ never. refl;
    unstaged = λ i in_data none. singles i (order.unstaged i in_data none);
  }

-- ---- a change of names joined

pub names_joined : {T : Type 0} (refused : Option Outcome) (Makes : T → Volume → Type 0) (k l : View) (t : T) → IsInOrder k → k.batched ≡ true → k.lost ≡ false → IsGatherAnswer refused (WritesNone Makes) k l (Ok t)
    → Makes t l.volume × IsJoinedFrom k l
names_joined {T} refused Makes k l t order batched on is = (join.makes.0, by join.begins) where
  join : Joins (WritesNone Makes) t k l.volume
  join = is.1.0

  joined : HasJoined join.lines join.blocks join.base k l
  joined = is.1.1

  changes : Changes k.committed l.committed k.cells l.cells
  changes = no_block_changed join.blocks k.committed l.committed k.cells l.cells join.makes.1 joined.changes

  still : l.committed ≡ k.committed → IsJoinedFrom k l
  still at = record {
    mid = record k { cells = l.cells };
    found = inl (record {
      same = refl;
      order = still_in_order k order l.committed l.cells joined.order.stands joined.singles at;
      changes = subst (λ (u : Volume). Changes k.committed u k.cells l.cells) at changes;
      singles = joined.singles;
    });
    volume = refl;
    gathered = record { volume = refl; committed = at; cells = refl; order = joined.order; batched = joined.batched; on = joined.kept_on };
  }

  committed : l.committed ≡ k.volume → IsJoinedFrom k l
  committed at = record {
    mid = record (once_committed k) { cells = l.cells };
    found = inr (record {
      volume = refl;
      committed = refl;
      order = committed_in_order k order l.committed l.cells joined.order.stands joined.singles at;
      batched = batched;
      on = on;
      changes = subst (λ (u : Volume). Changes k.committed u k.cells l.cells) at changes;
      singles = joined.singles;
    });
    volume = refl;
    gathered = record { volume = refl; committed = at; cells = refl; order = joined.order; batched = joined.batched; on = joined.kept_on };
  }

  by : Begins (WritesNone Makes) k join.lines join.seen join.base → IsJoinedFrom k l
  by (InBatch fits seen base) = still (joined.committed ∙ ap (λ (m : View). m.committed) base)
  by (LinesFull full seen base) = committed (joined.committed ∙ ap (λ (m : View). m.committed) base)
  by (BlocksWanted wants seen base) = absurd (wants.lacks t l.volume join.blocks join.makes)

pub make_joins : MakeJoins
make_joins directory p k l ino order batched on is = names_joined (make_row p k) (λ i w. IsMade directory p k.volume w i) k l ino order batched on is

pub rmdir_joins : RmdirJoins
rmdir_joins p k l order batched on is = names_joined {T = Unit {0}} (rmdir_row p k) (λ done w. IsRemoved p k.volume w) k l tt order batched on is

-- ---- the power went in one

pub names_lost : {T : Type 0} (refused : Option Outcome) (Makes : T → Volume → Type 0) (k l : View) → IsGatherAnswer refused (WritesNone Makes) k l (Err KFault.PowerLost) → IsLostIn k l
names_lost {T} refused Makes k l (inl off) = inr (k, inl refl, ap (λ (m : View). m.cells) off)
names_lost {T} refused Makes k l (inr (inl within)) = inl within.2.changes
names_lost {T} refused Makes k l (inr (inr cut)) = inl (by join.begins) where
  join : Joins (WritesNone Makes) cut.1.0 k cut.1.1
  join = cut.1.2

  changes : Changes k.committed join.base.committed k.cells l.cells
  changes = no_block_changed join.blocks k.committed join.base.committed k.cells l.cells join.makes.1 cut.1.3.changes

  by : Begins (WritesNone Makes) k join.lines join.seen join.base → Changes k.committed k.volume k.cells l.cells
  by (InBatch fits seen base) = old_changed k.committed k.volume k.cells l.cells (subst (λ (m : View). Changes k.committed m.committed k.cells l.cells) base changes)
  by (LinesFull full seen base) = subst (λ (m : View). Changes k.committed m.committed k.cells l.cells) base changes
  by (BlocksWanted wants seen base) = subst (λ (m : View). Changes k.committed m.committed k.cells l.cells) base changes

pub make_loses : MakeLoses
make_loses directory p k l is = names_lost {T = ℕ} (make_row p k) (λ i w. IsMade directory p k.volume w i) k l is

pub rmdir_loses : RmdirLoses
rmdir_loses p k l is = names_lost {T = Unit {0}} (rmdir_row p k) (λ done w. IsRemoved p k.volume w) k l is

-- ---- what it leaves of the device

-- changes between two volumes of the medium's geometry
left_changed : (g : Geometry) (u v : Volume) (d e : List Cell) → u.geometry ≡ g → Changes u v d e → IsLeftOf g d e
left_changed g u v d e same changes = record { size = changes.size; lent = changes.lent; sound = λ image is. subst (λ x. IsSound x image) same (changes.each_image image is).2.sound }

left_there : (g : Geometry) (k : View) (files : Files) (count : ℕ) (numbers : List ℕ) (start : State) (history : List Item) → GoesReady g k files count numbers start history → IsLeftOf g k.cells k.cells
left_there g k files count numbers start history ready = record { size = refl; lent = λ i. refl; sound = λ image is. sound_headed g image (ready.going.headed image is) }

pub loss_leaves : LossLeaves
loss_leaves g k l files count numbers start history ready (inl changes) = left_changed g k.committed k.volume k.cells l.cells (sym ready.geometry ∙ ready.going.geometry) changes
loss_leaves g k l files count numbers start history ready (inr begun) = subst (λ (d : List Cell). IsLeftOf g k.cells d) (sym begun.2) (by begun.1) where
  by : IsBegun k begun.0 → IsLeftOf g k.cells begun.0.cells
  by (inl same) = subst (λ (m : View). IsLeftOf g k.cells m.cells) (sym same) (left_there g k files count numbers start history ready)
  by (inr committed) = left_changed g k.committed k.volume k.cells begun.0.cells (sym ready.geometry ∙ ready.going.geometry) committed.changes
