-- A change of maps that gathers: the batch stands behind it, the device goes on, or the batch is committed.
use Rattle.batch_laws.specs.Goings.{IsLeftGoing}
use Rattle.batch_laws.specs.GoingsLaws.{going_goes_on}
use Rattle.batch_laws.specs.Ready.{AreUnmapped, GoesReady}
use Rattle.batch_laws.specs.Standing.{PosixGoing, as_claims, sides_of, staged_of}
use Rattle.batch_laws.specs.Steps.{TakesBlocks}
use Rattle.batch_laws.specs.StepsLaws.{blocks_stay, worlds_make_batch}
use Rattle.batch_laws.specs.WorldsLaws.{cut_is_world, live_is_world}
use Rattle.batch_publish_laws.specs.Changes.{BatchComesFrom, BatchGoesOn, ChangeLeavesBatch, IsMapGathered, KeepsKinds, LeavesBatch, TakesBoth}
use Rattle.batch_publish_laws.specs.Named.{SameNamed, world_named}
use Rattle.batch_publish_laws.specs.Words.{headed_written, same_block, same_log}
use Rattle.live_model.specs.Flying.{IsOut}
use Rattle.live_model.specs.commute_laws.posix_types.declared.item.Item.{Item}
use Rattle.live_model.specs.extent_model.Extents.{disk_at}
use Rattle.live_model.specs.extent_model.declared.extent_words.Extent.{Extent}
use Rattle.live_model.specs.file_table.Files.{Files}
use Rattle.live_model.specs.image_model.Content.{disk_of}
use Rattle.live_model.specs.image_model.Live.{is_live}
use Rattle.live_model.specs.image_model.Placed.{block_at}
use Rattle.live_model.specs.image_model.Reading.{Reads}
use Rattle.live_model.specs.image_model.Room.{has_none, unused_blocks}
use Rattle.live_model.specs.image_model.Uses.{owners}
use Rattle.live_model.specs.image_model.Volume.{Volume, chain, extents, inode}
use Rattle.live_model.specs.k_split_model.Stands.{IsOldOrNew}
use Rattle.live_model.specs.k_split_model.View.{View}
use Rattle.live_model.specs.layout_model.Journal.{IsSound, journaled}
use Rattle.live_model.specs.layout_model.Places.{Geometry, is_data_block, log_line, reserve}
use Rattle.live_model.specs.layout_model.declared.lines.Draft.{Draft}
use Rattle.live_model.specs.list_laws.Members.{In}
use Rattle.live_model.specs.pm_model.ImageLaws.{IsImage-words_of}
use Rattle.live_model.specs.pm_model.Images.{ComesFrom, IsImage, words_of}
use Rattle.live_model.specs.pm_model.Words.{Words}
use Rattle.live_model.specs.posix_laws.Cuts.{cut_of}
use Rattle.live_model.specs.posix_laws.Publishes.{IsPublishing}
use Rattle.live_model.specs.posix_spec.Run.{run}
use Rattle.live_model.specs.posix_spec.State.{State}
use Rattle.live_model.specs.volume_laws.PoolLaws.{unused-unchained}
use Rattle.live_model.specs.world_image_laws.Changed.{sound_headed}
use Rattle.live_model.specs.world_image_laws.Images.{IsHeaded}
use Rattle.live_model.specs.world_image_laws.extent_model.Covers.{covers-disk_at}
use Rattle.live_model.specs.world_image_laws.image_model.Content.{byte_in}
use Rattle.live_model.specs.world_image_laws.world_model.TreeRules.{used_below}
use Rattle.live_model.specs.world_model.Stands.{IsSane, is_used}
use Rattle.live_model.specs.world_step_laws.Ages.{AreAged}
use Rattle.live_model.specs.world_step_laws.Counts.{HasShape}
use Rattle.live_model.specs.world_step_laws.Worlds.{IsWorld}
use Rattle.posix_mode_laws.specs.Batch.{IsBatch, KeepsShown}
use Rattle.posix_mode_laws.specs.ClaimsLaws.{generation_sized}
use Rattle.posix_mode_laws.specs.Sides.{IsFresh, KeepsCutBytes, Sides, UsesNoFreed, sized}
use Rattle.posix_mode_laws.specs.Sized.{kind-sized, length-with_sizes}
use Rattle.std.proofs.Common.{ap, append_assoc, arith, inl, inr, subst, sym, ◌∙◌}
use Rattle.std.proofs.lemmas.Bool.{cases_lt}
use Rattle.std.proofs.lemmas.List.{get_or_past}
use Rattle.std.specs.Prelude.{All, Bool, List, None, Option, Some, [], false, length, refl, suc, true, zero, ℕ, ◌%◌, ◌&&◌, ◌++◌, ◌+◌, ◌/◌, ◌<◌, ◌∷◌, ◌≡◌, ◌≢◌, ◌≤◌, ◌⊎◌}
use Rattle.world_write_laws.specs.volume_laws.PoolLaws.{unused-uncovered}
use Rattle.world_write_laws.specs.volume_laws.Uses.{is_unused}
use Rattle.world_write_laws.specs.world_model.Lent.{in_data}

-- ---- blocks that nothing names

pub at_in : (blocks : List ℕ) (k : ℕ) → k < length blocks → In (block_at blocks k) blocks
at_in [] k below = absurd (omega (arith, below))
at_in (b ∷ blocks) zero below = inl refl
at_in (b ∷ blocks) (suc k) below = inr (at_in blocks k (omega (arith, below)))

both_parts : (a b : Bool) → (a && b) ≡ true → (a ≡ true) × (b ≡ true)
both_parts true true is = (refl, refl)
both_parts true false is = cc
both_parts false b is = cc

-- such a block is a data block, in no map and in no chain
pub unused_data : (v : Volume) (b : ℕ) → is_unused v b ≡ true → is_data_block v.geometry b ≡ true
unused_data v b free = (both_parts (is_data_block v.geometry b) (has_none (owners v b)) free).0

pub unused_unmapped : (v : Volume) (b ino block : ℕ) → length v.maps ≡ length v.inodes → is_unused v b ≡ true → disk_at (extents v ino) block ≢ Some b
unused_unmapped v b ino block all free at = elim (cases_lt ino (length v.inodes)) [
  | inl below ↦
      let never : true ≡ false = sym (covers-disk_at (extents v ino) block b at) ∙ unused-uncovered v b ino below free in cc
  | inr past ↦
      let none : extents v ino ≡ [] = get_or_past v.maps ino [] (omega (arith, past, all)) in
      let never : None ≡ Some b = sym (ap (λ (es : List Extent). disk_at es block) none) ∙ at in cc
]

pub unused_unchained : (v : Volume) (b ino k : ℕ) → length v.chains ≡ length v.inodes → length v.inodes ≡ v.geometry.inodes → is_unused v b ≡ true → k < length (chain v ino) → block_at (chain v ino) k ≢ b
unused_unchained v b ino k all count free below same = elim (cases_lt ino (length v.inodes)) [
  | inl low ↦ (unused-unchained v (b ∷ []) count one).apart ino k 0 (subst (λ n. ino < n) count low) below (omega arith) (sym same)
  | inr past ↦
      let none : chain v ino ≡ [] = get_or_past v.chains ino [] (omega (arith, past, all)) in
      let short = ap (λ (bs : List ℕ). length bs) none in
      omega (arith, below, short)
] where
  one : All (λ t. is_unused v t ≡ true) (b ∷ [])
  one zero d low = free
  one (suc k) d low = absurd (omega (arith, low))

-- so it is none that the volume shows
pub unused_fresh : (v : Volume) (b : ℕ) → IsSane v → is_unused v b ≡ true → IsFresh v b
unused_fresh v b sane free = record {
  files = λ ino block used at. unused_unmapped v b ino block (sane.map_count ∙ sym sane.inode_count) free at;
  chains = λ ino k below same. unused_unchained v b ino k (sane.chain_count ∙ sym sane.inode_count) sane.inode_count free below same;
}

-- words of such blocks may be anything
pub named_same : (blocks : List ℕ) (g : Geometry) (v c d : Volume) (before image : Words) → IsSane v → v.geometry ≡ g → IsSound g before → IsOldOrNew g blocks c d before image
    → ((b : ℕ) → In b blocks → is_data_block g b ≡ true) → ((b : ℕ) → In b blocks → is_unused v b ≡ true) → SameNamed v (journaled before) (journaled image)
named_same blocks g v c d before image sane geometry sound is in_blocks free = record {
  each = λ ino block b i below at within.
      same_block g blocks c d before image (λ k k_below. in_blocks (block_at blocks k) (at_in blocks k k_below)) is b i sound
      (subst (λ (x : Geometry). is_data_block x b ≡ true) geometry (in_data v sane ino block b below at))
      (λ k k_below same. unused_unmapped v (block_at blocks k) ino block (sane.map_count ∙ sym sane.inode_count) (free (block_at blocks k) (at_in blocks k k_below)) (at ∙ ap Some (sym same)))
      within;
}

-- ---- the change

module _ (g : Geometry) (k l : View) (files e : Files) (count : ℕ) (numbers : List ℕ) (start : State) (history more : List Item) (blocks : List ℕ) (w : Volume)
    (ready : GoesReady g k files count numbers start history) (gathered : IsMapGathered blocks k l w) (kinds : KeepsKinds k.volume w files e)
    (takes : TakesBoth l.cells k.volume w files e numbers (run start history) (run start (history ++ more)) count) (publishing : IsPublishing (run start (history ++ more)))
    (from_blocks : TakesBlocks (sides_of k files ready.going.old_numbers numbers) (sides_of l e ready.going.old_numbers numbers) blocks)
    (cuts : UsesNoFreed (sides_of k files ready.going.old_numbers numbers) → KeepsCutBytes (sides_of k files ready.going.old_numbers numbers) start ready.going.front ready.going.later
    → KeepsCutBytes (sides_of l e ready.going.old_numbers numbers) start ready.going.front (ready.going.later ++ more)) where
  abbrev going : PosixGoing g k files count numbers start history
  going = ready.going

  abbrev v : Volume
  v = k.volume

  abbrev s : State
  s = run start history

  abbrev behind : State
  behind = run start (history ++ more)

  abbrev old_sides : Sides
  old_sides = sides_of k files ready.going.old_numbers numbers

  abbrev new_sides : Sides
  new_sides = sides_of l e ready.going.old_numbers numbers

  medium : k.committed.geometry ≡ g
  medium = sym ready.geometry ∙ going.geometry

  committed_sane : (image : Words) → IsImage k.cells image → IsSane k.committed
  committed_sane image is = (going.world image is).medium.stands.sane

  batch_sane : (image : Words) → IsImage k.cells image → IsSane v
  batch_sane image is = (cut_is_world g k files count numbers start history image going is).valid.stands.sane

  in_data_blocks : (b : ℕ) → In b blocks → is_data_block k.committed.geometry b ≡ true
  in_data_blocks b is = unused_data k.committed b (gathered.spare.committed b is)

  module _ (image : Words) (is : IsImage l.cells image) where
    from : (before : Words) × ComesFrom k.cells image before × IsOldOrNew k.committed.geometry blocks k.committed k.committed before image
    from = gathered.changes.each_image image is

    before_image : IsImage k.cells from.0
    before_image = from.1.is_image

    sound : IsSound k.committed.geometry from.0
    sound = subst (λ x. IsSound x from.0) (sym medium) (sound_headed g from.0 (going.headed from.0 before_image))

    same_in : (u : Volume) → IsSane u → u.geometry ≡ g → ((b : ℕ) → In b blocks → is_unused u b ≡ true) → SameNamed u (journaled from.0) (journaled image)
    same_in u sane geometry free = named_same blocks k.committed.geometry u k.committed k.committed from.0 image sane (geometry ∙ sym medium) sound from.2 in_data_blocks free

    same_batch : SameNamed v (journaled from.0) (journaled image)
    same_batch = same_in v (batch_sane from.0 before_image) going.geometry gathered.spare.batch

    -- the same of the volume with the lengths in memory, whose maps are the same
    same_live : SameNamed (sized files.sizes v) (journaled from.0) (journaled image)
    same_live = record { each = λ ino block b i below at within. same_batch.each ino block b i (subst (λ n. ino < n) (length-with_sizes v.inodes files.sizes) below) at within }

    live_before : IsWorld (sized files.sizes v) (as_claims (staged_of v files)) [] (journaled image) numbers s count
    live_before =
        world_named (sized files.sizes v) (as_claims (staged_of v files)) (journaled from.0) (journaled image) numbers s count same_live
        (live_is_world g k files count numbers start history from.0 going before_image).0

    cut_before : IsWorld v [] [] (journaled image) numbers (cut_of s) count
    cut_before = world_named v [] (journaled from.0) (journaled image) numbers (cut_of s) count same_batch (cut_is_world g k files count numbers start history from.0 going before_image)

    live_behind : IsWorld (sized e.sizes w) (as_claims (staged_of w e)) [] (journaled image) numbers behind count
    live_behind = takes.live image is live_before

    cut_behind : IsWorld w [] [] (journaled image) numbers (cut_of behind) count
    cut_behind = takes.cut image is live_before cut_before

    headed : IsHeaded g image
    headed =
        subst (λ x. IsHeaded x image) medium
        (headed_written k.committed.geometry blocks k.committed k.committed from.0 image (λ j below. in_data_blocks (block_at blocks j) (at_in blocks j below)) from.2
        (subst (λ x. IsHeaded x from.0) (sym medium) (going.headed from.0 before_image)) refl (going.order.stands.reads from.0 before_image).base)

    shown : KeepsShown k.committed (journaled from.0) (journaled image)
    shown ino i file below = by (disk_of k.committed [] ino (i / 4096)) refl where
      same : SameNamed k.committed (journaled from.0) (journaled image)
      same = same_in k.committed (committed_sane from.0 before_image) medium gathered.spare.committed

      by : (o : Option ℕ) → disk_of k.committed [] ino (i / 4096) ≡ o → byte_in (journaled image) o i ≡ byte_in (journaled from.0) o i
      by None at = refl
      by (Some b) at = same.each ino (i / 4096) b (i % 4096) (used_below k.committed ino (ap is_used file)) at (omega arith)

    reads_committed : Reads k.committed.geometry (journaled image) k.committed
    reads_committed = by from.2.reads where
      by : Reads k.committed.geometry (journaled image) k.committed ⊎ Reads k.committed.geometry (journaled image) k.committed → Reads k.committed.geometry (journaled image) k.committed
      by (inl is) = is
      by (inr is) = is

    later_is : run start (going.front ++ (going.later ++ more)) ≡ behind
    later_is = ap (run start) (sym (append_assoc going.front going.later more) ∙ ap (λ (h : List Item). h ++ more) (sym going.history_is))

    fresh_blocks : (b : ℕ) → In b blocks → IsFresh k.committed b
    fresh_blocks b among = unused_fresh k.committed b (committed_sane from.0 before_image) (gathered.spare.committed b among)

    batch : IsBatch new_sides (journaled image) start going.front (going.later ++ more)
    batch =
        let before = going.world from.0 before_image in
        worlds_make_batch new_sides w e (journaled image) start going.front (going.later ++ more) count
        (record { batch = gathered.volume; staged = ap (λ (x : Volume). staged_of x e) gathered.volume; lengths = refl; count = kinds.kept ∙ (going.sizes ∙ sym kinds.count); alive = kinds.alive })
        (subst (λ (t : State). IsWorld (sized e.sizes w) (as_claims (staged_of w e)) [] (journaled image) numbers t count) (sym later_is) live_behind)
        (subst (λ (t : State). IsWorld w [] [] (journaled image) numbers (cut_of t) count) (sym later_is) cut_behind)
        (blocks_stay old_sides new_sides blocks before.blocks from_blocks fresh_blocks)
        (cuts before.blocks before.cuts)

    comes_from : BatchComesFrom g k l files e count numbers start history more going image
    comes_from = record {
      before = from.0;
      is = before_image;
      shown = shown;
      log = same_log k.committed.geometry blocks k.committed k.committed from.0 image (λ j below. in_data_blocks (block_at blocks j) (at_in blocks j below)) from.2 sound;
      reads = reads_committed;
      batch = batch;
      headed = headed;
    }

  -- ---- the standing behind it

  -- by one image of it
  some_world : IsWorld (sized e.sizes w) (as_claims (staged_of w e)) [] (journaled (words_of l.cells)) numbers behind count
  some_world = live_behind (words_of l.cells) (IsImage-words_of l.cells)

  aged_behind : AreAged w (as_claims (staged_of w e)) count
  aged_behind = record {
    small = some_world.aged.small;
    staging = λ d is. sym (kind-sized e.sizes w d.staging) ∙ some_world.aged.staging d is;
    own = some_world.aged.own;
    taken = λ d is. (let its = some_world.aged.taken d is in (its.0, (its.1.0, its.1.1, its.1.2 ∙ generation_sized e.sizes w d.ino)));
  }

  out_behind : (i : ℕ) → IsOut v [] i → IsOut w [] i
  out_behind i out = elim out [
    | inl line ↦
        inl (line.0, subst (λ (x : Geometry). line.0 < x.log) (sym kinds.geometry) line.1, line.2 ∙ ap (λ (x : Geometry). log_line x line.0) (sym kinds.geometry))
    | inr job ↦ absurd job.1
  ]

  left_going : IsLeftGoing g l e count behind
  left_going = record {
    order = gathered.order;
    batched = gathered.batched;
    on = gathered.on;
    geometry = ap (λ (x : Volume). x.geometry) gathered.volume ∙ (kinds.geometry ∙ going.geometry);
    publishing = publishing;
    fits = some_world.valid.fits;
    shape = subst (λ (x : Volume). HasShape x behind) (sym gathered.volume)
        (record { root = some_world.shape.root; nodes = some_world.shape.nodes ∙ length-with_sizes w.inodes e.sizes; names = some_world.shape.names });
    quiet = λ i journal line home. gathered.singles i (going.quiet i journal line (sym (gathered.changes.lent i) ∙ home));
    home = λ i lent. subst (λ (x : Volume). IsOut x [] i) (sym gathered.volume) (out_behind i (going.home i (sym (gathered.changes.lent i) ∙ lent)));
    sizes = kinds.kept ∙ (going.sizes ∙ (sym kinds.count ∙ sym (ap (λ (x : Volume). length x.inodes) gathered.volume)));
    bare = λ ino other. kinds.bare ino (λ file. other (ap (λ (x : Volume). (inode x ino).kind) gathered.volume ∙ file));
    alive = subst (λ (x : Volume). (d : Draft) → In d (staged_of x e) → is_live x d ≡ true) (sym gathered.volume) kinds.alive;
    aged = subst (λ (x : Volume). AreAged x (as_claims (staged_of x e)) count) (sym gathered.volume) aged_behind;
    spare = subst (λ (x : Volume). reserve g ≤ unused_blocks x + 3) (sym gathered.volume)
        (let room = kinds.room in let same = ap reserve (kinds.geometry ∙ going.geometry) in omega (arith, room, same));
  }

  leaves : LeavesBatch g k l files e count numbers start history more going
  leaves = record {
    committed = gathered.committed;
    left = left_going;
    geometry = ap (λ (x : Volume). x.geometry) gathered.volume ∙ (kinds.geometry ∙ (ready.geometry ∙ sym (ap (λ (x : Volume). x.geometry) gathered.committed)));
    base = ap (λ (x : Volume). x.base) gathered.volume ∙ (kinds.base ∙ (ready.base ∙ sym (ap (λ (x : Volume). x.base) gathered.committed)));
    unmapped = subst AreUnmapped (sym gathered.volume) kinds.unmapped;
    room = subst (λ (x : Volume). length (staged_of x e) + reserve x.geometry ≤ unused_blocks x + 3) (sym gathered.volume) kinds.room;
    comes = comes_from;
  }

pub change_leaves_batch : ChangeLeavesBatch
change_leaves_batch g k l files e count numbers start history more blocks w ready gathered kinds takes publishing from_blocks cuts =
    leaves g k l files e count numbers start history more blocks w ready gathered kinds takes publishing from_blocks cuts

-- ---- the device goes on

pub batch_goes_on : BatchGoesOn
batch_goes_on g k l files e count numbers start history more ready leaves quiet = record {
  going = going_goes_on g k l files e count count numbers numbers start history more ready.going leaves.committed leaves.left (λ image is. (
      let from = leaves.comes image is in
      record { before = from.before; is = from.is; shown = from.shown; adds = quiet from.before from.is; batch = from.batch; headed = from.headed }));
  geometry = leaves.geometry;
  base = leaves.base;
  unmapped = leaves.unmapped;
  room = leaves.room;
}
