-- K-Split's relinks in the words of the World, and the content of their images.
use Rattle.std.proofs.Common.{◌≡◌, ◌≢◌, ◌≤◌, ◌<◌, ◌+◌, not, ℕ, true, false, List, [], ◌++◌, length, sym, ◌∙◌, ap, subst, arith, get_or, inl, inr}
use Rattle.std.specs.Prelude.{All, Some, ◌==◌}
use Rattle.std.proofs.lemmas.Bool.{and_parts, cases_lt}
use Rattle.std.proofs.lemmas.List.{get_or_past}
use Rattle.log_laws.specs.pm_model.ImageLaws.{IsImage-words_of}
use Rattle.log_laws.specs.pm_model.Images.{Follows, Follows-weaken, words_of}
use Rattle.log_laws.specs.pm_model.Words.{Words}
use Rattle.k_split.specs.block_pool.FreeSets.{is_among}
use Rattle.log_laws.specs.layout_model.declared.lines.Draft.{Draft}
use Rattle.log_laws.specs.layout_model.declared.lines.Inode.{Inode}
use Rattle.log_laws.specs.layout_model.declared.lines.Kind.TheVariants.{File, Staging}
use Rattle.log_laws.specs.layout_model.Lines.{is_name, NameRow}
use Rattle.log_laws.specs.layout_model.NameLaws.{IsNameLine-decode_name}
use Rattle.log_laws.specs.layout_model.Names.{row}
use Rattle.log_laws.specs.layout_model.Journal.{journaled}
use Rattle.log_laws.specs.layout_model.Places.{is_data_block}
use Rattle.log_laws.specs.image_model.Live.{live_entries}
use Rattle.log_laws.specs.image_model.Placed.{block_at}
use Rattle.log_laws.specs.image_model.Reading.{Reads, slot_for}
use Rattle.log_laws.specs.image_model.Room.{has_none, unused_blocks}
use Rattle.log_laws.specs.image_model.Uses.{owners}
use Rattle.log_laws.specs.image_model.Volume.{chain, extents, inode, Volume}
use Rattle.log_laws.specs.extent_model.Extents.{covers}
use Rattle.log_laws.specs.extent_model.Moves.{Moves}
use Rattle.k_split.specs.k_map_plans.Plans.{MayMove}
use Rattle.k_split.specs.k_plans.Whole.{IsWhole}
use Rattle.log_laws.specs.k_split_model.Stands.{Stands}
use Rattle.log_laws.specs.k_split_model.View.{View}
use Rattle.k_split.specs.MapChanges.{ChangesMaps, is_free_in, IsMovedWith}
use Rattle.k_split.specs.Order.{IsInOrder}
use Rattle.fsync_relink.specs.Moves.{move_for}
use Rattle.k_split.specs.k_split_model.MapChangesChanges.{with_length}
use Rattle.k_split.specs.k_split_model.Taken.{with_map}
use Rattle.k_split.specs.k_split_model.declared.map_changes.moves.Move.{Move}
use Rattle.log_laws.specs.name_laws.RowLaws.{row-below}
use Rattle.log_laws.specs.volume_laws.PoolLaws.{unused-uncovered}
use Rattle.log_laws.specs.volume_laws.Uses.{is_unused}
use Rattle.log_laws.specs.world_write_laws.Free.{takes_one_at_most}
use Rattle.log_laws.specs.world_write_laws.RoomLaws.{GrowsLittle}
use Rattle.log_laws.specs.world_model.Stands.{IsSane}
use Rattle.log_laws.specs.world_write_laws.Relinks.{Relinks}
use Rattle.fsync_relink.specs.Laws.{GivesRelinks, IsRelinkOf, IsSaneInOrder, KeepsContent}
use Rattle.log_laws.specs.Logs.{AreSound, CarriesOut, IsNext}
use Rattle.fsync_relink.specs.Images.{IsCarried}
use Rattle.log_laws.proofs.FoundLaws.{carries-out}
use Rattle.fsync_relink.proofs.ImageLaws.{images-beside, IsBeside}
use Rattle.fsync_relink.proofs.RelinkLaws.{applied-other, base-same, chain-file, chain-left, chain-other, file-grows, generation-same, geometry-same, has-chain, kind-same, left-grows, line-file, map-file, map-left, map-other, names-same, size-other}

-- a whole volume with the same names is sane
pub sane-same : (v w : Volume) → IsSane v → IsWhole w → w.names ≡ v.names → IsSane w
sane-same v w sane whole names = record {
  kept = whole.kept.kept;
  inode_count = whole.kept.all.inode_count;
  name_count = whole.kept.all.name_count;
  chain_count = whole.maps.chain_count ∙ whole.kept.all.inode_count;
  map_count = whole.maps.map_count ∙ whole.kept.all.inode_count;
  spelled = λ k r at. sane.spelled k r (subst (λ rows. row rows k ≡ Some r) names at);
}

-- K-Split's own volume is sane
pub sane-in-order : IsSaneInOrder
sane-in-order k order unbatched = record {
  kept = order.whole.kept.kept;
  inode_count = order.whole.kept.all.inode_count;
  name_count = order.whole.kept.all.name_count;
  chain_count = order.whole.maps.chain_count ∙ order.whole.kept.all.inode_count;
  map_count = order.whole.maps.map_count ∙ order.whole.kept.all.inode_count;
  spelled = subst (λ (v : Volume). (i : ℕ) (r : NameRow) → row v.names i ≡ Some r → is_name r.name ≡ true) (order.settled unbatched) spelled;
} where
  reads : Reads k.committed.geometry (journaled (words_of k.cells)) k.committed
  reads = order.stands.reads (words_of k.cells) (IsImage-words_of k.cells)

  spelled : (i : ℕ) (r : NameRow) → row k.committed.names i ≡ Some r → is_name r.name ≡ true
  spelled i r at =
      let below : i < k.committed.geometry.names = subst (λ n. i < n) reads.name_count (row-below k.committed.names i r at) in
      let line = IsNameLine-decode_name _ r (reads.names i below ∙ ap slot_for at) in
      (and_parts (not (r.child == 0)) (is_name r.name) line.fields).1

-- ---- a relink

module _ (d : Draft) (size : ℕ) (old : View) (w : Volume) (blocks : List ℕ) (order : IsInOrder old) (unbatched : old.batched ≡ false)
    (may : MayMove (move_for d size) old.volume) (whole : IsWhole w) (moved : IsMovedWith (move_for d size) old w blocks) where
  abbrev v : Volume
  v = old.volume

  abbrev m : Move
  m = move_for d size

  moves-are : Moves d.staging_block d.file_block d.count (extents v d.staging) (extents v d.ino) (extents w d.staging) (extents w d.ino) moved.displaced
  moves-are =
      subst (λ es. Moves d.staging_block d.file_block d.count (extents v d.staging) (extents v d.ino) es (extents w d.ino) moved.displaced)
      (sym (map-left (is_free_in old) m v w moved.displaced order.whole may moved.moved))
      (subst (λ es. Moves d.staging_block d.file_block d.count (extents v d.staging) (extents v d.ino) moved.moved.left es moved.displaced)
      (sym (map-file (is_free_in old) m v w moved.displaced order.whole may moved.moved)) moved.moved.moves)

  line : inode w d.ino ≡ with_map moved.moved.blocks moved.moved.linked (with_length size d.order (inode v d.ino))
  line = line-file (is_free_in old) m v w moved.displaced order.whole may moved.moved

  little-is : GrowsLittle v w d
  little-is = record {
    file =
        subst (λ c. length c ≤ length (chain v d.ino) + 1) (sym (chain-file (is_free_in old) m v w moved.displaced order.whole may moved.moved))
        (file-grows (is_free_in old) m v w moved.displaced order.whole may moved.moved (has-chain old d.ino order unbatched may.file.below) (has-chain old d.staging order unbatched may.staging.below));
    staging =
        subst (λ c. length c ≤ length (chain v d.staging)) (sym (chain-left (is_free_in old) m v w moved.displaced order.whole may moved.moved))
        (left-grows (is_free_in old) m v w moved.displaced order.whole may moved.moved (has-chain old d.ino order unbatched may.file.below) (has-chain old d.staging order unbatched may.staging.below));
    others = λ i own other. chain-other (is_free_in old) m v w moved.displaced order.whole may moved.moved i own other;
    before = λ i below. order.whole.chains i;
    after = λ i below. whole.chains i;
  }

  relinks-are : Relinks v w d moved.displaced
  relinks-are = record {
    sane = sane-same v w (sane-in-order old order unbatched) whole (names-same (is_free_in old) m v w moved.displaced order.whole may moved.moved);
    names = names-same (is_free_in old) m v w moved.displaced order.whole may moved.moved;
    geometry = geometry-same (is_free_in old) m v w moved.displaced order.whole may moved.moved;
    same = λ i. record {
      kind = kind-same (is_free_in old) m v w moved.displaced order.whole may moved.moved i;
      generation = generation-same (is_free_in old) m v w moved.displaced order.whole may moved.moved i;
    };
    applied = ap (λ (x : Inode). x.applied) line;
    applied_others = λ i other. applied-other (is_free_in old) m v w moved.displaced order.whole may moved.moved i other;
    size_others = λ i other. size-other (is_free_in old) m v w moved.displaced order.whole may moved.moved i other;
    moves = moves-are;
    maps = λ i own other. map-other (is_free_in old) m v w moved.displaced order.whole may moved.moved i own other;
  }

  pub relink-of : IsRelinkOf d size old w blocks moved
  relink-of = record {
    relinks = relinks-are;
    little = little-is;
    base = base-same (is_free_in old) m v w moved.displaced order.whole may moved.moved;
    size_is = ap (λ (x : Inode). x.size) line;
  }

pub gives-relinks : GivesRelinks
gives-relinks d size old w blocks order unbatched may whole moved = relink-of d size old w blocks order unbatched may whole moved

-- an entry that a move carries out, whatever generations it has
abbrev pub entry_for : Move → Draft
entry_for m =
    record {
      count = m.count;
      order = m.applied;
      ino = m.ino;
      generation = 0;
      file_block = m.file_block;
      staging = m.staging;
      staging_block = m.staging_block;
      staging_generation = 0;
      size = m.size;
    }

-- a relink takes one free block at most
pub relink-takes_one : (m : Move) (old : View) (w : Volume) (blocks : List ℕ) → IsInOrder old → old.batched ≡ false → MayMove m old.volume → IsWhole w
    → IsMovedWith m old w blocks → unused_blocks old.volume ≤ unused_blocks w + 1
relink-takes_one m old w blocks order unbatched may whole moved =
    let is = relink-of (entry_for m) m.size old w blocks order unbatched may whole moved in
    takes_one_at_most old.volume w (entry_for m) moved.displaced (sane-in-order old order unbatched) is.relinks is.little may.file.below may.staging.below
    (λ same. apart may same)
  where
    apart : MayMove m old.volume → m.ino ≢ m.staging
    apart may same =
        let one : (inode old.volume m.ino).kind ≡ File = may.file.file in
        let two : (inode old.volume m.ino).kind ≡ Staging = ap (λ i. (inode old.volume i).kind) same ∙ may.staging.kind in
        let never : File ≡ Staging = sym one ∙ two in
        absurd (cc)

-- ---- the blocks of a change that were free

-- free blocks are data blocks, and in no map
pub free-in_data : (k : View) (b : ℕ) → is_free_in k b ≡ true → is_data_block k.volume.geometry b ≡ true
free-in_data k b free =
    let unused = (and_parts (is_unused k.volume b) (not (is_among k.waiting b)) free).0 in
    (and_parts (is_data_block k.volume.geometry b) (has_none (owners k.volume b)) unused).0

pub free-unmapped : (k : View) (b ino : ℕ) → length k.volume.maps ≡ length k.volume.inodes → is_free_in k b ≡ true → covers (extents k.volume ino) b ≡ false
free-unmapped k b ino all free = elim (cases_lt ino (length k.volume.inodes)) [
  | inl below ↦ unused-uncovered k.volume b ino below (and_parts (is_unused k.volume b) (not (is_among k.waiting b)) free).0
  | inr past ↦ ap (λ es. covers es b) (get_or_past k.volume.maps ino [] (omega (arith, all)))
]

-- ---- the content of its images

-- the images of a change of K-Split that wrote free blocks
pub change-beside : (old new : View) (w : Volume) (blocks : List ℕ) → IsInOrder old → old.batched ≡ false → All (λ b. is_free_in old b ≡ true) blocks
    → ChangesMaps blocks old.committed w old.cells new.cells → Follows (IsBeside old.volume w) old.cells new.cells
change-beside old new w blocks order unbatched free changes =
    images-beside old.volume w blocks old.cells new.cells (subst (λ (v : Volume). Stands v.geometry v old.cells) settled order.stands) order.whole.kept.kept
    (λ k d below. free-in_data old (get_or blocks k d) (free k d below))
    (λ ino k below. free-unmapped old (block_at blocks k) ino order.whole.maps.map_count (free k 0 below))
    (subst (λ v. ChangesMaps blocks v w old.cells new.cells) settled changes)
  where
    settled : old.committed ≡ old.volume
    settled = order.settled unbatched

-- the blocks of a relink were free
relink-free : (m : Move) (old : View) (w : Volume) (blocks : List ℕ) → IsInOrder old → MayMove m old.volume → IsMovedWith m old w blocks → All (λ b. is_free_in old b ≡ true) blocks
relink-free m old w blocks order may moved =
    subst (All (λ b. is_free_in old b ≡ true))
    (sym (moved.written
    ∙ (λ i. chain-file (is_free_in old) m old.volume w moved.displaced order.whole may moved.moved i ++ chain-left (is_free_in old) m old.volume w moved.displaced order.whole may moved.moved i)))
    moved.moved.taken.were_free

pub keeps-content : KeepsContent
keeps-content m old new w blocks order unbatched may whole moved changes =
    Follows-weaken (IsBeside old.volume w) (IsCarried m old.volume w) old.cells new.cells (λ before image beside. record {
      log = beside.0;
      carried = λ d carries sound next. carried d before carries sound next;
      same = λ d carries sound next. beside.1 (carried d before carries sound next).files;
    }) (change-beside old new w blocks order unbatched (relink-free m old w blocks order may moved) changes)
  where
    carried : (d : Draft) (before : Words) → m ≡ move_for d m.size → AreSound old.volume (live_entries old.volume (journaled before))
        → IsNext w (live_entries old.volume (journaled before)) d → CarriesOut old.volume w (journaled before) d
    carried d before carries sound next =
        let may_d : MayMove (move_for d m.size) old.volume = subst (λ x. MayMove x old.volume) carries may in
        let moved_d : IsMovedWith (move_for d m.size) old w blocks = subst (λ x. IsMovedWith x old w blocks) carries moved in
        let is = relink-of d m.size old w blocks order unbatched may_d whole moved_d in
        carries-out old.volume w (journaled before) d moved_d.displaced is.relinks is.base sound next
