-- How many blocks are free, and how many stay so once a staging file got blocks.
use Rattle.std.proofs.Common.{◌≡◌, ◌≤◌, ◌<◌, ◌+◌, ◌&&◌, not, ℕ, Bool, true, false, List, [], ◌⊎◌, length, Ok, refl, sym, ◌∙◌, ap, subst, inl, inr, arith, length-append}
use Rattle.std.specs.Prelude.{nat_lt, count_by, is_some}
use Rattle.std.specs.List.{range_with_len}
use Rattle.std.proofs.lemmas.Bool.{cases_lt}
use Rattle.std.proofs.lemmas.Bool.Decides.{nat_tests}
use Rattle.std.proofs.lemmas.List.FromFn.{length-range_with_len}
use Rattle.std.proofs.lemmas.List.Sums.{count_by-le-length}
use Rattle.k_split.specs.block_pool.FreeSets.{is_among}
use Rattle.k_split.specs.layout_model.Places.{data_blocks, first_data, is_data_block, reserve}
use Rattle.k_split.specs.layout_model.declared.lines.Inode.{Inode}
use Rattle.k_split.specs.image_model.Reading.{inode_set}
use Rattle.k_split.specs.image_model.Room.{has_none, unused_blocks}
use Rattle.k_split.specs.image_model.Rules.{file_blocks_of}
use Rattle.k_split.specs.image_model.Uses.{owners}
use Rattle.k_split.specs.image_model.Volume.{Volume, inode}
use Rattle.k_split.specs.extent_model.Counts.{block_count-mapped, count_below-agree, count_below-range, is_mapped}
use Rattle.k_split.specs.extent_model.declared.extent_words.Extent.{Extent}
use Rattle.k_split.specs.extent_model.Extents.{block_count, is_within}
use Rattle.k_split.specs.k_plans.Whole.{IsWhole}
use Rattle.k_split.specs.k_split_model.View.{View}
use Rattle.k_split.specs.MapChanges.{free_blocks_in, IsMapDone, IsPreallocateAnswer, IsPreallocatedWith}
use Rattle.k_split.specs.Order.{IsInOrder}
use Rattle.k_split.specs.k_split_model.MapChangesChanges.{aged, HasInOrder, in_order}
use Rattle.k_split.specs.k_split_model.Taken.{with_map}
use Rattle.k_split.specs.volume_laws.Lists.{count_by-agree}
use Rattle.k_split.specs.volume_change_laws.Shorts.{in_order-below, length-below}
use Rattle.k_split.specs.volume_laws.PoolLaws.{AreInData, unused-set}
use Rattle.k_split.specs.volume_laws.Uses.{is_unused}
use Rattle.staging_files.specs.Keeps.{IsStaging, Staged}
use Rattle.staging_files.specs.Reserves.{need, share, wanted}

-- no more blocks are free than an image has
pub free-most : (k : View) → IsInOrder k → free_blocks_in k ≤ 16376
free-most k order =
    let g = order.whole.kept.geometry in
    omega (
      arith,
      count_by-le-length (λ b. is_unused k.volume b && not (is_among k.waiting b)) (range_with_len (first_data k.volume.geometry) (data_blocks k.volume.geometry)),
      length-range_with_len (first_data k.volume.geometry) (data_blocks k.volume.geometry),
      g.most_blocks,
      g.least_inodes,
      g.least_names,
      g.least_log,
    )

-- where no block waits, just those are free that nothing names
pub free-unused : (k : View) → k.waiting ≡ [] → free_blocks_in k ≡ unused_blocks k.volume
free-unused k none =
    ap (λ ws. count_by (λ b. is_unused k.volume b && not (is_among ws b)) (range_with_len (first_data k.volume.geometry) (data_blocks k.volume.geometry))) none
    ∙ count_by-agree (λ b. is_unused k.volume b && not (is_among [] b)) (λ b. has_none (owners k.volume b)) (first_data k.volume.geometry) (data_blocks k.volume.geometry) (λ b low high.
    let in_data : is_data_block k.volume.geometry b ≡ true = grind (arith, nat_tests, low, high) in
    ap (λ d. (d && has_none (owners k.volume b)) && true) in_data ∙ and_true (has_none (owners k.volume b)))
  where
    and_true : (b : Bool) → ((true && b) && true) ≡ b
    and_true true = refl
    and_true false = refl

-- a map of blocks in order has as many as there are
in_order-count : (fresh : List ℕ) (es : List Extent) → HasInOrder fresh es → length fresh ≤ 4096 → block_count es ≡ length fresh
in_order-count fresh es is few =
    block_count-mapped es is.canonical
    ∙ (count_below-agree (λ b. is_mapped es b) (λ b. is_within 0 (length fresh) b) 4096 (λ b low. ap is_some (is.blocks b) ∙ same b (cases_lt b (length fresh)))
    ∙ count_below-range 0 (length fresh) 4096 (omega (arith, few)))
  where
    same : (b : ℕ) → (b < length fresh) ⊎ (length fresh ≤ b) → is_some (in_order fresh b) ≡ is_within 0 (length fresh) b
    same b (inl low) =
        let test : nat_lt b (length fresh) ≡ true = grind (arith, nat_tests, low) in
        let inside : is_within 0 (length fresh) b ≡ true = grind (arith, nat_tests, low) in
        rw test (sym inside)
    same b (inr past) =
        let test : nat_lt b (length fresh) ≡ false = grind (arith, nat_tests, past) in
        let outside : is_within 0 (length fresh) b ≡ false = grind (arith, nat_tests, past) in
        rw test (sym outside)

in-data : (v : Volume) → IsWhole v → AreInData v (λ ino. file_blocks_of (inode v ino).kind)
in-data v whole = record {
  chains = λ ino below. whole.chains ino;
  files = λ ino below. whole.kept.kept.in_data ino (omega (arith, below, whole.kept.all.inode_count));
}

module _ (x n : ℕ) (k l : View) (order : IsInOrder k) (staging : IsStaging x) (most : n ≤ 64) (gave : IsPreallocateAnswer x n k l (Ok tt)) where
  with_blocks : IsPreallocatedWith x n k l.volume gave.0
  with_blocks = gave.1

  done : IsMapDone gave.0 k l
  done = gave.2

  pub given-geometry : l.volume.geometry ≡ k.volume.geometry
  given-geometry = ap (λ v. v.geometry) with_blocks.preallocated.is_preallocated

  -- so many blocks less are named by nothing
  unused-less : unused_blocks k.volume ≤ unused_blocks l.volume + n + 1
  unfolding with_blocks done
  unused-less =
      let p = with_blocks.preallocated in
      let v : Volume = k.volume in
      let line : Inode = with_map p.blocks p.es (aged (inode v x)) in
      let w : Volume = inode_set x line p.blocks p.es v in
      let whole : IsWhole w = subst IsWhole p.is_preallocated done.order.whole in
      let below : x < length v.inodes = omega (arith, staging.most, order.whole.kept.all.inode_count, order.whole.kept.geometry.least_inodes) in
      let set =
      unused-set v x line p.blocks p.es (λ ino. file_blocks_of (inode v ino).kind) (λ ino. file_blocks_of (inode w ino).kind) below order.whole.maps
      (in-data v order.whole) (in-data w whole) order.whole.kept.kept.once whole.kept.kept.once
      in
      let same : unused_blocks l.volume ≡ unused_blocks w = ap unused_blocks p.is_preallocated in
      let size = p.size in
      let count = p.taken.count in
      let both = length-append p.fresh p.blocks in
      let blocks = in_order-count p.fresh p.es p.map (omega (arith, size, most)) in
      let extents_few = length-below p.es (length p.fresh) p.map.canonical (in_order-below p.fresh p.es p.map) in
      omega (arith, set, same, size, count, both, blocks, extents_few, most)

  pub free-less : k.batched ≡ false → free_blocks_in k ≤ free_blocks_in l + n + 1
  unfolding done
  free-less unbatched =
      omega (arith, free-unused k (order.none_waits unbatched), free-unused l (done.order.none_waits (done.batched ∙ unbatched)), unused-less)

-- the share leaves what the runs want that are out
pub share-leaves : (s : Staged) (k l : View) (count x : ℕ) → IsInOrder k → IsStaging x → k.batched ≡ false → need s k count ≤ free_blocks_in k
    → IsPreallocateAnswer x (share s k count) k l (Ok tt) → wanted s k ≤ free_blocks_in l
share-leaves s k l count x order staging unbatched room gave =
    let few : share s k count ≤ 64 = omega arith in
    let less = free-less x (share s k count) k l order staging few gave unbatched in
    omega (arith, less, room)

-- it is enough for the run, at most 64, and K-Split has it free
pub share-fits : (s : Staged) (k : View) (count : ℕ) → count ≤ 33 → need s k count ≤ free_blocks_in k
    → (count ≤ share s k count) × (share s k count ≤ 64) × (share s k count + reserve k.volume.geometry ≤ free_blocks_in k + 1)
share-fits s k count few room = (omega arith, omega arith, omega arith)
