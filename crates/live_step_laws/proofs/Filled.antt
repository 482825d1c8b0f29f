-- What filling holes makes of the volume.
use Rattle.std.specs.Prelude.{◌≡◌, ◌≢◌, ◌<◌, ◌≤◌, ◌+◌, ◌==◌, ◌&&◌, ℕ, Bool, true, false, All, List, length, Option, Some, None, is_none, slice_get, slice_index, zero, suc, [], ◌∷◌, refl}
use Rattle.std.specs.List.{list_any, range_with_len}
use Rattle.std.proofs.Common.{arith, ap, ◌∙◌, sym, subst, inl, inr, length-append}
use Rattle.std.proofs.lemmas.Bool.{cases_Bool}
use Rattle.fsync_relink.specs.world_write_laws.pm_model.declared.Cell.{Cell}
use Rattle.fsync_relink.specs.world_write_laws.block_counts.Counts.{chains_for}
use Rattle.fsync_relink.specs.world_write_laws.extent_model.declared.extent_words.Extent.{Extent}
use Rattle.fsync_relink.specs.world_write_laws.extent_model.Extents.{block_count, disk_at, IsCanonical, is_within}
use Rattle.fsync_relink.specs.world_write_laws.layout_model.declared.lines.Kind.TheVariants.{File}
use Rattle.fsync_relink.specs.world_write_laws.layout_model.Places.{data_blocks, is_data_block}
use Rattle.fsync_relink.specs.world_write_laws.image_model.Placed.{block_at}
use Rattle.fsync_relink.specs.world_write_laws.image_model.Room.{unused_blocks}
use Rattle.fsync_relink.specs.world_write_laws.image_model.Rules.{file_blocks_of}
use Rattle.fsync_relink.specs.world_write_laws.image_model.Volume.{chain, extents, inode, Volume}
use Rattle.fsync_relink.specs.world_write_laws.k_split_model.MapChangesChanges.{holes}
use Rattle.fsync_relink.specs.world_write_laws.k_split_model.Taken.{switched, with_map}
use Rattle.fsync_relink.specs.world_write_laws.k_split_model.View.{View}
use Rattle.fsync_relink.specs.world_write_laws.list_laws.Members.{In, In-slice_get}
use Rattle.fsync_relink.specs.world_write_laws.volume_laws.Changes.{chain-set_same, extents-set_other, extents-set_same, inode-set_other, inode-set_same}
use Rattle.fsync_relink.specs.world_write_laws.volume_laws.PoolLaws.{held-set, unused-held}
use Rattle.fsync_relink.specs.world_write_laws.volume_laws.Uses.{blocks_held, blocks_of}
use Rattle.fsync_relink.specs.world_write_laws.world_model.Stands.{IsSane, is_used}
use Rattle.fsync_relink.specs.world_write_laws.world_model.TreeRules.{used_below}
use Rattle.fsync_relink.specs.world_write_laws.HolesLaws.{FillsHoles, KeepsLine}
use Rattle.fsync_relink.proofs.RelinkLaws.{has-chain}
use Rattle.fsync_relink.proofs.WorldLaws.{sane-in-order, sane-same}
use Rattle.k_split_laws.specs.k_plans.Whole.{IsWhole}
use Rattle.k_split_laws.specs.k_split.Filling.{IsFilledWith}
use Rattle.k_split_laws.specs.k_split.Order.{IsInOrder}
use Rattle.k_split_laws.specs.volume_change_laws.Lengths.{any-at, any-hole, blocks-filled, length-filled}
use Rattle.live_step_laws.specs.FillsLaws.{FillsAs, FillsAsAsked}

-- an element at a place
there : (xs : List ℕ) (i : ℕ) → i < length xs → slice_get xs i ≡ Some (slice_index xs i)
there [] i below = absurd (omega (arith, below))
there (x ∷ xs) zero below = refl
there (x ∷ xs) (suc i) below = there xs i (omega (arith, below))

-- where no data block is named twice, each is free or one that an inode has
counted : (v : Volume) → IsSane v → ((ino : ℕ) → All (λ b. is_data_block v.geometry b ≡ true) (chain v ino)) → unused_blocks v + blocks_held v ≡ data_blocks v.geometry
counted v sane chains =
    unused-held v (λ ino. file_blocks_of (inode v ino).kind)
    (record { chains = λ ino below. chains ino; files = λ ino below. sane.kept.in_data ino (subst (λ n. ino < n) sane.inode_count below) })
    (λ b is. sane.kept.once b is)

pub fills_as_asked : FillsAsAsked
fills_as_asked k ino first count w blocks d is order unbatched file fits whole = record {
  fills = record {
    sane = sane_then;
    names = ap (λ (x : Volume). x.names) w_is;
    geometry = geometry_is;
    file = file;
    own = record { kind = ap (λ y. y.kind) line_is; generation = ap (λ y. y.generation) line_is; size = ap (λ y. y.size) line_is; applied = ap (λ y. y.applied) line_is };
    lines = λ i other. ap (λ x. inode x i) w_is ∙ inode-set_other ino (with_map is.filled.blocks es (inode v ino)) is.filled.blocks es v i other;
    maps = λ i other. ap (λ x. extents x i) w_is ∙ extents-set_other ino (with_map is.filled.blocks es (inode v ino)) is.filled.blocks es v i other;
    kept = λ m b at. ap (λ e. disk_at e m) map_is ∙ (is.filled.fills.others m (any-hole (λ x. is_none (disk_at old x)) first count m ∙ both (is_within first count m) (is_none (disk_at old m)) (ap is_none at)) ∙ at);
    others = λ m b hole at. added m b hole (ap (λ e. disk_at e m) (sym map_is) ∙ at);
  };
  each = is.filled.fills.each;
  outside = λ m out. ap (λ e. disk_at e m) map_is ∙ is.filled.fills.others m (any-hole (λ x. is_none (disk_at old x)) first count m ∙ ap (λ c. c && is_none (disk_at old m)) out);
  base = ap (λ (x : Volume). x.base) w_is;
  counts =
      let before = counted v sane order.whole.chains in
      let after = counted w sane_then whole.chains in
      let held = held-set v ino (with_map is.filled.blocks es (inode v ino)) is.filled.blocks es below (record { chain_count = sane.chain_count ∙ sym sane.inode_count; map_count = sane.map_count ∙ sym sane.inode_count }) in
      let held_is : blocks_held w ≡ blocks_held (switched ino (inode v ino) is.filled.blocks es v) = ap blocks_held w_is in
      let space : data_blocks w.geometry ≡ data_blocks v.geometry = ap data_blocks geometry_is in
      let more = blocks-filled first count is.fresh old es canonical is.filled.fills fits in
      let chained = ap length chain_is in
      omega (arith, before, after, held, held_is, space, more, chained);
  chain_is = ap length chain_is ∙ (chained ∙ ap (λ e. chains_for (length e)) (sym map_is));
  extents_are = subst (λ e. length e ≤ length old + count + 1) (sym map_is) (length-filled first count is.fresh old es canonical is.filled.fills fits);
} where
  v : Volume
  v = k.volume

  es : List Extent
  es = is.filled.es

  old : List Extent
  old = extents v ino

  sane : IsSane v
  sane = sane-in-order k order unbatched

  below : ino < length v.inodes
  below = used_below v ino (ap is_used file)

  w_is : w ≡ switched ino (inode v ino) is.filled.blocks es v
  w_is = is.filled.is_filled

  geometry_is : w.geometry ≡ v.geometry
  geometry_is = ap (λ (x : Volume). x.geometry) w_is

  sane_then : IsSane w
  sane_then = sane-same v w sane whole (ap (λ (x : Volume). x.names) w_is)

  line_is : inode w ino ≡ with_map is.filled.blocks es (inode v ino)
  line_is = ap (λ x. inode x ino) w_is ∙ inode-set_same ino (with_map is.filled.blocks es (inode v ino)) is.filled.blocks es v below

  map_is : extents w ino ≡ es
  map_is = ap (λ x. extents x ino) w_is ∙ extents-set_same ino (with_map is.filled.blocks es (inode v ino)) is.filled.blocks es v (omega (arith, below, sane.map_count, sane.inode_count))

  chain_is : chain w ino ≡ is.filled.blocks
  chain_is = ap (λ x. chain x ino) w_is ∙ chain-set_same ino (with_map is.filled.blocks es (inode v ino)) is.filled.blocks es v (omega (arith, below, sane.chain_count, sane.inode_count))

  canonical : IsCanonical old
  canonical = (has-chain k ino order unbatched below).canonical

  chained : length is.filled.blocks ≡ chains_for (length es)
  chained = omega (arith, is.filled.taken.count, length-append is.fresh is.filled.blocks)

  both : (a b : Bool) → b ≡ false → (a && b) ≡ false
  both true b is = is
  both false b is = refl

  added : (m b : ℕ) → disk_at old m ≡ None → disk_at es m ≡ Some b → In b is.fresh
  added m b hole at = elim (cases_Bool (list_any (λ h. h == m) (holes old first count))) [
    | inl some ↦
        let place = any-at (holes old first count) m some in
        let within : place.0 < length is.fresh = omega (arith, place.1, is.filled.fills.each) in
        let put = is.filled.fills.filled place.0 within in
        let same : Some (block_at is.fresh place.0) ≡ Some b = sym put ∙ (ap (disk_at es) place.2 ∙ at) in
        In-slice_get is.fresh place.0 b (there is.fresh place.0 within ∙ same)
    | inr none ↦ absurd (gone (sym at ∙ (is.filled.fills.others m none ∙ hole)))
  ] where
    gone : Some b ≡ None → ⊥
    gone never = cc
