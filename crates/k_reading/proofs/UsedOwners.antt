-- In a volume the blocks that chains and maps name are those that have an owner.
use Rattle.std.proofs.Common.{◌≡◌, ℕ, zero, suc, ◌+◌, ◌<◌, ◌≤◌, Bool, true, false, not, ◌||◌, List, [], length, refl, sym, ◌∙◌, ap, arith}
use Rattle.std.specs.Prelude.{◌==◌, ◌&&◌, sum_by}
use Rattle.std.specs.List.{list_any, range_with_len}
use Rattle.std.proofs.lemmas.Bool.{both_ways, eq-eqb, eqb-true, or_parts}
use Rattle.std.proofs.lemmas.Grind.{get_or_default_zero}
use Rattle.std.proofs.lemmas.List.Folds.{Any-from_list_any, list_any_at}
use Rattle.std.proofs.lemmas.List.{get_or_default}
use Rattle.std.proofs.lemmas.List.Sums.{sum_by-cons}
use Rattle.block_pool.specs.extent_model.declared.extent_words.Extent.{Extent}
use Rattle.block_pool.specs.extent_model.Extents.{covers}
use Rattle.k_inodes.specs.image_layout.layout_model.Places.{Geometry, is_data_block}
use Rattle.map_chain.specs.image_model.Placed.{block_at}
use Rattle.map_chain.specs.image_model.Room.{has_none}
use Rattle.map_chain.specs.image_model.Uses.{owners}
use Rattle.map_chain.specs.image_model.Volume.{Volume, chain, extents}
use Rattle.block_pool.specs.FreeSets.{FreeSet, is_among, is_free_at}
use Rattle.image_laws.specs.volume_laws.OwnerLaws.{length-owners, uses-le-owners}
use Rattle.image_laws.specs.volume_laws.PoolLaws.{has_none-some, has_none-zero}
use Rattle.image_laws.specs.volume_laws.UseLaws.{covers-in_map, in_chain-at, in_chain-some, in_map-covers, length-uses_by}
use Rattle.image_laws.specs.volume_laws.Uses.{HasAllMaps, in_chain, in_map, is_unused, uses_of}
use Rattle.k_reading.specs.Pools.{IsOfTables, IsPoolOf, is_named}

-- a block of a chain
among-used : (blocks : List ℕ) (b : ℕ) → is_among blocks b ≡ true → 1 ≤ in_chain blocks b
among-used blocks b among =
    let any = Any-from_list_any (λ x. x == b) blocks among in
    in_chain-at blocks any.0 b any.2 (sym (get_or_default_zero blocks any.0 any.1 any.2) ∙ any.3 ∙ eqb-true any.1 b any.4)

used-among : (blocks : List ℕ) (b : ℕ) → 1 ≤ in_chain blocks b → is_among blocks b ≡ true
used-among blocks b used =
    let found = in_chain-some blocks b used in
    list_any_at (λ x. x == b) blocks found.0 0 found.1 (eq-eqb (block_at blocks found.0) b found.2)

-- an inode uses a block of its chain, and one of its map
chain-used : (v : Volume) (b ino : ℕ) → ino < length v.inodes → 1 ≤ in_chain (chain v ino) b → 1 ≤ length (owners v b)
chain-used v b ino within used =
    omega (arith, used, length-uses_by ino (chain v ino) (extents v ino) b, uses-le-owners v b ino within)

map-used : (v : Volume) (b ino : ℕ) → ino < length v.inodes → 1 ≤ in_map (extents v ino) b → 1 ≤ length (owners v b)
map-used v b ino within used =
    omega (arith, used, length-uses_by ino (chain v ino) (extents v ino) b, uses-le-owners v b ino within)

named-used : (v : Volume) (b : ℕ) → HasAllMaps v → is_named v.chains v.maps b ≡ true → 1 ≤ length (owners v b)
named-used v b all named = by (list_any (λ blocks. is_among blocks b) v.chains) refl named
  where
    by : (c : Bool) → list_any (λ blocks. is_among blocks b) v.chains ≡ c → (c || list_any (λ es. covers es b) v.maps) ≡ true
        → 1 ≤ length (owners v b)
    by true chained named =
        let any = Any-from_list_any (λ (blocks : List ℕ). is_among blocks b) v.chains chained in
        let is : chain v any.0 ≡ any.1 = get_or_default v.chains any.0 [] any.1 any.2 ∙ any.3 in
        chain-used v b any.0 (omega (arith, any.2, all.chain_count)) (among-used (chain v any.0) b (ap (λ blocks. is_among blocks b) is ∙ any.4))
    by false chained named =
        let any = Any-from_list_any (λ (es : List Extent). covers es b) v.maps named in
        let is : extents v any.0 ≡ any.1 = get_or_default v.maps any.0 [] any.1 any.2 ∙ any.3 in
        map-used v b any.0 (omega (arith, any.2, all.map_count)) (in_map-covers (extents v any.0) b (ap (λ es. covers es b) is ∙ any.4))

-- what no inode uses has no owner
sum-zero : (f : ℕ → ℕ) (a n : ℕ) → ((i : ℕ) → i < a + n → f i ≡ 0) → sum_by f (range_with_len a n) ≡ 0
sum-zero f a zero none = refl
sum-zero f a (suc n) none =
    omega (arith, sum_by-cons f a (range_with_len (a + 1) n), none a (omega arith), sum-zero f (a + 1) n (λ i below. none i (omega arith)))

zero_from : (n : ℕ) → (1 ≤ n → ⊥) → n ≡ 0
zero_from zero never = refl
zero_from (suc n) never = absurd (never (omega arith))

unnamed-unused : (v : Volume) (b : ℕ) → HasAllMaps v → is_named v.chains v.maps b ≡ false → length (owners v b) ≡ 0
unnamed-unused v b all unnamed = length-owners v b ∙ sum-zero (uses_of v b) 0 (length v.inodes) (λ i below. unused i (omega (arith, below)))
  where
    parts : (list_any (λ blocks. is_among blocks b) v.chains ≡ false) × (list_any (λ es. covers es b) v.maps ≡ false)
    parts = or_parts (list_any (λ blocks. is_among blocks b) v.chains) (list_any (λ es. covers es b) v.maps) unnamed

    unused : (i : ℕ) → i < length v.inodes → uses_of v b i ≡ 0
    unused i below =
        let chained : in_chain (chain v i) b ≡ 0 = zero_from (in_chain (chain v i) b) (λ used.
        both_ways (list_any (λ blocks. is_among blocks b) v.chains) parts.0
        (list_any_at (λ (blocks : List ℕ). is_among blocks b) v.chains i [] (omega (arith, below, all.chain_count)) (used-among (chain v i) b used)))
        in
        let mapped : in_map (extents v i) b ≡ 0 = zero_from (in_map (extents v i) b) (λ used.
        both_ways (list_any (λ es. covers es b) v.maps) parts.1
        (list_any_at (λ (es : List Extent). covers es b) v.maps i [] (omega (arith, below, all.map_count)) (covers-in_map (extents v i) b used)))
        in
        omega (arith, chained, mapped, length-uses_by i (chain v i) (extents v i) b)

-- so the pool is free where the volume has a data block that nothing names
pub pool-volume : (g : Geometry) (chains : List (List ℕ)) (maps : List (List Extent)) (pool : FreeSet) (v : Volume) → IsPoolOf g chains maps pool
    → IsOfTables g chains maps v → (b : ℕ) → is_free_at pool b ≡ is_unused v b
pool-volume g chains maps pool v is of b =
    is.free b
    ∙ (λ i. is_data_block (sym of.geometry i) b && not (is_named (sym of.same_chains i) (sym of.same_maps i) b))
    ∙ ap (λ n. is_data_block v.geometry b && n) (by (is_named v.chains v.maps b) refl)
  where
    by : (n : Bool) → is_named v.chains v.maps b ≡ n → not (is_named v.chains v.maps b) ≡ has_none (owners v b)
    by true named = ap not named ∙ sym (has_none-some (owners v b) (named-used v b of.all named))
    by false unnamed = ap not unnamed ∙ sym (has_none-zero (owners v b) (unnamed-unused v b of.all unnamed))
