-- Laws of who uses a block, and of a volume in which one inode's chain and map are set.
use Rattle.std.specs.Prelude.{◌≡◌, ◌≢◌, ℕ, ◌+◌, ◌<◌, ◌≤◌, true, List, length, sum_by, Option, Some, refl}
use Rattle.std.specs.List.{flat_map, range_with_len}
use Rattle.std.proofs.Common.{arith, ap, sym, ◌∙◌, inl, inr, subst}
use Rattle.std.proofs.lemmas.Bool.{cases_order}
use Rattle.std.proofs.lemmas.Bool.Decides.{nat_tests}
use Rattle.std.proofs.lemmas.List.{length-set}
use Rattle.std.proofs.lemmas.List.Concat.{length-flat_map}
use Rattle.image_model.specs.layout_model.Places.{is_data_block}
use Rattle.image_model.specs.extent_model.declared.extent_words.Extent.{Extent}
use Rattle.image_model.specs.extent_model.Extents.{holds, holds_disk, disk_in, disk_at, covers}
use Rattle.image_model.specs.extent_model.Facts.{disk_at_found}
use Rattle.image_model.specs.layout_model.declared.lines.Inode.{Inode}
use Rattle.image_model.specs.layout_model.Lines.{NameRow}
use Rattle.image_model.specs.Placed.{no_extent, extent_at, block_at}
use Rattle.image_model.specs.Reading.{inode_set, node_set, row_set, base_set}
use Rattle.image_model.specs.Rules.{IsNamedOnce}
use Rattle.image_model.specs.Uses.{uses_by, owners}
use Rattle.image_model.specs.Volume.{Volume, chain, extents}
use Rattle.volume_laws.specs.Changes.{chain-set_same, extents-set_same, chain-set_other, extents-set_other}
use Rattle.volume_laws.specs.Lists.{sum_by-but_one, at-le-sum_by, two-le-sum_by}
use Rattle.volume_laws.specs.UseLaws.{length-uses_by, in_chain-at, in_chain-two, in_map-at, in_map-two, in_map-covers}
use Rattle.volume_laws.specs.Uses.{in_chain, in_map, uses_of, HasAllMaps}

-- a block is used as often as its inodes use it
pub length-owners : (v : Volume) (b : ℕ)
    → length (owners v b) ≡ sum_by (uses_of v b) (range_with_len 0 (length v.inodes))
unfolding owners
length-owners v b = length-flat_map (λ ino. uses_by ino (chain v ino) (extents v ino) b) (range_with_len 0 (length v.inodes))

-- the uses of one inode, and of two, are among them
pub uses-le-owners : (v : Volume) (b ino : ℕ) → ino < length v.inodes → uses_of v b ino ≤ length (owners v b)
uses-le-owners v b ino below = omega (arith, length-owners v b, at-le-sum_by (uses_of v b) 0 (length v.inodes) ino (omega arith) (omega arith))

pub two-le-owners : (v : Volume) (b i j : ℕ) → i < j → j < length v.inodes
    → uses_of v b i + uses_of v b j ≤ length (owners v b)
two-le-owners v b i j before below =
    omega (arith, length-owners v b, two-le-sum_by (uses_of v b) 0 (length v.inodes) i j (omega arith) before (omega arith))

-- ---- one inode's chain and map are set

-- what an inode uses afterwards
pub uses-set_same : (v : Volume) (ino : ℕ) (x : Inode) (blocks : List ℕ) (es : List Extent) (b : ℕ)
    → ino < length v.inodes → HasAllMaps v
    → uses_of (inode_set ino x blocks es v) b ino ≡ length (uses_by ino blocks es b)
uses-set_same v ino x blocks es b below all =
    let own_chain = chain-set_same ino x blocks es v (omega (arith, all.chain_count)) in
    let own_map = extents-set_same ino x blocks es v (omega (arith, all.map_count)) in
    λ i. length (uses_by ino (own_chain i) (own_map i) b)

pub uses-set_other : (v : Volume) (ino : ℕ) (x : Inode) (blocks : List ℕ) (es : List Extent) (b j : ℕ) → j ≢ ino
    → uses_of (inode_set ino x blocks es v) b j ≡ uses_of v b j
uses-set_other v ino x blocks es b j apart =
    let own_chain = chain-set_other ino x blocks es v j apart in
    let own_map = extents-set_other ino x blocks es v j apart in
    λ i. length (uses_by j (own_chain i) (own_map i) b)

-- what one inode has no longer, and what it has now
pub owners-set : (v : Volume) (ino : ℕ) (x : Inode) (blocks : List ℕ) (es : List Extent) (b : ℕ)
    → ino < length v.inodes → HasAllMaps v
    → length (owners (inode_set ino x blocks es v) b) + uses_of v b ino ≡ length (owners v b) + length (uses_by ino blocks es b)
owners-set v ino x blocks es b below all =
    let w = inode_set ino x blocks es v in
    let count : length w.inodes ≡ length v.inodes = length-set v.inodes ino x in
    let new : length (owners w b) ≡ sum_by (uses_of w b) (range_with_len 0 (length v.inodes)) =
    length-owners w b ∙ ap (λ n. sum_by (uses_of w b) (range_with_len 0 n)) count
    in
    omega (
      arith,
      new,
      length-owners v b,
      sum_by-but_one (uses_of w b) (uses_of v b) 0 (length v.inodes) ino (omega arith) (omega arith)
          (λ j apart. uses-set_other v ino x blocks es b j apart),
      uses-set_same v ino x blocks es b below all,
    )

-- Blocks stay named once where what the inode has now is what it had, or was used by nobody.
pub once-set : (v : Volume) (ino : ℕ) (x : Inode) (blocks : List ℕ) (es : List Extent) → ino < length v.inodes
    → HasAllMaps v
    → ((b : ℕ) → is_data_block v.geometry b ≡ true → length (uses_by ino blocks es b) + length (owners v b) ≤ 1 + uses_of v b ino)
    → (b : ℕ) → is_data_block v.geometry b ≡ true → IsNamedOnce (inode_set ino x blocks es v) b
once-set v ino x blocks es below all room b in_data = omega (arith, owners-set v ino x blocks es b below all, room b in_data)

-- The same where two inodes change, as when blocks go from one file to another.
pub owners-set_two : (v : Volume) (i j : ℕ) (x y : Inode) (us ts : List ℕ) (es fs : List Extent) (b : ℕ) → i ≢ j
    → i < length v.inodes → j < length v.inodes → HasAllMaps v
    → length (owners (inode_set j y ts fs (inode_set i x us es v)) b) + uses_of v b i + uses_of v b j
    ≡ length (owners v b) + length (uses_by i us es b) + length (uses_by j ts fs b)
owners-set_two v i j x y us ts es fs b apart i_below j_below all =
    let w = inode_set i x us es v in
    let inodes = length-set v.inodes i x in
    let still : HasAllMaps w = record {
      chain_count = length-set v.chains i us ∙ all.chain_count ∙ sym inodes;
      map_count = length-set v.maps i es ∙ all.map_count ∙ sym inodes;
    } in
    omega (
      arith,
      owners-set w j y ts fs b (omega (arith, inodes)) still,
      owners-set v i x us es b i_below all,
      uses-set_other v i x us es b j (λ e. apart (sym e)),
    )

-- another inode with the same map, another row, another base: the uses are the same
pub owners-node : (v : Volume) (ino : ℕ) (x : Inode) (b : ℕ) → owners (node_set ino x v) b ≡ owners v b
unfolding owners
owners-node v ino x b =
    ap (λ n. flat_map (λ i. uses_by i (chain v i) (extents v i) b) (range_with_len 0 n)) (length-set v.inodes ino x)

pub owners-row : (v : Volume) (k : ℕ) (o : Option NameRow) (b : ℕ) → owners (row_set k o v) b ≡ owners v b
unfolding owners
owners-row v k o b = refl

pub owners-base : (v : Volume) (base b : ℕ) → owners (base_set base v) b ≡ owners v b
unfolding owners
owners-base v base b = refl

-- ---- a block that is named once

-- two inodes that both use it are one
pub one_user : (v : Volume) (b i j : ℕ) → IsNamedOnce v b → i < length v.inodes → j < length v.inodes
    → 1 ≤ uses_of v b i → 1 ≤ uses_of v b j → i ≡ j
one_user v b i j once i_below j_below first second = elim (cases_order i j) [
  | inl same ↦ same
  | inr order ↦ elim order [
    | inl before ↦ absurd (omega (arith, two-le-owners v b i j before j_below, once))
    | inr behind ↦ absurd (omega (arith, two-le-owners v b j i behind i_below, once))
  ]
]

-- and it uses it once
pub one_use : (v : Volume) (b ino : ℕ) → IsNamedOnce v b → ino < length v.inodes
    → in_chain (chain v ino) b + in_map (extents v ino) b ≤ 1
one_use v b ino once below = omega (arith, uses-le-owners v b ino below, length-uses_by ino (chain v ino) (extents v ino) b, once)

-- two places of chains that have the block are one
pub record IsOnePlace (i j k l : ℕ) : Type 0 where
  pub inode : i ≡ j
  pub place : k ≡ l

pub one_chain_place : (v : Volume) (b i j k l : ℕ) → IsNamedOnce v b → i < length v.inodes → j < length v.inodes
    → k < length (chain v i) → l < length (chain v j) → block_at (chain v i) k ≡ b → block_at (chain v j) l ≡ b
    → IsOnePlace i j k l
one_chain_place v b i j k l once i_below j_below k_below l_below first second =
    let used_i : 1 ≤ uses_of v b i = omega (arith, in_chain-at (chain v i) k b k_below first, length-uses_by i (chain v i) (extents v i) b) in
    let used_j : 1 ≤ uses_of v b j = omega (arith, in_chain-at (chain v j) l b l_below second, length-uses_by j (chain v j) (extents v j) b) in
    let same : i ≡ j = one_user v b i j once i_below j_below used_i used_j in
    let long : l < length (chain v i) = rw same l_below in
    let there : block_at (chain v i) l ≡ b = rw same second in
    record {
      inode = same;
      place = elim (cases_order k l) [
        | inl here ↦ here
        | inr order ↦ elim order [
          | inl before ↦ absurd (omega (arith, in_chain-two (chain v i) k l b before long first there, one_use v b i once i_below))
          | inr behind ↦ absurd (omega (arith, in_chain-two (chain v i) l k b behind k_below there first, one_use v b i once i_below))
        ]
      ];
    }

-- two extents that have the block are one
pub one_extent : (v : Volume) (b i j k l : ℕ) → IsNamedOnce v b → i < length v.inodes → j < length v.inodes
    → k < length (extents v i) → l < length (extents v j) → holds_disk (extent_at (extents v i) k) b ≡ true
    → holds_disk (extent_at (extents v j) l) b ≡ true → IsOnePlace i j k l
one_extent v b i j k l once i_below j_below k_below l_below first second =
    let used_i : 1 ≤ uses_of v b i = omega (arith, in_map-at (extents v i) k b k_below first, length-uses_by i (chain v i) (extents v i) b) in
    let used_j : 1 ≤ uses_of v b j = omega (arith, in_map-at (extents v j) l b l_below second, length-uses_by j (chain v j) (extents v j) b) in
    let same : i ≡ j = one_user v b i j once i_below j_below used_i used_j in
    let long : l < length (extents v i) = rw same l_below in
    let there : holds_disk (extent_at (extents v i) l) b ≡ true = rw same second in
    record {
      inode = same;
      place = elim (cases_order k l) [
        | inl here ↦ here
        | inr order ↦ elim order [
          | inl before ↦ absurd (omega (arith, in_map-two (extents v i) k l b before long first there, one_use v b i once i_below))
          | inr behind ↦ absurd (omega (arith, in_map-two (extents v i) l k b behind k_below there first, one_use v b i once i_below))
        ]
      ];
    }

-- A block of a file is in no chain.
pub no_chain_has : (v : Volume) (b i j k : ℕ) → IsNamedOnce v b → i < length v.inodes → j < length v.inodes
    → covers (extents v i) b ≡ true → k < length (chain v j) → block_at (chain v j) k ≢ b
no_chain_has v b i j k once i_below j_below has k_below is =
    let in_file = in_map-covers (extents v i) b has in
    let chained = in_chain-at (chain v j) k b k_below is in
    let used_i : 1 ≤ uses_of v b i = omega (arith, in_file, length-uses_by i (chain v i) (extents v i) b) in
    let used_j : 1 ≤ uses_of v b j = omega (arith, chained, length-uses_by j (chain v j) (extents v j) b) in
    let same : i ≡ j = one_user v b i j once i_below j_below used_i used_j in
    let both : in_map (extents v j) b ≡ in_map (extents v i) b = ap (λ n. in_map (extents v n) b) (sym same) in
    omega (arith, one_use v b j once j_below, in_file, chained, both)

-- the extent that gives a file block its disk block
abbrev IsGivenBy : List Extent → ℕ → ℕ → Type 0
IsGivenBy es m b = (k : ℕ) × (k < length es) × (holds (extent_at es k) m ≡ true) × (disk_in (extent_at es k) m ≡ b)

-- A block that is named once is the block of one file block of one inode.
pub one_owner : (v : Volume) (b i j m n : ℕ) → IsNamedOnce v b → i < length v.inodes → j < length v.inodes
    → disk_at (extents v i) m ≡ Some b → disk_at (extents v j) n ≡ Some b → IsOnePlace i j m n
one_owner v b i j m n once i_below j_below first second =
    let at_m : IsGivenBy (extents v i) m b = disk_at_found (extents v i) m b no_extent first in
    let at_n : IsGivenBy (extents v j) n b = disk_at_found (extents v j) n b no_extent second in
    let has_m : holds_disk (extent_at (extents v i) at_m.0) b ≡ true = grind (arith, nat_tests, at_m.2, at_m.3) in
    let has_n : holds_disk (extent_at (extents v j) at_n.0) b ≡ true = grind (arith, nat_tests, at_n.2, at_n.3) in
    let one : IsOnePlace i j at_m.0 at_n.0 = one_extent v b i j at_m.0 at_n.0 once i_below j_below at_m.1 at_n.1 has_m has_n in
    let same : extent_at (extents v j) at_n.0 ≡ extent_at (extents v i) at_m.0 = sym (λ t. extent_at (extents v (one.inode t)) (one.place t)) in
    let in_same : holds (extent_at (extents v i) at_m.0) n ≡ true = subst (λ e. holds e n ≡ true) same at_n.2 in
    let is_same : disk_in (extent_at (extents v i) at_m.0) n ≡ b = subst (λ e. disk_in e n ≡ b) same at_n.3 in
    record { inode = one.inode; place = grind (arith, nat_tests, at_m.2, at_m.3, in_same, is_same) }
