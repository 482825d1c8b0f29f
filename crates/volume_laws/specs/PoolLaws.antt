-- Laws of free blocks: which blocks are free after an inode's chain and map were set, and how many are.
use Rattle.std.specs.Prelude.{◌&&◌, ◌≡◌, ◌≢◌, ℕ, suc, zero, ◌+◌, ◌<◌, ◌≤◌, ◌==◌, true, false, List, [], ◌∷◌, length, sum_by, All, slice_index_or, refl}
use Rattle.std.specs.List.{range_with_len, count_by}
use Rattle.std.proofs.Common.{arith, ap, sym, ◌∙◌}
use Rattle.std.proofs.Math.Path.{fun_ext}
use Rattle.std.proofs.lemmas.Bool.{and_parts, and_from, and_right, false_from_ne_true}
use Rattle.std.proofs.lemmas.Bool.Decides.{nat_tests}
use Rattle.std.proofs.lemmas.List.{length-set}
use Rattle.std.proofs.lemmas.List.Sums.{sum_by-cons}
use Rattle.image_model.specs.pm_model.Words.{Words}
use Rattle.image_model.specs.layout_model.Places.{Geometry, first_data, data_blocks, is_data_block}
use Rattle.image_model.specs.extent_model.declared.extent_words.Extent.{Extent}
use Rattle.image_model.specs.extent_model.Extents.{holds_disk, covers, block_count}
use Rattle.image_model.specs.layout_model.declared.lines.Inode.{Inode}
use Rattle.image_model.specs.Placed.{no_extent, extent_at, block_at}
use Rattle.image_model.specs.Reading.{Reads, inode_set}
use Rattle.image_model.specs.Room.{has_none, unused_blocks}
use Rattle.image_model.specs.Rules.{IsInData, IsNamedOnce}
use Rattle.image_model.specs.Uses.{Use, uses_by, owners}
use Rattle.image_model.specs.Volume.{Volume, chain, extents}
use Rattle.volume_laws.specs.Changes.{chain-set_same, extents-set_same, chain-set_other, extents-set_other}
use Rattle.volume_laws.specs.Lists.{one_if, sum_by-agree, sum_by-but_one, sum_by-add, sum_by-swap, count_by-range, count_by-one}
use Rattle.volume_laws.specs.Reading.{AreUnchained}
use Rattle.volume_laws.specs.OwnerLaws.{length-owners, uses-le-owners, owners-set}
use Rattle.volume_laws.specs.UseLaws.{length-uses_by, in_chain-at, in_map-some, in_map-covers}
use Rattle.volume_laws.specs.Uses.{in_chain, in_map, uses_of, blocks_of, blocks_held, is_unused, HasAllMaps, Freed}

-- words that read as a volume give each inode a chain and a map
pub reads-all_maps : (g : Geometry) (f : Words) (v : Volume) → Reads g f v → HasAllMaps v
reads-all_maps g f v r = record { chain_count = r.chain_count ∙ sym r.inode_count; map_count = r.map_count ∙ sym r.inode_count }

-- ---- which blocks are free

-- a block is free where it has no uses: only their number matters
pub has_none-zero : (us : List Use) → length us ≡ 0 → has_none us ≡ true
has_none-zero [] none = refl
has_none-zero (u ∷ us) none = absurd (omega arith)

pub has_none-some : (us : List Use) → 1 ≤ length us → has_none us ≡ false
has_none-some [] some = absurd (omega arith)
has_none-some (u ∷ us) some = refl

pub has_none-length : (us : List Use) → has_none us ≡ true → length us ≡ 0
has_none-length [] none = refl
has_none-length (u ∷ us) none = cc

pub has_none-count : (us ts : List Use) → length us ≡ length ts → has_none us ≡ has_none ts
has_none-count [] [] same = refl
has_none-count [] (t ∷ ts) same = absurd (omega arith)
has_none-count (u ∷ us) [] same = absurd (omega arith)
has_none-count (u ∷ us) (t ∷ ts) same = refl

pub freed-set : (v : Volume) (ino : ℕ) (x : Inode) (blocks : List ℕ) (es : List Extent) → ino < length v.inodes
    → HasAllMaps v → Freed v ino blocks es (inode_set ino x blocks es v)
freed-set v ino x blocks es below all =
    let w = inode_set ino x blocks es v in
    record {
      taken = λ b some. has_none-some (owners w b) (omega (arith, owners-set v ino x blocks es b below all, uses-le-owners v b ino below));
      given = λ b none only. has_none-zero (owners w b) (omega (arith, owners-set v ino x blocks es b below all));
      others = λ b same. has_none-count (owners w b) (owners v b) (omega (arith, owners-set v ino x blocks es b below all));
    }

-- the same of the test by which blocks are taken from a pool
pub is_unused-taken : (v : Volume) (ino : ℕ) (x : Inode) (blocks : List ℕ) (es : List Extent) (b : ℕ)
    → ino < length v.inodes → HasAllMaps v
    → 1 ≤ length (uses_by ino blocks es b) → is_unused (inode_set ino x blocks es v) b ≡ false
is_unused-taken v ino x blocks es b below all some =
    and_right (is_data_block v.geometry b) (has_none (owners (inode_set ino x blocks es v) b))
    (has_none-some (owners (inode_set ino x blocks es v) b)
    (omega (arith, owners-set v ino x blocks es b below all, uses-le-owners v b ino below)))

pub is_unused-given : (v : Volume) (ino : ℕ) (x : Inode) (blocks : List ℕ) (es : List Extent) (b : ℕ)
    → ino < length v.inodes → HasAllMaps v
    → is_data_block v.geometry b ≡ true → length (uses_by ino blocks es b) ≡ 0 → length (owners v b) ≡ uses_of v b ino
    → is_unused (inode_set ino x blocks es v) b ≡ true
is_unused-given v ino x blocks es b below all in_data none only =
    and_from (is_data_block v.geometry b) (has_none (owners (inode_set ino x blocks es v) b)) in_data
    (has_none-zero (owners (inode_set ino x blocks es v) b) (omega (arith, owners-set v ino x blocks es b below all)))

pub is_unused-others : (v : Volume) (ino : ℕ) (x : Inode) (blocks : List ℕ) (es : List Extent) (b : ℕ)
    → ino < length v.inodes → HasAllMaps v
    → length (uses_by ino blocks es b) ≡ uses_of v b ino → is_unused (inode_set ino x blocks es v) b ≡ is_unused v b
is_unused-others v ino x blocks es b below all same =
    ap (λ none. is_data_block v.geometry b && none)
    (has_none-count (owners (inode_set ino x blocks es v) b) (owners v b)
    (omega (arith, owners-set v ino x blocks es b below all)))

-- free blocks are in no chain and in no file
pub unused-unchained : (v : Volume) (blocks : List ℕ) → length v.inodes ≡ v.geometry.inodes
    → All (λ b. is_unused v b ≡ true) blocks → AreUnchained v.geometry v blocks
unused-unchained v blocks count free = record {
  in_data = λ k d below. (and_parts (is_data_block v.geometry (block_in k d)) (has_none (owners v (block_in k d))) (free k d below)).0;
  apart = λ ino k j ino_below k_below j_below same.
      let b = block_at blocks j in
      let none = has_none-length (owners v b) (and_parts (is_data_block v.geometry b) (has_none (owners v b)) (free j 0 j_below)).1 in
      omega (
        arith,
        none,
        in_chain-at (chain v ino) k b k_below (sym same),
        length-uses_by ino (chain v ino) (extents v ino) b,
        uses-le-owners v b ino (omega arith),
      );
}
  where
    block_in : ℕ → ℕ → ℕ
    block_in k d = slice_index_or blocks k d

pub unused-uncovered : (v : Volume) (b ino : ℕ) → ino < length v.inodes → is_unused v b ≡ true
    → covers (extents v ino) b ≡ false
unused-uncovered v b ino below free =
    false_from_ne_true (covers (extents v ino) b) (λ has.
    let none = has_none-length (owners v b) (and_parts (is_data_block v.geometry b) (has_none (owners v b)) free).1 in
    omega (
      arith,
      none,
      in_map-covers (extents v ino) b has,
      length-uses_by ino (chain v ino)
          (extents v ino) b,
      uses-le-owners v b ino below,
    ))

-- a block that an extent in data blocks has is a data block
pub covered-in_data : (g : Geometry) (limit : ℕ) (es : List Extent) (b : ℕ) → All (IsInData g limit) es
    → covers es b ≡ true → is_data_block g b ≡ true
covered-in_data g limit es b in_data has =
    let found = in_map-some es b (in_map-covers es b has) in
    let e : Extent = extent_at es found.0 in
    let here : IsInData g limit e = in_data found.0 no_extent found.1 in
    grind (arith, nat_tests, here.1, here.2, found.2)

-- ---- how many are free

-- the numbers of the data blocks
abbrev pub data_range : Volume → List ℕ
data_range v = range_with_len (first_data v.geometry) (data_blocks v.geometry)

ones : (a n : ℕ) → sum_by (λ (k : ℕ). 1) (range_with_len a n) ≡ n
ones a zero = refl
ones a (suc n) = omega (arith, sum_by-cons (λ (k : ℕ). 1) a (range_with_len (a + 1) n), ones (a + 1) n)

-- a sum of n numbers of at most 1
pub sum_by-bound : (f : ℕ → ℕ) (a n : ℕ) → ((k : ℕ) → a ≤ k → k < a + n → f k ≤ 1) → sum_by f (range_with_len a n) ≤ n
sum_by-bound f a zero small = omega arith
sum_by-bound f a (suc n) small =
    omega (
      arith,
      sum_by-cons f a (range_with_len (a + 1) n),
      small a (omega arith) (omega arith),
      sum_by-bound f (a + 1) n (λ k low high. small k (omega arith) (omega arith)),
    )

-- Of a chain of data blocks, counted block by block, there are as many as it has, of a map as many as its file has.
pub chain-counted : (v : Volume) (blocks : List ℕ) → All (λ b. is_data_block v.geometry b ≡ true) blocks
    → sum_by (in_chain blocks) (data_range v) ≡ length blocks
chain-counted v blocks in_data =
    sum_by-swap (λ b k. one_if (block_at blocks k == b)) (data_range v) (range_with_len 0 (length blocks))
    ∙ sum_by-agree (λ k. count_by (λ b. block_at blocks k == b) (data_range v)) (λ k. 1) 0 (length blocks) (λ k low below.
    let at = in_data k 0 (omega arith) in
    count_by-one (block_at blocks k) (first_data v.geometry) (data_blocks v.geometry) (grind (arith, nat_tests, at))
    (grind (arith, nat_tests, at)))
    ∙ ones 0 (length blocks)

pub map-counted : (v : Volume) (limit : ℕ) (es : List Extent) → All (IsInData v.geometry limit) es
    → sum_by (in_map es) (data_range v) ≡ block_count es
map-counted v limit es in_data =
    sum_by-swap (λ b (e : Extent). one_if (holds_disk e b)) (data_range v) es ∙ each es in_data
  where
    each : (es : List Extent) → All (IsInData v.geometry limit) es
        → sum_by (λ (e : Extent). count_by (holds_disk e) (data_range v)) es ≡ sum_by (λ (e : Extent). e.count) es
    each [] in_data = refl
    each (e ∷ es) in_data =
        let here : IsInData v.geometry limit e = in_data 0 e (omega arith) in
        omega (
          arith,
          sum_by-cons (λ (x : Extent). count_by (holds_disk x) (data_range v)) e es,
          sum_by-cons (λ (x : Extent). x.count) e es,
          count_by-range e.disk e.count (first_data v.geometry) (data_blocks v.geometry) here.1 (omega (arith, here.1, here.2)),
          each es (λ k d below. in_data (suc k) d (omega arith)),
        )

-- each inode's chain and file are in data blocks
pub record AreInData (v : Volume) (limit : ℕ → ℕ) : Type 0 where
  pub chains : (ino : ℕ) → ino < length v.inodes → All (λ b. is_data_block v.geometry b ≡ true) (chain v ino)
  pub files : (ino : ℕ) → ino < length v.inodes → All (IsInData v.geometry (limit ino)) (extents v ino)

-- all uses of data blocks are the blocks that the inodes have
pub owners-counted : (v : Volume) (limit : ℕ → ℕ) → AreInData v limit
    → sum_by (λ b. length (owners v b)) (data_range v) ≡ blocks_held v
owners-counted v limit in_data =
    ap (λ f. sum_by f (data_range v)) (fun_ext (λ b. length-owners v b))
    ∙ sum_by-swap (uses_of v) (data_range v) (range_with_len 0 (length v.inodes))
    ∙ sum_by-agree (λ ino. sum_by (λ b. uses_of v b ino) (data_range v)) (blocks_of v) 0 (length v.inodes) (λ ino low below.
    ap (λ f. sum_by f (data_range v)) (fun_ext (λ b. length-uses_by ino (chain v ino) (extents v ino) b))
    ∙ sum_by-add (in_chain (chain v ino)) (in_map (extents v ino)) (data_range v)
    ∙ (λ i. chain-counted v (chain v ino) (in_data.chains ino (omega arith)) i + map-counted v (limit ino)
    (extents v ino) (in_data.files ino (omega arith)) i))

free_or_used : (us : List Use) → length us ≤ 1 → one_if (has_none us) + length us ≡ 1
free_or_used [] once = refl
free_or_used (u ∷ us) once = omega arith

-- Where no data block is named twice, each is free or one that an inode has.
pub unused-held : (v : Volume) (limit : ℕ → ℕ) → AreInData v limit
    → ((b : ℕ) → is_data_block v.geometry b ≡ true → IsNamedOnce v b)
    → unused_blocks v + blocks_held v ≡ data_blocks v.geometry
unused-held v limit in_data once =
    ap (λ n. unused_blocks v + n) (sym (owners-counted v limit in_data))
    ∙ sym (sum_by-add (λ b. one_if (has_none (owners v b))) (λ b. length (owners v b)) (data_range v))
    ∙ sum_by-agree (λ b. one_if (has_none (owners v b)) + length (owners v b)) (λ b. 1) (first_data v.geometry)
    (data_blocks v.geometry) (λ b low below.
    let in_range : is_data_block v.geometry b ≡ true = grind (arith, nat_tests, low, below) in
    free_or_used (owners v b) (once b in_range))
    ∙ ones (first_data v.geometry) (data_blocks v.geometry)

-- what the inodes have after one inode's chain and map were set
pub held-set : (v : Volume) (ino : ℕ) (x : Inode) (blocks : List ℕ) (es : List Extent) → ino < length v.inodes
    → HasAllMaps v
    → blocks_held (inode_set ino x blocks es v) + blocks_of v ino ≡ blocks_held v + (length blocks + block_count es)
held-set v ino x blocks es below all =
    let w = inode_set ino x blocks es v in
    let own_chain = chain-set_same ino x blocks es v (omega (arith, all.chain_count)) in
    let own_map = extents-set_same ino x blocks es v (omega (arith, all.map_count)) in
    let own : blocks_of w ino ≡ length blocks + block_count es = λ i. length (own_chain i) + block_count (own_map i) in
    let other : (j : ℕ) → j ≢ ino → blocks_of w j ≡ blocks_of v j =
    λ j apart.
    let same_chain = chain-set_other ino x blocks es v j apart in
    let same_map = extents-set_other ino x blocks es v j apart in
    λ i. length (same_chain i) + block_count (same_map i)
    in
    let count : blocks_held w ≡ sum_by (blocks_of w) (range_with_len 0 (length v.inodes)) =
    ap (λ n. sum_by (blocks_of w) (range_with_len 0 n)) (length-set v.inodes ino x)
    in
    omega (
      arith,
      count,
      sum_by-but_one (blocks_of w) (blocks_of v) 0 (length v.inodes) ino (omega arith) (omega arith) other,
      own,
    )

-- and how many are free then
pub unused-set : (v : Volume) (ino : ℕ) (x : Inode) (blocks : List ℕ) (es : List Extent) (before after : ℕ → ℕ)
    → ino < length v.inodes → HasAllMaps v
    → AreInData v before → AreInData (inode_set ino x blocks es v) after
    → ((b : ℕ) → is_data_block v.geometry b ≡ true → IsNamedOnce v b)
    → ((b : ℕ) → is_data_block v.geometry b ≡ true → IsNamedOnce (inode_set ino x blocks es v) b)
    → unused_blocks (inode_set ino x blocks es v) + (length blocks + block_count es) ≡ unused_blocks v + blocks_of v ino
unused-set v ino x blocks es before after below all in_data now once still =
    omega (
      arith,
      unused-held v before in_data once,
      unused-held (inode_set ino x blocks es v) after now still,
      held-set v ino x blocks es below all,
    )
