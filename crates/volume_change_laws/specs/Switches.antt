-- An inode goes over to another map: what it takes, and what it makes of the volume and of its free blocks.
use Rattle.std.specs.Prelude.{◌≡◌, ℕ, ◌+◌, ◌-◌, ◌<◌, ◌≤◌, ◌==◌, ◌&&◌, not, Bool, true, false, List, length, All, refl}
use Rattle.std.specs.List.{list_any}
use Rattle.std.proofs.Common.{arith, ap, sym, ◌∙◌, inl, inr, subst, get_or}
use Rattle.std.proofs.lemmas.Bool.{and_right, both_ways, cases_lt, eq-eqb, eqb-true, false_from_ne_true}
use Rattle.std.proofs.lemmas.Bool.Decides.{nat_tests}
use Rattle.std.proofs.lemmas.Grind.{get_or_default_zero}
use Rattle.std.proofs.lemmas.List.{get_or_default}
use Rattle.std.proofs.lemmas.List.Folds.{Any-from_list_any, list_any_at}
use Rattle.name_laws.specs.k_split_model.layout_model.Places.{is_data_block}
use Rattle.name_laws.specs.k_split_model.extent_model.declared.extent_words.Extent.{Extent}
use Rattle.name_laws.specs.k_split_model.extent_model.Extents.{holds_disk, IsCanonical, IsExtent}
use Rattle.name_laws.specs.k_split_model.layout_model.declared.lines.Inode.{Inode}
use Rattle.name_laws.specs.k_split_model.layout_model.Lines.{is_inode}
use Rattle.name_laws.specs.k_split_model.image_model.Kept.{AreKept}
use Rattle.name_laws.specs.k_split_model.image_model.Placed.{block_at, extent_at, no_extent}
use Rattle.name_laws.specs.k_split_model.image_model.Room.{has_none}
use Rattle.name_laws.specs.k_split_model.image_model.Rules.{IsInData, file_blocks_of}
use Rattle.name_laws.specs.k_split_model.image_model.Uses.{owners, uses_by}
use Rattle.name_laws.specs.k_split_model.image_model.Volume.{Volume, chain, extents, inode}
use Rattle.name_laws.specs.k_split_model.Taken.{switched, with_map}
use Rattle.name_laws.specs.KeptLaws.{HasAllLines}
use Rattle.volume_change_laws.specs.MapLaws.{switch-keeps}
use Rattle.name_laws.specs.volume_laws.OwnerLaws.{uses-le-owners}
use Rattle.name_laws.specs.volume_laws.PoolLaws.{covered-in_data, has_none-length, has_none-some, is_unused-given, is_unused-others, is_unused-taken}
use Rattle.name_laws.specs.volume_laws.UseLaws.{covers-in_map, in_chain-at, in_chain-some, in_map-at, length-uses_by}
use Rattle.name_laws.specs.volume_laws.Uses.{HasAllMaps, in_chain, in_map, is_unused}

-- ---- what it takes

-- how often an inode has a block, in its chain and in its map
abbrev pub has_block : List ℕ → List Extent → ℕ → ℕ
has_block blocks es b = in_chain blocks b + in_map es b

-- What waits and what the inode has are together the same blocks before and after: no block comes, and none goes.
abbrev pub KeepsBlocks : Volume → ℕ → List ℕ → List ℕ → List Extent → List ℕ → Type 0
KeepsBlocks v ino waits blocks es wait =
    (b : ℕ) → in_chain wait b + has_block blocks es b ≡ in_chain waits b + has_block (chain v ino) (extents v ino) b

-- The inode goes over to a map and a chain whose blocks waited, each once, or were its own; what it has no longer waits then.
pub record MaySwitch (v : Volume) (waits : List ℕ) (ino : ℕ) (x : Inode) (blocks : List ℕ) (es : List Extent) (wait : List ℕ) : Type 0 where
  pub below : ino < length v.inodes
  pub kind : x.kind ≡ (inode v ino).kind
  pub fields : is_inode (with_map blocks es x) ≡ true
  pub short : All (λ (e : Extent). e.file + e.count ≤ file_blocks_of x.kind) es
  pub once : (b : ℕ) → in_chain waits b ≤ 1
  pub same : KeepsBlocks v ino waits blocks es wait

-- the volume keeps the rules, and its chains are in data blocks; blocks that wait are named by nothing
pub record StandsWith (v : Volume) (waits : List ℕ) : Type 0 where
  pub kept : AreKept v
  pub lines : HasAllLines v
  pub maps : HasAllMaps v
  pub chains : (ino : ℕ) → All (λ b. is_data_block v.geometry b ≡ true) (chain v ino)
  pub unused : (b : ℕ) → 1 ≤ in_chain waits b → is_unused v b ≡ true

-- ---- lists of blocks, by test and by count

pub among-counted : (blocks : List ℕ) (b : ℕ) → list_any (λ t. t == b) blocks ≡ true → 1 ≤ in_chain blocks b
among-counted blocks b among =
    let any = Any-from_list_any (λ x. x == b) blocks among in
    in_chain-at blocks any.0 b any.2 (sym (get_or_default_zero blocks any.0 any.1 any.2) ∙ any.3 ∙ eqb-true any.1 b any.4)

pub counted-among : (blocks : List ℕ) (b : ℕ) → 1 ≤ in_chain blocks b → list_any (λ t. t == b) blocks ≡ true
counted-among blocks b used =
    let found = in_chain-some blocks b used in
    list_any_at (λ x. x == b) blocks found.0 0 found.1 (eq-eqb (block_at blocks found.0) b found.2)

pub not-among : (blocks : List ℕ) (b : ℕ) → in_chain blocks b ≡ 0 → list_any (λ t. t == b) blocks ≡ false
not-among blocks b none = false_from_ne_true (list_any (λ t. t == b) blocks) (λ among. omega (arith, none, among-counted blocks b among))

-- ---- what an inode has

pub unused-owners : (v : Volume) (b : ℕ) → is_unused v b ≡ true → length (owners v b) ≡ 0
unused-owners v b unused = has_none-length (owners v b) (second (is_data_block v.geometry b) (has_none (owners v b)) unused)
  where
    second : (x y : Bool) → (x && y) ≡ true → y ≡ true
    second true y both = both
    second false y both = let never : false ≡ true = both in absurd (both_ways false refl never)

pub unused-data : (v : Volume) (b : ℕ) → is_unused v b ≡ true → is_data_block v.geometry b ≡ true
unused-data v b unused = first (is_data_block v.geometry b) (has_none (owners v b)) unused
  where
    first : (x y : Bool) → (x && y) ≡ true → x ≡ true
    first true y both = refl
    first false y both = both

module _ (v : Volume) (waits : List ℕ) (ino : ℕ) (x : Inode) (blocks : List ℕ) (es : List Extent) (wait : List ℕ)
    (stands : StandsWith v waits) (canonical : IsCanonical es) (may : MaySwitch v waits ino x blocks es wait) where
  had : ℕ → ℕ
  had b = has_block (chain v ino) (extents v ino) b

  w : Volume
  w = switched ino x blocks es v

  -- the blocks of the inode are data blocks
  had-data : (b : ℕ) → 1 ≤ had b → is_data_block v.geometry b ≡ true
  unfolding had
  had-data b has = elim (cases_lt 0 (in_chain (chain v ino) b)) [
    | inl in_it ↦
        let found = in_chain-some (chain v ino) b (omega arith) in
        subst (λ n. is_data_block v.geometry n ≡ true) found.2 (stands.chains ino found.0 0 found.1)
    | inr not_in ↦
        covered-in_data v.geometry (file_blocks_of (inode v ino).kind) (extents v ino) b
        (stands.kept.in_data ino (omega (arith, may.below, stands.lines.inode_count)))
        (covers-in_map (extents v ino) b (omega arith))
  ]

  -- what waits and what it has: data blocks, each once
  together-data : (b : ℕ) → 1 ≤ in_chain waits b + had b → is_data_block v.geometry b ≡ true
  together-data b has = elim (cases_lt 0 (in_chain waits b)) [
    | inl waiting ↦ unused-data v b (stands.unused b (omega arith))
    | inr none ↦ had-data b (omega arith)
  ]

  -- a block that waits is named by nothing
  waiting-owners : (b : ℕ) → 1 ≤ in_chain waits b → length (owners v b) ≡ 0
  waiting-owners b waiting = unused-owners v b (stands.unused b waiting)

  had-owners : (b : ℕ) → had b ≤ length (owners v b)
  unfolding had
  had-owners b = omega (arith, uses-le-owners v b ino may.below, length-uses_by ino (chain v ino) (extents v ino) b)

  together-once : (b : ℕ) → in_chain waits b + had b ≤ 1
  together-once b = elim (cases_lt 0 (in_chain waits b)) [
    | inl waiting ↦ omega (arith, may.once b, waiting-owners b (omega arith), had-owners b)
    | inr none ↦ elim (cases_lt 0 (had b)) [
      | inl has ↦ omega (arith, had-owners b, stands.kept.once b (had-data b (omega arith)))
      | inr past ↦ omega arith
    ]
  ]

  -- ---- the new blocks

  now-together : (b : ℕ) → has_block blocks es b ≤ in_chain waits b + had b
  unfolding had
  now-together b = omega (arith, may.same b)

  pub switched-chain : All (λ b. is_data_block v.geometry b ≡ true) blocks
  switched-chain k d within =
      let at : 1 ≤ in_chain blocks (get_or blocks k d) = in_chain-at blocks k (get_or blocks k d) within (sym (get_or_default_zero blocks k d within)) in
      together-data (get_or blocks k d) (omega (arith, now-together (get_or blocks k d)))

  map-data : (k b : ℕ) → k < length es → holds_disk (extent_at es k) b ≡ true → is_data_block v.geometry b ≡ true
  map-data k b within has = together-data b (omega (arith, now-together b, in_map-at es k b within has))

  pub switched-data : All (IsInData v.geometry (file_blocks_of x.kind)) es
  switched-data k d within =
      let e : Extent = get_or es k d in
      let is : IsExtent e = canonical.each k d within in
      let same : extent_at es k ≡ e = get_or_default es k no_extent d within in
      let filled = is.filled in
      let first : holds_disk e e.disk ≡ true = grind (arith, nat_tests, filled) in
      let last : holds_disk e (e.disk + (e.count - 1)) ≡ true = grind (arith, nat_tests, filled) in
      let low = map-data k e.disk within (ap (λ y. holds_disk y e.disk) same ∙ first) in
      let high = map-data k (e.disk + (e.count - 1)) within (ap (λ y. holds_disk y (e.disk + (e.count - 1))) same ∙ last) in
      (may.short k d within, grind (arith, nat_tests, low), grind (arith, nat_tests, high, filled))

  room : (b : ℕ) → is_data_block v.geometry b ≡ true
      → length (uses_by ino blocks es b) + length (owners v b) ≤ 1 + length (uses_by ino (chain v ino) (extents v ino) b)
  unfolding had
  room b in_data =
      let news = length-uses_by ino blocks es b in
      let olds = length-uses_by ino (chain v ino) (extents v ino) b in
      let once = stands.kept.once b in_data in
      elim (cases_lt 0 (in_chain waits b)) [
        | inl waiting ↦ omega (arith, news, olds, once, now-together b, together-once b, waiting-owners b (omega arith))
        | inr none ↦ omega (arith, news, olds, once, now-together b)
      ]

  pub switched-keeps : AreKept (switched ino x blocks es v)
  switched-keeps =
      switch-keeps ino (with_map blocks es x) blocks es v stands.kept stands.lines stands.maps may.below may.kind switched-data room

  -- ---- the blocks that wait then

  pub wait-once : (b : ℕ) → in_chain wait b ≤ 1
  unfolding had
  wait-once b = omega (arith, may.same b, together-once b)

  pub wait-unused : (b : ℕ) → 1 ≤ in_chain wait b → is_unused (switched ino x blocks es v) b ≡ true
  unfolding had
  wait-unused b waits_now =
      let news = length-uses_by ino blocks es b in
      let olds = length-uses_by ino (chain v ino) (extents v ino) b in
      let same = may.same b in
      let once = together-once b in
      let in_data : is_data_block v.geometry b ≡ true = together-data b (omega arith) in
      let all = stands.kept.once b in_data in
      let own = had-owners b in
      let sole : length (owners v b) ≡ length (uses_by ino (chain v ino) (extents v ino) b) = elim (cases_lt 0 (in_chain waits b)) [
        | inl waiting ↦ omega (arith, olds, once, waiting-owners b (omega arith))
        | inr none ↦ omega (arith, olds, once, own, all, same)
      ] in
      is_unused-given v ino (with_map blocks es x) blocks es b may.below stands.maps in_data (omega (arith, news, same, once)) sole

  -- ---- and which are free

  and_false : (y z : Bool) → z ≡ true → (y && not z) ≡ false
  and_false true z is = ap not is
  and_false false z is = refl

  pub switched-free : (b : ℕ)
      → (is_unused (switched ino x blocks es v) b && not (list_any (λ t. t == b) wait)) ≡ (is_unused v b && not (list_any (λ t. t == b) waits))
  unfolding had
  switched-free b =
      let news = length-uses_by ino blocks es b in
      let olds = length-uses_by ino (chain v ino) (extents v ino) b in
      let same = may.same b in
      elim (cases_lt 0 (in_chain waits b + had b)) [
        | inl some ↦
            let left : (is_unused (switched ino x blocks es v) b && not (list_any (λ t. t == b) wait)) ≡ false = elim (cases_lt 0 (in_chain wait b)) [
              | inl waits_now ↦ and_false (is_unused (switched ino x blocks es v) b) (list_any (λ t. t == b) wait) (counted-among wait b (omega arith))
              | inr none ↦
                  ap (λ y. y && not (list_any (λ t. t == b) wait))
                  (is_unused-taken v ino (with_map blocks es x) blocks es b may.below stands.maps (omega (arith, news, same, some)))
            ] in
            let right : (is_unused v b && not (list_any (λ t. t == b) waits)) ≡ false = elim (cases_lt 0 (in_chain waits b)) [
              | inl waiting ↦ and_false (is_unused v b) (list_any (λ t. t == b) waits) (counted-among waits b (omega arith))
              | inr none ↦
                  ap (λ y. y && not (list_any (λ t. t == b) waits))
                  (and_right (is_data_block v.geometry b) (has_none (owners v b)) (has_none-some (owners v b) (omega (arith, had-owners b, some))))
            ] in
            left ∙ sym right
        | inr none ↦
            let still = is_unused-others v ino (with_map blocks es x) blocks es b may.below stands.maps (omega (arith, news, olds, same, none)) in
            let now : list_any (λ t. t == b) wait ≡ false = not-among wait b (omega (arith, same, none)) in
            let before : list_any (λ t. t == b) waits ≡ false = not-among waits b (omega (arith, none)) in
            λ i. still i && not ((now ∙ sym before) i)
      ]
