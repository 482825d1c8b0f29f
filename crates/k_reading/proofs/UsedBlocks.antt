-- The extents of chains and maps: which blocks they cover, and where they lie.
use Rattle.std.proofs.Common.{◌≡◌, ℕ, ◌+◌, ◌≤◌, Bool, true, not, ◌&&◌, ◌||◌, List, [], ◌∷◌, map, flat_map, All, refl, sym, ◌∙◌, ap, subst, suc, arith}
use Rattle.std.specs.Prelude.{◌==◌, nat_le, nat_lt, slice_index_or}
use Rattle.std.specs.List.{list_any}
use Rattle.std.proofs.lemmas.Bool.Decides.{nat_tests}
use Rattle.std.proofs.lemmas.List.Elements.{All-append, All-map}
use Rattle.std.proofs.lemmas.List.Folds.{list_any-append}
use Rattle.block_pool.specs.extent_model.declared.extent_words.Extent.{Extent}
use Rattle.block_pool.specs.extent_model.Extents.{covers, holds_disk, is_within}
use Rattle.k_inodes.specs.image_layout.layout_model.Places.{Geometry, first_data, data_blocks, is_data_block}
use Rattle.block_pool.specs.FreeSets.{FreeSet, is_among, LiesWithin, IsUnused}
use Rattle.k_reading.specs.Pools.{is_named, one_block, used_extents, AreInData, IsPoolOf}

any-flat_map : {X Y : Type 0} (p : Y → Bool) (f : X → List Y) (xs : List X)
    → list_any p (flat_map f xs) ≡ list_any (λ x. list_any p (f x)) xs
any-flat_map p f [] = refl
any-flat_map p f (x ∷ xs) = list_any-append p (f x) (flat_map f xs) ∙ ap (λ b. list_any p (f x) || b) (any-flat_map p f xs)

all-flat_map : {X Y : Type 0} (P : Y → Type 0) (f : X → List Y) (xs : List X) → All (λ x. All P (f x)) xs → All P (flat_map f xs)
all-flat_map P f [] all = λ k d below. absurd (omega arith)
all-flat_map P f (x ∷ xs) all =
    All-append P (f x) (flat_map f xs) (all 0 x (omega arith)) (all-flat_map P f xs (λ k d below. all (suc k) d (omega arith)))

all-implied : {X : Type 0} (P Q : X → Type 0) → ((x : X) → P x → Q x) → (xs : List X) → All P xs → All Q xs
all-implied P Q implies xs all = λ k d below. implies (slice_index_or xs k d) (all k d below)

-- the extent of a block has that block
one-covers : (x b : ℕ) → holds_disk (one_block x) b ≡ (x == b)
one-covers x b = grind (arith, nat_tests)

blocks-cover : (blocks : List ℕ) (b : ℕ) → list_any (λ e. holds_disk e b) (map one_block blocks) ≡ is_among blocks b
blocks-cover [] b = refl
blocks-cover (x ∷ blocks) b = (λ i. one-covers x b i || blocks-cover blocks b i)

chains-cover : (chains : List (List ℕ)) (b : ℕ)
    → list_any (λ blocks. list_any (λ e. holds_disk e b) (map one_block blocks)) chains ≡ list_any (λ blocks. is_among blocks b) chains
chains-cover [] b = refl
chains-cover (blocks ∷ chains) b = (λ i. blocks-cover blocks b i || chains-cover chains b i)

used-cover : (chains : List (List ℕ)) (maps : List (List Extent)) (b : ℕ)
    → covers (used_extents chains maps) b ≡ is_named chains maps b
used-cover chains maps b =
    list_any-append (λ e. holds_disk e b) (flat_map (λ blocks. map one_block blocks) chains) (flat_map (λ es. es) maps)
    ∙ (λ i.
    (any-flat_map (λ e. holds_disk e b) (λ blocks. map one_block blocks) chains ∙ chains-cover chains b) i
    || any-flat_map (λ e. holds_disk e b) (λ (es : List Extent). es) maps i)

in_data : (g : Geometry) (b : ℕ) → first_data g ≤ g.blocks → is_within (first_data g) (data_blocks g) b ≡ is_data_block g b
in_data g b fits =
    let end : first_data g + data_blocks g ≡ g.blocks = omega arith in
    ap (λ n. nat_le (first_data g) b && nat_lt b n) end

one-lies : (g : Geometry) (b : ℕ) → is_data_block g b ≡ true → LiesWithin (first_data g) (data_blocks g) (one_block b)
one-lies g b is = record { low = grind (arith, nat_tests); high = grind (arith, nat_tests) }

used-lie : (g : Geometry) (chains : List (List ℕ)) (maps : List (List Extent)) → AreInData g chains maps
    → All (LiesWithin (first_data g) (data_blocks g)) (used_extents chains maps)
used-lie g chains maps are =
    let lies = LiesWithin (first_data g) (data_blocks g) in
    All-append lies (flat_map (λ blocks. map one_block blocks) chains) (flat_map (λ es. es) maps)
    (all-flat_map lies (λ blocks. map one_block blocks) chains
    (all-implied (λ blocks. All (λ b. is_data_block g b ≡ true) blocks) (λ blocks. All lies (map one_block blocks))
    (λ blocks all. All-map lies one_block blocks
    (all-implied (λ b. is_data_block g b ≡ true) (λ b. lies (one_block b)) (one-lies g) blocks all))
    chains are.blocks))
    (all-flat_map lies (λ (es : List Extent). es) maps are.extents)

pub used-lie-along : (g : Geometry) (chains : List (List ℕ)) (maps : List (List Extent)) (used : List Extent) (start count : ℕ)
    → AreInData g chains maps → used ≡ used_extents chains maps → start ≡ first_data g → count ≡ data_blocks g
    → All (LiesWithin start count) used
used-lie-along g chains maps used start count are is at many =
    subst (λ s. All (LiesWithin s count) used) (sym at)
    (subst (λ n. All (LiesWithin (first_data g) n) used) (sym many)
    (subst (λ es. All (LiesWithin (first_data g) (data_blocks g)) es) (sym is) (used-lie g chains maps are)))

-- the pool of what these extents do not use
pub pool-unused : (g : Geometry) (chains : List (List ℕ)) (maps : List (List Extent)) (used : List Extent) (start count : ℕ) (pool : FreeSet)
    → first_data g ≤ g.blocks → used ≡ used_extents chains maps → start ≡ first_data g → count ≡ data_blocks g
    → IsUnused start count used pool → IsPoolOf g chains maps pool
pool-unused g chains maps used start count pool fits is at many unused = record {
  first = unused.first ∙ at;
  count = unused.length ∙ many;
  free = λ b.
      unused.free b
      ∙ (λ i. is_within (at i) (many i) b && not (covers (is i) b))
      ∙ (λ i. in_data g b fits i && not (used-cover chains maps b i));
}
