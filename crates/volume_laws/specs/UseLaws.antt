-- Laws of the uses of a block by one inode.
use Rattle.std.specs.Prelude.{◌≡◌, ℕ, ◌+◌, ◌-◌, ◌<◌, ◌≤◌, ◌==◌, true, List, length, map, filter}
use Rattle.std.specs.List.{range_with_len}
use Rattle.std.proofs.Common.{arith, ap, sym, ◌∙◌, get_or, length-append}
use Rattle.std.proofs.lemmas.Bool.{eq-eqb, eqb-true}
use Rattle.std.proofs.lemmas.List.{length-map}
use Rattle.std.proofs.lemmas.List.Folds.{list_any_at, Any-from_list_any}
use Rattle.std.proofs.lemmas.List.FromFn.{length-range_with_len, get_or-range_with_len}
use Rattle.std.proofs.lemmas.List.Sums.{length-filter}
use Rattle.image_model.specs.extent_model.declared.extent_words.Extent.{Extent}
use Rattle.image_model.specs.extent_model.Extents.{holds_disk, covers}
use Rattle.image_model.specs.Placed.{no_extent, extent_at, block_at}
use Rattle.image_model.specs.Uses.{InChain, Holds, places_in, uses_by}
use Rattle.volume_laws.specs.Lists.{count_by-at, count_by-two, count_by-some}
use Rattle.volume_laws.specs.Uses.{in_chain, in_map}

-- an inode uses a block once for each place of its chain and each extent of its map that has it
pub length-uses_by : (ino : ℕ) (blocks : List ℕ) (es : List Extent) (b : ℕ)
    → length (uses_by ino blocks es b) ≡ in_chain blocks b + in_map es b
length-uses_by ino blocks es b =
    omega (
      arith,
      length-append (map (λ k. InChain ino k) (places_in blocks b))
          (map (λ e. Holds ino (e.file + (b - e.disk))) (filter (λ e. holds_disk e b) es)),
      length-map (places_in blocks b) (λ k. InChain ino k),
      length-map (filter (λ e. holds_disk e b) es) (λ e. Holds ino (e.file + (b - e.disk))),
      length-filter (λ k. block_at blocks k == b) (range_with_len 0 (length blocks)),
      length-filter (λ e. holds_disk e b) es,
    )

-- a block of the chain, and one that stands there twice
pub in_chain-at : (blocks : List ℕ) (k b : ℕ) → k < length blocks → block_at blocks k ≡ b → 1 ≤ in_chain blocks b
in_chain-at blocks k b below is =
    let long = length-range_with_len 0 (length blocks) in
    let at : get_or (range_with_len 0 (length blocks)) k 0 ≡ k = get_or-range_with_len 0 (length blocks) k 0 below ∙ omega arith in
    count_by-at (λ n. block_at blocks n == b) (range_with_len 0 (length blocks)) k 0 (omega arith)
    (eq-eqb (block_at blocks (get_or (range_with_len 0 (length blocks)) k 0)) b (ap (block_at blocks) at ∙ is))

pub in_chain-two : (blocks : List ℕ) (j k b : ℕ) → j < k → k < length blocks → block_at blocks j ≡ b
    → block_at blocks k ≡ b → 2 ≤ in_chain blocks b
in_chain-two blocks j k b before below first second =
    let long = length-range_with_len 0 (length blocks) in
    let at_j : get_or (range_with_len 0 (length blocks)) j 0 ≡ j = get_or-range_with_len 0 (length blocks) j 0 (omega arith) ∙ omega arith in
    let at_k : get_or (range_with_len 0 (length blocks)) k 0 ≡ k = get_or-range_with_len 0 (length blocks) k 0 below ∙ omega arith in
    count_by-two (λ n. block_at blocks n == b) (range_with_len 0 (length blocks)) j k 0 before (omega arith)
    (eq-eqb (block_at blocks (get_or (range_with_len 0 (length blocks)) j 0)) b (ap (block_at blocks) at_j ∙ first))
    (eq-eqb (block_at blocks (get_or (range_with_len 0 (length blocks)) k 0)) b (ap (block_at blocks) at_k ∙ second))

-- a block that is used is one of the chain or one of the map
pub in_chain-some : (blocks : List ℕ) (b : ℕ) → 1 ≤ in_chain blocks b
    → (k : ℕ) × (k < length blocks) × (block_at blocks k ≡ b)
in_chain-some blocks b some =
    let found = count_by-some (λ n. block_at blocks n == b) (range_with_len 0 (length blocks)) 0 some in
    let below : found.0 < length blocks = omega (arith, found.1, length-range_with_len 0 (length blocks)) in
    let at : get_or (range_with_len 0 (length blocks)) found.0 0 ≡ found.0 = get_or-range_with_len 0 (length blocks) found.0 0 below ∙ omega arith in (
      found.0,
      below,
      ap (block_at blocks) (sym at)
          ∙ eqb-true (block_at blocks (get_or (range_with_len 0 (length blocks)) found.0 0)) b found.2,
    )

pub in_map-at : (es : List Extent) (k b : ℕ) → k < length es → holds_disk (extent_at es k) b ≡ true → 1 ≤ in_map es b
in_map-at es k b below has = count_by-at (λ e. holds_disk e b) es k no_extent below has

pub in_map-two : (es : List Extent) (j k b : ℕ) → j < k → k < length es → holds_disk (extent_at es j) b ≡ true
    → holds_disk (extent_at es k) b ≡ true → 2 ≤ in_map es b
in_map-two es j k b before below first second = count_by-two (λ e. holds_disk e b) es j k no_extent before below first second

pub in_map-some : (es : List Extent) (b : ℕ) → 1 ≤ in_map es b
    → (k : ℕ) × (k < length es) × (holds_disk (extent_at es k) b ≡ true)
in_map-some es b some = count_by-some (λ e. holds_disk e b) es no_extent some

-- an extent of the map has the block where the map uses it
pub in_map-covers : (es : List Extent) (b : ℕ) → covers es b ≡ true → 1 ≤ in_map es b
in_map-covers es b has =
    let any = Any-from_list_any (λ e. holds_disk e b) es has in
    count_by-at (λ e. holds_disk e b) es any.0 any.1 any.2 (ap (λ e. holds_disk e b) any.3 ∙ any.4)

pub covers-in_map : (es : List Extent) (b : ℕ) → 1 ≤ in_map es b → covers es b ≡ true
covers-in_map es b some =
    let found = in_map-some es b some in
    list_any_at (λ e. holds_disk e b) es found.0 no_extent found.1 found.2
