-- Where the bytes of one block lie, and those of two parts one after the other.
use Rattle.std.proofs.Common.{arith, ap, sym, ◌∙◌, ◌≡◌, ◌≤◌, ◌<◌, ◌+◌, ◌*◌, ◌/◌, ◌%◌, ℕ, zero, suc, List, [], ◌∷◌, ◌++◌, map, refl}
use Rattle.std.specs.List.{range_with_len, flat_map}
use Rattle.std.proofs.lemmas.Grind.{flat_map-append}
use Rattle.std.proofs.lemmas.List.{append-nil}
use Rattle.file_overlay.specs.extent_model.declared.extent_words.Extent.{Extent}
use Rattle.file_overlay.specs.declared.runs.Run.{Run}
use Rattle.data_route.specs.declared.reads.Piece.{Piece}
use Rattle.data_route.specs.declared.reads.Source.{Source}
use Rattle.data_route.specs.Reads.{place_of, places_from, places_in, source_of}

-- a byte of a block, by its number in the file
block_of : (at block start : ℕ) → at ≡ 4096 * block + start → start < 4096 → at / 4096 ≡ block
block_of at block start is below = omega arith

start_of : (at block start : ℕ) → at ≡ 4096 * block + start → start < 4096 → at % 4096 ≡ start
start_of at block start is below = omega arith

-- the bytes of one block lie one after the other in what has the block
pub places-block : (runs : List Run) (extents : List Extent) (block start at n : ℕ) → at ≡ 4096 * block + start → start + n ≤ 4096
    → map (λ i. (source_of runs extents block, i)) (range_with_len start n) ≡ places_from runs extents at n
places-block runs extents block start at zero is within = refl
places-block runs extents block start at (suc n) is within =
    let first : (Source × ℕ) = (source_of runs extents block, start) in
    ap (λ xs. first ∷ xs) (places-block runs extents block (start + 1) (at + 1) n (omega arith) (omega arith))
    ∙ ap (λ (x : Source × ℕ). x ∷ places_from runs extents (at + 1) n)
    (ap (λ b. (source_of runs extents b, start)) (sym (block_of at block start is (omega arith)))
    ∙ ap (λ i. (source_of runs extents (at / 4096), i)) (sym (start_of at block start is (omega arith))))

-- so many bytes, and more behind them
places-more : (runs : List Run) (extents : List Extent) (from m n : ℕ)
    → places_from runs extents from m ++ places_from runs extents (from + m) n ≡ places_from runs extents from (m + n)
places-more runs extents from zero n =
    let same : from + 0 ≡ from = omega arith in
    let total : n ≡ 0 + n = omega arith in
    ap (λ a. places_from runs extents a n) same ∙ ap (places_from runs extents from) total
places-more runs extents from (suc m) n =
    let next : from + suc m ≡ from + 1 + m = omega arith in
    let total : suc m + n ≡ suc (m + n) = omega arith in
    ap (λ a. place_of runs extents from ∷ (places_from runs extents (from + 1) m ++ places_from runs extents a n)) next
    ∙ ap (λ xs. place_of runs extents from ∷ xs) (places-more runs extents (from + 1) m n)
    ∙ ap (places_from runs extents from) (sym total)

-- pieces with one more behind them
pub places-push : (runs : List Run) (extents : List Extent) (from at m n : ℕ) (pieces : List Piece) (piece : Piece) → at ≡ from + m
    → flat_map places_in pieces ≡ places_from runs extents from m → places_in piece ≡ places_from runs extents at n
    → flat_map places_in (pieces ++ piece ∷ []) ≡ places_from runs extents from (m + n)
places-push runs extents from at m n pieces piece is before one =
    flat_map-append places_in pieces (piece ∷ [])
    ∙ ap (λ xs. xs ++ flat_map places_in (piece ∷ [])) before
    ∙ ap (λ xs. places_from runs extents from m ++ xs) (append-nil (places_in piece) ∙ one)
    ∙ ap (λ a. places_from runs extents from m ++ places_from runs extents a n) is
    ∙ places-more runs extents from m n
