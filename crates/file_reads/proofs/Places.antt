-- The pieces of a plan give the bytes of a read, and each of them can be read.
use Rattle.std.specs.Prelude.{◌≡◌, ◌≤◌, ◌<◌, ◌+◌, ◌-◌, ◌*◌, ◌/◌, ◌%◌, ℕ, List, [], ◌∷◌, ◌++◌, length, map, take, drop, get_or, slice_index, Option, Some, None, refl}
use Rattle.std.specs.List.{flat_map, range_with_len}
use Rattle.std.proofs.Common.{arith, ap, append-nil, ◌∙◌, sym, subst}
use Rattle.std.proofs.lemmas.Grind.{flat_map-append, same_number_lists}
use Rattle.std.proofs.lemmas.List.{get_or-drop, get_or-take, length-drop, length-take, map-append}
use Rattle.std.proofs.lemmas.List.Concat.{flat_map-cons, get_or-flat_map}
use Rattle.std.proofs.lemmas.List.Elements.{All-get_or}
use Rattle.std.proofs.lemmas.List.Folds.{length-flat_map-take}
use Rattle.std.proofs.lemmas.List.FromFn.{get_or-map-range_with_len, length-map-range_with_len}
use Rattle.std.proofs.lemmas.Simd.{map-map}
use Rattle.k_split.specs.pm_model.declared.Cell.{Cell}
use Rattle.k_split.specs.pm_model.Words.{byte_of, Words}
use Rattle.data_route.specs.extent_model.declared.extent_words.Extent.{Extent}
use Rattle.data_route.specs.extent_model.Extents.{disk_at}
use Rattle.k_split.specs.image_model.Content.{byte_in}
use Rattle.k_split.specs.image_model.Volume.{extents, Volume}
use Rattle.file_overlay.specs.declared.runs.Run.{Run}
use Rattle.data_route.specs.declared.reads.Piece.{Piece}
use Rattle.data_route.specs.declared.reads.Source.{Source}
use Rattle.data_route.specs.Reads.{FitsBlock, IsReadPlan, place_of, places_in, read_len, source_by, source_of}
use Rattle.file_reads.specs.Laws.{MapAlone}
use Rattle.file_reads.specs.Reads.{block_in, block_of, bytes_in, bytes_of_piece, FileCanBeRead, SourceCanBeRead}

-- the byte at a place
abbrev byte_at : Volume → Words → Source × ℕ → ℕ
byte_at v f place = byte_in f (block_of v place.0) place.1

pieces_at : (v : Volume) (f : Words) (pieces : List Piece) → flat_map (bytes_of_piece v f) pieces ≡ map (byte_at v f) (flat_map places_in pieces)
pieces_at v f [] = refl
pieces_at v f (piece ∷ pieces) =
    flat_map-cons (bytes_of_piece v f) piece pieces
    ∙ ap (λ xs. bytes_of_piece v f piece ++ xs) (pieces_at v f pieces)
    ∙ ap (λ xs. xs ++ map (byte_at v f) (flat_map places_in pieces)) (sym (map-map (byte_at v f) (λ (i : ℕ). (piece.source, i)) (range_with_len piece.at piece.len)))
    ∙ sym (map-append (byte_at v f) (places_in piece) (flat_map places_in pieces))
    ∙ ap (map (byte_at v f)) (sym (flat_map-cons places_in piece pieces))

-- a byte stands at its place in the block
in_block : (f : Words) (o : Option ℕ) (i : ℕ) → byte_in f o (i % 4096) ≡ byte_in f o i
in_block f None i = refl
in_block f (Some b) i = let same : i % 4096 % 4096 ≡ i % 4096 = omega arith in ap (λ n. byte_of f (4096 * b + n)) same

same_map : (f g : ℕ → ℕ) (xs : List ℕ) → ((i : ℕ) → f i ≡ g i) → map f xs ≡ map g xs
same_map f g xs same = ap (λ h. map h xs) (λ j i. same i j)

-- the pieces of a plan have the bytes of the read
pub plan_bytes : (v : Volume) (f : Words) (runs : List Run) (ino size offset len : ℕ) (pieces : List Piece) → IsReadPlan runs (extents v ino) size offset len pieces
    → flat_map (bytes_of_piece v f) pieces ≡ bytes_in v f runs ino offset (read_len size offset len)
plan_bytes v f runs ino size offset len pieces plan =
    pieces_at v f pieces ∙ ap (map (byte_at v f)) plan.bytes
    ∙ map-map (byte_at v f) (place_of runs (extents v ino)) (range_with_len offset (read_len size offset len))
    ∙ same_map (λ i. byte_at v f (place_of runs (extents v ino) i)) (λ i. byte_in f (block_in v runs ino (i / 4096)) i) (range_with_len offset (read_len size offset len))
    (λ i. in_block f (block_in v runs ino (i / 4096)) i)

-- so many bytes, and those of the next piece
pub pieces_more : (v : Volume) (f : Words) (pieces : List Piece) (k : ℕ) (piece : Piece) (before after : List ℕ) → take (k + 1) pieces ≡ take k pieces ++ piece ∷ []
    → before ≡ flat_map (bytes_of_piece v f) (take k pieces) → after ≡ before ++ bytes_of_piece v f piece → after ≡ flat_map (bytes_of_piece v f) (take (k + 1) pieces)
pieces_more v f pieces k piece before after more is next =
    next ∙ ap (λ xs. xs ++ bytes_of_piece v f piece) is
    ∙ ap (λ xs. flat_map (bytes_of_piece v f) (take k pieces) ++ xs) (sym (append-nil (bytes_of_piece v f piece)))
    ∙ sym (flat_map-append (bytes_of_piece v f) (take k pieces) (piece ∷ []))
    ∙ ap (flat_map (bytes_of_piece v f)) (sym more)

-- each piece lies in a block of the file
pub piece_source : (runs : List Run) (es : List Extent) (size offset len : ℕ) (pieces : List Piece) (k : ℕ) (d : Piece) → IsReadPlan runs es size offset len pieces → k < length pieces
    → (block : ℕ) × ((get_or pieces k d).source ≡ source_of runs es block)
piece_source runs es size offset len pieces k d plan below =
    let piece : Piece = get_or pieces k d in
    let from : ℕ = length (flat_map places_in (take k pieces)) in
    let fits : FitsBlock piece = All-get_or FitsBlock pieces k d below plan.blocks in
    let some : length (places_in piece) ≡ piece.len = length-map-range_with_len (λ (i : ℕ). (piece.source, i)) piece.at piece.len in
    let filled : 0 < length (places_in piece) = omega (arith, some, fits.filled) in
    let count : length (flat_map places_in pieces) ≡ read_len size offset len =
    ap length plan.bytes ∙ length-map-range_with_len (place_of runs es) offset (read_len size offset len)
    in
    let within : from < read_len size offset len = omega (arith, length-flat_map-take places_in pieces k d below, filled, count) in
    let first : get_or (places_in piece) 0 (piece.source, 0) ≡ (piece.source, piece.at) =
    get_or-map-range_with_len (λ (i : ℕ). (piece.source, i)) piece.at piece.len 0 piece.at (piece.source, 0) fits.filled (omega arith)
    in
    let stands : (piece.source, piece.at) ≡ place_of runs es (offset + from) =
    sym first ∙ sym (get_or-flat_map places_in pieces k 0 d (piece.source, 0) below filled)
    ∙ (λ i. get_or (plan.bytes i) (from + 0) (piece.source, 0))
    ∙ get_or-map-range_with_len (place_of runs es) offset (read_len size offset len) (from + 0) (offset + from) (piece.source, 0) (omega (arith, within)) (omega arith)
    in ((offset + from) / 4096, ap (λ p. p.0) stands)

-- so it can be read
pub piece_readable : (v : Volume) (d : List Cell) (runs : List Run) (ino size offset len : ℕ) (pieces : List Piece) (k : ℕ) (e : Piece) → IsReadPlan runs (extents v ino) size offset len pieces → k < length pieces
    → FileCanBeRead v d runs ino → SourceCanBeRead v d (get_or pieces k e).source
piece_readable v d runs ino size offset len pieces k e plan below can =
    let at = piece_source runs (extents v ino) size offset len pieces k e plan below in
    subst (SourceCanBeRead v d) (sym at.1) (can at.0)

pub map_alone : MapAlone
map_alone v ino block = by (disk_at (extents v ino) block) where
  by : (o : Option ℕ) → block_of v (source_by None o) ≡ o
  by None = refl
  by (Some b) = refl

-- the bytes of a piece are a part of its block
pub piece_bytes : (f : Words) (o : Option ℕ) (block : List ℕ) (from len : ℕ) → length block ≡ 4096 → from + len ≤ 4096 → ((i : ℕ) → i < 4096 → slice_index block i ≡ byte_in f o i)
    → take (from + len - from) (drop from block) ≡ map (λ i. byte_in f o i) (range_with_len from len)
piece_bytes f o block from len size fits each =
    same_number_lists (take (from + len - from) (drop from block)) (map byte (range_with_len from len)) same_length (λ i within.
    let below : i < len = omega (arith, within, same_length, length-map-range_with_len byte from len) in
    get_or-take (from + len - from) (drop from block) i 0 (omega (arith, below)) ∙ get_or-drop from block i 0
    ∙ each (from + i) (omega (arith, below, fits)) ∙ sym (get_or-map-range_with_len byte from len i (from + i) 0 below refl)) where
      byte : ℕ → ℕ
      byte i = byte_in f o i

      same_length : length (take (from + len - from) (drop from block)) ≡ length (map byte (range_with_len from len))
      same_length = omega (arith, length-take (from + len - from) (drop from block), length-drop from block, length-map-range_with_len byte from len, size, fits)
