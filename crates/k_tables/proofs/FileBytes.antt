-- The bytes of a line of words, and of a file line by line.
use Rattle.std.proofs.Common.{◌≡◌, ℕ, zero, suc, ◌+◌, ◌-◌, ◌*◌, ◌/◌, ◌%◌, ◌^◌, ◌<◌, ◌≤◌, List, [], ◌∷◌, ◌++◌, length, get_or, take, map, append_assoc, Option, Some, None, refl, sym, ◌∙◌, ap, arith, add-one, ⊎_elim}
use Rattle.std.specs.Int.{to_le_bytes, w64}
use Rattle.std.specs.List.{range_with_len}
use Rattle.std.proofs.lemmas.Bool.{cases_lt}
use Rattle.std.proofs.lemmas.List.{append-nil, get_or_default, get_or_append_left, get_or-append_right, length-append, same_lists}
use Rattle.std.proofs.lemmas.List.FromFn.{get_or-map-range_with_len, map-range_with_len_more, take-map-range_with_len}
use Rattle.pm_lines.specs.pm_model.Bytes.{length-line_bytes, line_front, line_front-all, line_front-more, line_front-none}
use Rattle.pm_lines.specs.pm_model.Words.{Words, byte_of, line_bytes}
use Rattle.extent_map.specs.extent_model.declared.extent_words.Extent.{Extent}
use Rattle.extent_map.specs.extent_model.Extents.{disk_at}
use Rattle.name_laws.specs.image_model.Content.{byte_in}
use Rattle.k_tables.specs.Files.{first_bytes, line_in}

-- ---- a line of words

-- byte j of a word
word_byte : (v j : ℕ) → j < 8 → get_or (to_le_bytes w64 v) j 0 ≡ v / 256 ^ j % 256
word_byte v zero below = let one : v ≡ v / 1 = omega arith in ap (λ n. n % 256) one
word_byte v (suc zero) below = refl
word_byte v (suc (suc zero)) below = refl
word_byte v (suc (suc (suc zero))) below = refl
word_byte v (suc (suc (suc (suc zero)))) below = refl
word_byte v (suc (suc (suc (suc (suc zero))))) below = refl
word_byte v (suc (suc (suc (suc (suc (suc zero)))))) below = refl
word_byte v (suc (suc (suc (suc (suc (suc (suc zero))))))) below = refl
word_byte v (suc (suc (suc (suc (suc (suc (suc (suc j)))))))) below = absurd (omega arith)

length-front : (f : Words) (line n : ℕ) → length (line_front f line n) ≡ 8 * n
length-front f line zero = ap length (line_front-none f line)
length-front f line (suc n) =
    ap (λ k. length (line_front f line k)) (sym (add-one n)) ∙ ap length (line_front-more f line n)
    ∙ length-append (line_front f line n) (to_le_bytes w64 (f (8 * line + n))) ∙ omega (arith, length-front f line n)

front_byte : (f : Words) (line n k : ℕ) → k < 8 * n → get_or (line_front f line n) k 0 ≡ f (8 * line + k / 8) / 256 ^ (k % 8) % 256
front_byte f line zero k below = absurd (omega arith)
front_byte f line (suc n) k below =
    ap (λ m. get_or (line_front f line m) k 0) (sym (add-one n)) ∙ ap (λ xs. get_or xs k 0) (line_front-more f line n)
    ∙ ⊎_elim
    (λ (h : k < 8 * n).
    get_or_append_left (line_front f line n) (to_le_bytes w64 (f (8 * line + n))) 0 k (omega (arith, length-front f line n))
    ∙ front_byte f line n k h)
    (λ (h : 8 * n ≤ k).
    let word : k / 8 ≡ n = omega arith in
    let past : k - 8 * n ≡ k % 8 = omega arith in
    get_or-append_right (line_front f line n) (to_le_bytes w64 (f (8 * line + n))) (8 * n) k 0 (length-front f line n) h
    ∙ ap (λ j. get_or (to_le_bytes w64 (f (8 * line + n))) j 0) past
    ∙ word_byte (f (8 * line + n)) (k % 8) (omega arith)
    ∙ ap (λ m. f (8 * line + m) / 256 ^ (k % 8) % 256) (sym word))
    (cases_lt k (8 * n))

-- byte k of a line
pub line_byte : (f : Words) (line k : ℕ) → k < 64 → get_or (line_bytes f line) k 0 ≡ byte_of f (64 * line + k)
line_byte f line k below =
    let word : 8 * line + k / 8 ≡ (64 * line + k) / 8 = omega arith in
    let place : k % 8 ≡ (64 * line + k) % 8 = omega arith in
    ap (λ xs. get_or xs k 0) (sym (line_front-all f line)) ∙ front_byte f line 8 k (omega arith)
    ∙ (λ i. f (word i) / 256 ^ place i % 256)

-- so a line of a block is one of its 64
pub line_in-block : (f : Words) (b line at : ℕ) (bytes : List ℕ) → line < 64 → at ≡ 64 * b + line → bytes ≡ line_bytes f at
    → bytes ≡ line_in f (Some b) line
line_in-block f b line place bytes below place_is is =
    is ∙ ap (line_bytes f) place_is
    ∙ same_lists (line_bytes f (64 * b + line)) (line_in f (Some b) line) (length-line_bytes f (64 * b + line))
    (λ k d within.
    let small : k < 64 = omega (arith, length-line_bytes f (64 * b + line)) in
    let at : 64 * (64 * b + line) + k ≡ 4096 * b + (64 * line + k) % 4096 = omega arith in
    sym (get_or_default (line_bytes f (64 * b + line)) k 0 d within) ∙ line_byte f (64 * b + line) k small
    ∙ ap (byte_of f) at
    ∙ sym (get_or-map-range_with_len (λ i. byte_in f (Some b) (64 * line + i)) 0 64 k k d small (omega arith)))

-- ---- a file, line by line

-- a byte of a file is one of a line of a block
byte_at : (es : List Extent) (f : Words) (line k : ℕ) → k < 64
    → byte_in f (disk_at es (line / 64)) (64 * (line % 64) + k) ≡ byte_in f (disk_at es ((64 * line + k) / 4096)) (64 * line + k)
byte_at es f line k below =
    let block : line / 64 ≡ (64 * line + k) / 4096 = omega arith in
    let place : (64 * (line % 64) + k) % 4096 ≡ (64 * line + k) % 4096 = omega arith in
    ap (λ n. byte_in f (disk_at es n) (64 * (line % 64) + k)) block
    ∙ by (disk_at es ((64 * line + k) / 4096)) place
  where
    by : (o : Option ℕ) → (64 * (line % 64) + k) % 4096 ≡ (64 * line + k) % 4096 → byte_in f o (64 * (line % 64) + k) ≡ byte_in f o (64 * line + k)
    by None same = refl
    by (Some b) same = ap (λ n. byte_of f (4096 * b + n)) same

first_and : (es : List Extent) (f : Words) (line count : ℕ) → count ≤ 64
    → first_bytes es f (64 * line) ++ map (λ k. byte_in f (disk_at es (line / 64)) (64 * (line % 64) + k)) (range_with_len 0 count)
    ≡ first_bytes es f (64 * line + count)
first_and es f line zero few =
    let none : 64 * line ≡ 64 * line + 0 = omega arith in
    append-nil (first_bytes es f (64 * line)) ∙ ap (first_bytes es f) none
first_and es f line (suc count) few =
    let one : (k : ℕ) → ℕ = λ k. byte_in f (disk_at es (line / 64)) (64 * (line % 64) + k) in
    let whole : (i : ℕ) → ℕ = λ i. byte_in f (disk_at es (i / 4096)) i in
    let next : 64 * line + count + 1 ≡ 64 * line + suc count = omega arith in
    ap (λ n. first_bytes es f (64 * line) ++ map one (range_with_len 0 n)) (sym (add-one count))
    ∙ ap (λ xs. first_bytes es f (64 * line) ++ xs) (map-range_with_len_more one 0 count count (omega arith))
    ∙ sym (append_assoc (first_bytes es f (64 * line)) (map one (range_with_len 0 count)) (one count ∷ []))
    ∙ ap (λ xs. xs ++ one count ∷ []) (first_and es f line count (omega arith))
    ∙ ap (λ b. first_bytes es f (64 * line + count) ++ b ∷ []) (byte_at es f line count (omega arith))
    ∙ sym (map-range_with_len_more whole 0 (64 * line + count) (64 * line + count) (omega arith))
    ∙ ap (first_bytes es f) next

-- the first bytes of a file, and some of its next line
pub first_bytes-line : (es : List Extent) (f : Words) (line count : ℕ) → count ≤ 64
    → first_bytes es f (64 * line) ++ take count (line_in f (disk_at es (line / 64)) (line % 64)) ≡ first_bytes es f (64 * line + count)
first_bytes-line es f line count few =
    ap (λ xs. first_bytes es f (64 * line) ++ xs)
    (take-map-range_with_len (λ k. byte_in f (disk_at es (line / 64)) (64 * (line % 64) + k)) 0 64 count few)
    ∙ first_and es f line count few
