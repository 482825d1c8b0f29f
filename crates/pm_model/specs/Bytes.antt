-- Laws of words as bytes: how the words of a list of bytes follow from its bytes, and the bytes of a line from its words.
use Rattle.std.specs.Prelude.{◌≡◌, ◌+◌, ◌*◌, ◌/◌, ◌%◌, ◌^◌, ◌<◌, ◌≤◌, ℕ, suc, zero, List, [], ◌∷◌, ◌++◌, length, take, drop}
use Rattle.std.specs.Int.{from_le_bytes, to_le_bytes, w64}
use Rattle.std.proofs.Common.{get_or, refl, sym, ◌∙◌, ap, arith, lit<, add-zero, add-one, ⊎_elim}
use Rattle.std.proofs.lemmas.List.{get_or-take, get_or-drop, length-append, length-take, length-take-le, length-drop, take_all, get_or_past, drop_all, drop_at, get_or_append_left}
use Rattle.std.proofs.Math.Seq.{take-add}
use Rattle.std.proofs.lemmas.Bool.{cases_lt}
use Rattle.std.proofs.lemmas.Nat.{from_le_bytes-to_le_bytes_8, le_bytes_8}
use Rattle.pm_model.specs.Words.{Words, word_at, line_bytes}

byte_in_word : (bytes : List ℕ) (i k : ℕ) → k < 8 → get_or (take 8 (drop (8 * i) bytes)) k 0 ≡ get_or bytes (8 * i + k) 0
byte_in_word bytes i k h = get_or-take 8 (drop (8 * i) bytes) k 0 h ∙ get_or-drop (8 * i) bytes k 0

-- a word is the number that its eight bytes make
pub word_at-bytes : (bytes : List ℕ) (i : ℕ) → word_at bytes i ≡ from_le_bytes w64 (get_or bytes (8 * i) 0 ∷ get_or bytes (8 * i + 1) 0 ∷ get_or bytes (8 * i + 2) 0 ∷ get_or bytes (8 * i + 3) 0 ∷ get_or bytes (8 * i + 4) 0 ∷ get_or bytes (8 * i + 5) 0 ∷ get_or bytes (8 * i + 6) 0 ∷ get_or bytes (8 * i + 7) 0 ∷ [])
unfolding word_at
word_at-bytes bytes i =
    let first : get_or (take 8 (drop (8 * i) bytes)) 0 0 ≡ get_or bytes (8 * i) 0 = byte_in_word bytes i 0 (lit< tt) ∙ ap (λ n. get_or bytes n 0) (add-zero (8 * i)) in
    omega (arith, first, byte_in_word bytes i 1 (lit< tt), byte_in_word bytes i 2 (lit< tt), byte_in_word bytes i 3 (lit< tt), byte_in_word bytes i 4 (lit< tt), byte_in_word bytes i 5 (lit< tt), byte_in_word bytes i 6 (lit< tt), byte_in_word bytes i 7 (lit< tt))

-- two words are the same where their bytes are
pub word_at-same : (xs ys : List ℕ) (i j : ℕ) → ((k : ℕ) → k < 8 → get_or xs (8 * i + k) 0 ≡ get_or ys (8 * j + k) 0) → word_at xs i ≡ word_at ys j
unfolding word_at
word_at-same xs ys i j same =
    let at : (k : ℕ) → k < 8 → get_or (take 8 (drop (8 * i) xs)) k 0 ≡ get_or (take 8 (drop (8 * j) ys)) k 0 =
    λ k h. byte_in_word xs i k h ∙ same k h ∙ sym (byte_in_word ys j k h) in
    omega (arith, at 0 (lit< tt), at 1 (lit< tt), at 2 (lit< tt), at 3 (lit< tt), at 4 (lit< tt), at 5 (lit< tt), at 6 (lit< tt), at 7 (lit< tt))

-- a word past the end of the bytes is 0
pub word_at-past : (bytes : List ℕ) (i : ℕ) → length bytes ≤ 8 * i → word_at bytes i ≡ 0
unfolding word_at
word_at-past bytes i past = ap (λ xs. from_le_bytes w64 (take 8 xs)) (drop_all (8 * i) bytes past)

-- the words of bytes before those that are put behind them
pub word_at-append_left : (xs ys : List ℕ) (i : ℕ) → 8 * i + 8 ≤ length xs → word_at (xs ++ ys) i ≡ word_at xs i
word_at-append_left xs ys i within =
    word_at-same (xs ++ ys) xs i i (λ k h. get_or_append_left xs ys 0 (8 * i + k) (omega arith))

-- the word that is put behind i words
pub word_at-append_word : (xs : List ℕ) (i v : ℕ) → length xs ≡ 8 * i → v < 2 ^ 64 → word_at (xs ++ to_le_bytes w64 v) i ≡ v
unfolding word_at
word_at-append_word xs i v size small =
    ap (λ zs. from_le_bytes w64 (take 8 zs)) (drop_at xs (to_le_bytes w64 v) (8 * i) size) ∙ from_le_bytes-to_le_bytes_8 v small

-- a line has 64 bytes
pub length-line_bytes : (f : Words) (line : ℕ) → length (line_bytes f line) ≡ 64
unfolding line_bytes
length-line_bytes f line = refl

-- the bytes of a line depend on its words alone
pub line_bytes-same : (f g : Words) (line : ℕ) → ((i : ℕ) → i / 8 ≡ line → f i ≡ g i) → line_bytes f line ≡ line_bytes g line
unfolding line_bytes
line_bytes-same f g line same =
    let at : (k : ℕ) → k < 8 → f (8 * line + k) ≡ g (8 * line + k) = λ k h. same (8 * line + k) (omega arith) in
    rw (same (8 * line) (omega arith), at 1 (lit< tt), at 2 (lit< tt), at 3 (lit< tt), at 4 (lit< tt), at 5 (lit< tt), at 6 (lit< tt), at 7 (lit< tt))

-- the bytes of the first n words of a line
pub line_front : Words → ℕ → ℕ → List ℕ
line_front f line zero = []
line_front f line (suc n) = line_front f line n ++ to_le_bytes w64 (f (8 * line + n))

pub line_front-none : (f : Words) (line : ℕ) → line_front f line 0 ≡ []
unfolding line_front
line_front-none f line = refl

pub line_front-more : (f : Words) (line n : ℕ) → line_front f line (n + 1) ≡ line_front f line n ++ to_le_bytes w64 (f (8 * line + n))
unfolding line_front
line_front-more f line n = rw add-one refl

-- eight words are the line
pub line_front-all : (f : Words) (line : ℕ) → line_front f line 8 ≡ line_bytes f line
unfolding line_front line_bytes
line_front-all f line = rw (add-zero (8 * line)) refl

length-line_front : (f : Words) (line n : ℕ) → length (line_front f line n) ≡ 8 * n
unfolding line_front
length-line_front f line zero = refl
length-line_front f line (suc n) =
    length-append (line_front f line n) (to_le_bytes w64 (f (8 * line + n))) ∙ omega (arith, length-line_front f line n)

chunk_small : (bytes : List ℕ) (n : ℕ) → ((k : ℕ) → get_or bytes k 0 < 256) → (k : ℕ) → get_or (take 8 (drop (8 * n) bytes)) k 0 < 256
chunk_small bytes n small k = ⊎_elim (λ (h : k < 8). rw (byte_in_word bytes n k h) (small (8 * n + k)))
    (λ (h : 8 ≤ k). rw (get_or_past (take 8 (drop (8 * n) bytes)) k 0 (omega (arith, length-take 8 (drop (8 * n) bytes)))) (lit< tt)) (cases_lt k 8)

line_front-words : (f : Words) (line : ℕ) (bytes : List ℕ) (n : ℕ) → 8 * n ≤ length bytes → ((k : ℕ) → get_or bytes k 0 < 256)
    → ((k : ℕ) → k < n → f (8 * line + k) ≡ word_at bytes k) → line_front f line n ≡ take (8 * n) bytes
unfolding line_front word_at
line_front-words f line bytes zero size small words = refl
line_front-words f line bytes (suc n) size small words =
    let chunk : List ℕ = take 8 (drop (8 * n) bytes) in
    let eight : length chunk ≡ 8 = length-take-le 8 (drop (8 * n) bytes) (omega (arith, length-drop (8 * n) bytes)) in
    let same : to_le_bytes w64 (f (8 * line + n)) ≡ chunk = le_bytes_8 chunk (f (8 * line + n)) eight (chunk_small bytes n small) (words n (omega arith)) in
    let front : line_front f line n ≡ take (8 * n) bytes = line_front-words f line bytes n (omega arith) small (λ k h. words k (omega arith)) in
    let count : 8 * n + 8 ≡ 8 * suc n = omega arith in
    ap (λ xs. xs ++ to_le_bytes w64 (f (8 * line + n))) front ∙ ap (λ ys. take (8 * n) bytes ++ ys) same
    ∙ sym (take-add (8 * n) 8 bytes) ∙ ap (λ m. take m bytes) count

-- words that are those of 64 bytes have these as their line
pub line_bytes-words : (f : Words) (line : ℕ) (bytes : List ℕ) → length bytes ≡ 64 → ((k : ℕ) → get_or bytes k 0 < 256)
    → ((i : ℕ) → i / 8 ≡ line → f i ≡ word_at bytes (i % 8)) → line_bytes f line ≡ bytes
line_bytes-words f line bytes size small words =
    let front : line_front f line 8 ≡ take 64 bytes = line_front-words f line bytes 8 (omega arith) small
    (λ k h. let at : (8 * line + k) % 8 ≡ k = omega arith in words (8 * line + k) (omega arith) ∙ ap (word_at bytes) at) in
    sym (line_front-all f line) ∙ front ∙ take_all 64 bytes (omega arith)

word_at-line_front : (f : Words) (line n k : ℕ) → f (8 * line + k) < 2 ^ 64 → k < n → word_at (line_front f line n) k ≡ f (8 * line + k)
unfolding line_front
word_at-line_front f line zero k small below = absurd (omega arith)
word_at-line_front f line (suc n) k small below = ⊎_elim
    (λ (h : k < n). word_at-append_left (line_front f line n) (to_le_bytes w64 (f (8 * line + n))) k (omega (arith, length-line_front f line n))
    ∙ word_at-line_front f line n k small h)
    (λ (h : n ≤ k). let e : k ≡ n = omega arith in rw e (word_at-append_word (line_front f line n) n (f (8 * line + n)) (length-line_front f line n) (rw e at small)))
    (cases_lt k n)

-- the words of a line's bytes
pub word_at-line_bytes : (f : Words) (line i : ℕ) → f i < 2 ^ 64 → i / 8 ≡ line → word_at (line_bytes f line) (i % 8) ≡ f i
word_at-line_bytes f line i small at =
    let e : 8 * line + i % 8 ≡ i = omega arith in
    ap (λ bytes. word_at bytes (i % 8)) (sym (line_front-all f line))
    ∙ word_at-line_front f line 8 (i % 8) (rw e small) (omega arith) ∙ ap f e
