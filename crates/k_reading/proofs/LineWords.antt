-- The words of bytes in which one line is set, and of zeros.
use Rattle.std.proofs.Common.{◌≡◌, ◌≢◌, ℕ, ◌+◌, ◌-◌, ◌*◌, ◌/◌, ◌%◌, ◌<◌, ◌≤◌, List, [], ◌++◌, length, get_or, take, drop, replicate, sym, ◌∙◌, ap, arith, inl, inr}
use Rattle.std.proofs.Math.Path.{fun_ext}
use Rattle.std.proofs.lemmas.Bool.{cases_eq, cases_lt, cond-true, cond-false, eq-eqb, ne_eqb}
use Rattle.std.proofs.lemmas.List.{get_or-append_right, get_or_append_left, get_or-take, get_or-drop, length-take-le, get_or_past, get_or-replicate, length-replicate}
use Rattle.std.specs.Prelude.{◌==◌}
use Rattle.k_inodes.specs.image_layout.pm_model.Bytes.{word_at-same, word_at-past}
use Rattle.k_inodes.specs.image_layout.pm_model.Words.{Words, word_at, with_line}
use borrow.Rule.Slice.PartMut.{put_mid}

-- a byte of the part that was written, before it and behind it
byte_in : (a k : ℕ) (bs ys : List ℕ) (j i : ℕ) → a + k ≤ length bs → length ys ≡ k → a + i ≡ j → i < k
    → get_or (put_mid a k bs ys) j 0 ≡ get_or ys i 0
byte_in a k bs ys j i fits count at within =
    get_or-append_right (take a bs) (ys ++ drop k (drop a bs)) a j 0 (length-take-le a bs (omega arith)) (omega arith)
    ∙ get_or_append_left ys (drop k (drop a bs)) 0 (j - a) (omega arith)
    ∙ ap (λ n. get_or ys n 0) {x = j - a} {y = i} (omega arith)

byte_before : (a k : ℕ) (bs ys : List ℕ) (j : ℕ) → a + k ≤ length bs → j < a
    → get_or (put_mid a k bs ys) j 0 ≡ get_or bs j 0
byte_before a k bs ys j fits before =
    get_or_append_left (take a bs) (ys ++ drop k (drop a bs)) 0 j (omega (arith, length-take-le a bs (omega arith)))
    ∙ get_or-take a bs j 0 before

byte_behind : (a k : ℕ) (bs ys : List ℕ) (j : ℕ) → a + k ≤ length bs → length ys ≡ k → a + k ≤ j
    → get_or (put_mid a k bs ys) j 0 ≡ get_or bs j 0
byte_behind a k bs ys j fits count behind =
    get_or-append_right (take a bs) (ys ++ drop k (drop a bs)) a j 0 (length-take-le a bs (omega arith)) (omega arith)
    ∙ get_or-append_right ys (drop k (drop a bs)) k (j - a) 0 count (omega arith)
    ∙ get_or-drop k (drop a bs) (j - a - k) 0
    ∙ get_or-drop a bs (k + (j - a - k)) 0
    ∙ ap (λ n. get_or bs n 0) {x = a + (k + (j - a - k))} {y = j} (omega arith)

-- bytes in which 64 were written at a line have these as the line's words
pub words-put : (line a k : ℕ) (bs ys : List ℕ) → a ≡ 64 * line → k ≡ 64 → a + 64 ≤ length bs → length ys ≡ 64
    → word_at (put_mid a k bs ys) ≡ with_line line ys (word_at bs)
words-put line a k bs ys at size fits count = fun_ext (λ i. elim (cases_eq (i / 8) line) [
  | inl here ↦
      word_at-same (put_mid a k bs ys) ys i (i % 8)
      (λ j less. byte_in a k bs ys (8 * i + j) (8 * (i % 8) + j) (omega arith) (omega arith) (omega arith) (omega arith))
      ∙ sym (cond-true (i / 8 == line) (word_at ys (i % 8)) (word_at bs i) (eq-eqb (i / 8) line here))
  | inr elsewhere ↦
      word_at-same (put_mid a k bs ys) bs i i (λ j less. other i j elsewhere less)
      ∙ sym (cond-false (i / 8 == line) (word_at ys (i % 8)) (word_at bs i) (ne_eqb (i / 8) line elsewhere))
])
  where
    other : (i j : ℕ) → i / 8 ≢ line → j < 8 → get_or (put_mid a k bs ys) (8 * i + j) 0 ≡ get_or bs (8 * i + j) 0
    other i j elsewhere less = elim (cases_lt (8 * i + j) a) [
      | inl before ↦ byte_before a k bs ys (8 * i + j) (omega arith) before
      | inr behind ↦ elim (cases_lt (8 * i + j) (a + 64)) [
        | inl inside ↦ absurd (elsewhere (omega arith))
        | inr past ↦ byte_behind a k bs ys (8 * i + j) (omega arith) (omega arith) (omega arith)
      ]
    ]

abbrev pub zeros_of : ℕ → List ℕ
zeros_of n = replicate n 0

zero-replicate : (n k : ℕ) → ◌≡◌ {A = ℕ} (get_or (zeros_of n) k 0) 0
zero-replicate n k = elim (cases_lt k n) [
  | inl below ↦ get_or-replicate n k 0 0 below
  | inr past ↦ get_or_past (zeros_of n) k 0 (rw length-replicate past)
]

-- the words of zeros
pub words-zeros : (n i : ℕ) → word_at (zeros_of n) i ≡ 0
words-zeros n i =
    word_at-same (zeros_of n) [] i 0 (λ k below. zero-replicate n (8 * i + k)) ∙ word_at-past [] 0 (omega arith)

-- a line that is set behind others
pub set_more : (line place : ℕ) (given bytes : List ℕ) (new old f : Words) → new ≡ with_line line given old
    → line ≡ place → given ≡ bytes → old ≡ f → new ≡ with_line place bytes f
set_more line place given bytes new old f is at same before =
    is ∙ ap (λ l. with_line l given old) at ∙ ap (λ xs. with_line place xs old) same ∙ ap (λ g. with_line place bytes g) before
