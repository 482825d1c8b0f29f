-- The images that are made of cells.
use Rattle.std.proofs.Common.{◌≡◌, ◌≢◌, ◌+◌, ◌-◌, ◌*◌, ◌%◌, get_or, ap, ◌<◌, ◌≤◌, ◌^◌, ◌++◌, [], ◌∷◌, zero, suc, lit≤, ℕ, Bool, true, false, cond, List, length, take, refl, sym, ◌∙◌, arith, ⊎_elim, add-one, add-zero}
use Rattle.std.specs.Int.{from_le_bytes, to_le_bytes, w64}
use Rattle.std.specs.Prelude.{◌==◌}
use Rattle.std.specs.List.{flat_map}
use Rattle.std.proofs.lemmas.Bool.{cases_lt, eq-eqb, ne_eqb, eqb-true, eqb-false}
use Rattle.std.proofs.lemmas.Nat.{from_le_bytes-to_le_bytes_8}
use Rattle.std.proofs.lemmas.List.Sums.{sum_by_more}
use Rattle.std.proofs.lemmas.List.{get_or-append_right, places, drop_at, take_at, length-take-le}
use borrow.Rule.Slice.PartMut.{put_mid, post_of}
use Rattle.rand_xoshiro.specs.SplitMix64.{mix_u64}
use Rattle.pm_model.specs.declared.Cell.{Cell}
use Rattle.pm_model.specs.declared.Cell.TheVariants.{Single, Two, Marked, Lent}
use Rattle.pm_model.specs.Cells.{cell, is_single, has_two, newest, oldest}
use Rattle.pm_model.specs.Bytes.{word_at-same, word_at-append_left, word_at-append_word}
use Rattle.pm_model.specs.Words.{Words, word_at}
use Rattle.pm_lines.specs.declared.choices.Choice.TheVariants.{Oldest, Newest, Even, Odd}
use Rattle.pm_lines.specs.Pairs.{AreSingle}
use Rattle.pm_lines.specs.Choices.{chosen, by_parity, twos_before, draws_of, state_after, is_odd_draw}

-- a word that is written among bytes, and the others
pub word_at-put_same : (bytes eight : List ℕ) (n k v : ℕ) → eight ≡ to_le_bytes w64 v → 8 * n + 8 ≤ length bytes → v < 2 ^ 64 → word_at (put_mid (8 * n) k bytes eight) n ≡ v
unfolding word_at
word_at-put_same bytes eight n k v written within small =
    let post : List ℕ = post_of (8 * n) k bytes in
    ap (λ (xs : List ℕ). from_le_bytes w64 (take 8 xs)) (drop_at (take (8 * n) bytes) (eight ++ post) (8 * n) (length-take-le (8 * n) bytes (omega arith)))
    ∙ rw written (ap (λ (xs : List ℕ). from_le_bytes w64 xs) (take_at (to_le_bytes w64 v) post 8 refl))
    ∙ from_le_bytes-to_le_bytes_8 v small

pub word_at-put_other : (bytes eight : List ℕ) (n k i : ℕ) → length eight ≡ 8 → k ≡ 8 → 8 * n + 8 ≤ length bytes → i ≢ n → word_at (put_mid (8 * n) k bytes eight) i ≡ word_at bytes i
word_at-put_other bytes eight n k i count size within other =
    word_at-same (put_mid (8 * n) k bytes eight) bytes i i (λ j h. ⊎_elim
    (λ (before : i < n). grind (arith, places))
    (λ (after : n ≤ i). grind (arith, places))
    (cases_lt i n))

-- the words of bytes that are put behind others
word_at-append_right : (bytes more : List ℕ) (n k : ℕ) → length bytes ≡ 8 * n → word_at (bytes ++ more) (n + k) ≡ word_at more k
word_at-append_right bytes more n k size =
    word_at-same (bytes ++ more) more (n + k) k (λ j h.
    let at : 8 * (n + k) + j - 8 * n ≡ 8 * k + j = omega arith in
    get_or-append_right bytes more (8 * n) (8 * (n + k) + j) 0 size (omega arith) ∙ ap (λ m. get_or more m 0) at)

-- the words of bytes that stand word by word
pub word_at-flat : (rows : List (List ℕ)) (f : Words) → ((k : ℕ) → k < length rows → get_or rows k [] ≡ to_le_bytes w64 (f k)) → ((k : ℕ) → f k < 2 ^ 64)
    → (k : ℕ) → k < length rows → word_at (flat_map (λ x. x) rows) k ≡ f k
word_at-flat [] f each small k below = absurd (omega arith)
word_at-flat (r ∷ rs) f each small zero below =
    let first : r ≡ to_le_bytes w64 (f 0) = each 0 (omega arith) in
    word_at-append_left r (flat_map (λ x. x) rs) 0 (rw first (lit≤ tt)) ∙ rw first (word_at-append_word [] 0 (f 0) refl (small 0))
word_at-flat (r ∷ rs) f each small (suc k) below =
    let first : r ≡ to_le_bytes w64 (f 0) = each 0 (omega arith) in
    let size : length r ≡ 8 * 1 = rw first refl in
    let at : 1 + k ≡ suc k = omega arith in
    rw at at (word_at-append_right r (flat_map (λ x. x) rs) 1 k size)
    ∙ word_at-flat rs (λ j. f (suc j)) (λ j h. each (suc j) (omega arith)) (λ j. small (suc j)) k (omega arith)

-- c words more
pub words-more : (f : Words) (bytes more : List ℕ) (n c : ℕ) → length bytes ≡ 8 * n → ((k : ℕ) → k < c → word_at more k ≡ f (n + k))
    → ((i : ℕ) → i < n → word_at bytes i ≡ f i) → (i : ℕ) → i < n + c → word_at (bytes ++ more) i ≡ f i
words-more f bytes more n c size last before i below = ⊎_elim
    (λ (h : i < n). word_at-append_left bytes more i (omega arith) ∙ before i h)
    (λ (h : n ≤ i).
    let at : n + (i - n) ≡ i = omega arith in
    rw at at (word_at-append_right bytes more n (i - n) size ∙ last (i - n) (omega arith)))
    (cases_lt i n)

-- the value of a single word is both candidates
pub either-single : (b : Bool) (c : Cell) (w : ℕ) → c ≡ Single w → w ≡ cond b (newest c) (oldest c)
either-single true c w is = rw is refl
either-single false c w is = rw is refl

-- The choices by parity.
either-same : (b : Bool) (x y : ℕ) → cond (cond b false false) x y ≡ y
either-same true x y = refl
either-same false x y = refl

either-newest : (b : Bool) (x y : ℕ) → cond (cond b true true) x y ≡ x
either-newest true x y = refl
either-newest false x y = refl

either-even : (b : Bool) (x y : ℕ) → cond (cond b true false) x y ≡ cond b x y
either-even true x y = refl
either-even false x y = refl

pub parity-oldest : (d : List Cell) (i : ℕ) → by_parity false false d i ≡ chosen Oldest d i
parity-oldest d i = either-same (i % 2 == 0) (newest (cell d i)) (oldest (cell d i))

pub parity-newest : (d : List Cell) (i : ℕ) → by_parity true true d i ≡ chosen Newest d i
parity-newest d i = either-newest (i % 2 == 0) (newest (cell d i)) (oldest (cell d i))

pub parity-even : (d : List Cell) (i : ℕ) → by_parity true false d i ≡ chosen Even d i
parity-even d i = either-even (i % 2 == 0) (newest (cell d i)) (oldest (cell d i))

odd-or_even : (i : ℕ) (b : Bool) → (i % 2 == 0) ≡ b → cond b false true ≡ (i % 2 == 1)
odd-or_even i true even = sym (ne_eqb (i % 2) 1 (let zero_is : i % 2 ≡ 0 = eqb-true (i % 2) 0 even in λ e. omega arith))
odd-or_even i false odd = sym (eq-eqb (i % 2) 1 (let not_zero : i % 2 ≢ 0 = eqb-false (i % 2) 0 odd in omega arith))

pub parity-odd : (d : List Cell) (i : ℕ) → by_parity false true d i ≡ chosen Odd d i
parity-odd d i = ap (λ b. cond b (newest (cell d i)) (oldest (cell d i))) (odd-or_even i (i % 2 == 0) refl)

-- The draws, word by word.
twos-more : (d : List Cell) (n : ℕ) (c : Cell) → n < length d → twos_before d (n + 1) ≡ twos_before d n + draws_of (get_or d n c)
twos-more d n c below = sum_by_more (λ (x : Cell). cond (has_two x) 1 0) d n c below

pub draw-odd : (seed k : ℕ) → is_odd_draw seed k ≡ ((mix_u64 (state_after seed k)).0 % 2 == 1)
unfolding is_odd_draw
draw-odd seed k = refl

pub after-none : (seed : ℕ) → state_after seed 0 ≡ seed
unfolding state_after
after-none seed = refl

pub after-more : (seed k : ℕ) → state_after seed (k + 1) ≡ (mix_u64 (state_after seed k)).1
unfolding state_after
after-more seed k = rw add-one refl

-- words with one candidate take no draw
draws_of-single : (c : Cell) → is_single c ≡ true → draws_of c ≡ 0
draws_of-single (Single a) single = refl
draws_of-single (Two x y) single = cc
draws_of-single (Marked x y) single = cc
draws_of-single Lent single = cc

twos-singles : (d : List Cell) (from n : ℕ) → from + n ≤ length d → AreSingle d from (from + n) → twos_before d (from + n) ≡ twos_before d from
twos-singles d from zero within singles = ap (twos_before d) (add-zero from)
twos-singles d from (suc n) within singles =
    let at : from + suc n ≡ from + n + 1 = omega arith in
    let last : draws_of (cell d (from + n)) ≡ 0 = draws_of-single (cell d (from + n)) (singles (from + n) (omega arith) (omega arith)) in
    ap (twos_before d) at ∙ twos-more d (from + n) (Single 0) (omega arith)
    ∙ omega (arith, last, twos-singles d from n (omega arith) (λ i after before. singles i after (omega arith)))

pub twos-same : (d : List Cell) (from n : ℕ) → from ≤ n → n ≤ length d → AreSingle d from n → twos_before d n ≡ twos_before d from
twos-same d from n after within singles =
    let at : from + (n - from) ≡ n = omega arith in
    rw at at (twos-singles d from (n - from) (omega arith) (λ i h before. singles i h (omega arith)))

-- a word with two candidates takes one
pub twos-next : (d : List Cell) (n : ℕ) → n < length d → has_two (cell d n) ≡ true → twos_before d (n + 1) ≡ twos_before d n + 1
twos-next d n below two = twos-more d n (Single 0) below ∙ ap (λ (b : Bool). twos_before d n + cond b 1 0) two
