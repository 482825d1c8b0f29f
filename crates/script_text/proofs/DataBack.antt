-- Data is read as it is printed.
use Rattle.std.proofs.Common.{◌≡◌, ℕ, ◌+◌, ◌*◌, ◌/◌, ◌%◌, ◌<◌, ◌≤◌, List, [], ◌∷◌, length, drop, replicate, refl, sym, ◌∙◌, ap, arith, true, false, ◌&&◌, Some, None, inl, inr, subst}
use Rattle.std.specs.Prelude.{◌==◌, codes, nat_le, decimal, flat_map}
use Rattle.std.specs.List.{All, list_all}
use Rattle.std.proofs.lemmas.Bool.{agree_below_at, and_from, and_parts, and_right, cases_Bool, cond-false, cond-true, eq-eqb, eqb-true, le-leb, leb-true, ne_eqb, or_cases}
use Rattle.std.proofs.lemmas.List.Elements.{All-head, All-tail}
use Rattle.layout_model.specs.Fields.{is_same}
use Rattle.report_text.specs.Texts.{are_equal, data_text, hex_byte, hex_digit, is_short}
use Rattle.script_text.specs.Words.{data_in, hex_bytes, hex_value, is_even_count, is_hex_digit, is_repeat, most_data, number_in, repeated, repeated_in}
use Rattle.script_text.specs.Written.{IsWrittenData}
use Rattle.script_text.proofs.PartsBack.{above_blank, all_weaker, number-back, number-word}
use Rattle.script_text.proofs.WordsBack.{is_solid_byte, IsWord}

-- ---- digits
pub digit_is : (d : ℕ) → d < 16 → is_hex_digit (hex_digit d) ≡ true
digit_is d small = agree_below_at (λ d. is_hex_digit (hex_digit d)) (λ d. true) 16 d refl small

digit_value-back : (d : ℕ) → d < 16 → hex_value (hex_digit d) ≡ d
digit_value-back d small = eqb-true (hex_value (hex_digit d)) d (agree_below_at (λ d. hex_value (hex_digit d) == d) (λ d. true) 16 d refl small)

digit_no_star : (d : ℕ) → d < 16 → (hex_digit d == 42) ≡ false
digit_no_star d small = agree_below_at (λ d. hex_digit d == 42) (λ d. false) 16 d refl small

byte-back : (b : ℕ) → b < 256 → 16 * hex_value (hex_digit (b / 16)) + hex_value (hex_digit (b % 16)) ≡ b
byte-back b small =
    let high = digit_value-back (b / 16) (omega arith) in
    let low = digit_value-back (b % 16) (omega arith) in
    omega arith

hex_digit_solid : (b : ℕ) → is_hex_digit b ≡ true → is_solid_byte b ≡ true
hex_digit_solid b h =
    elim (or_cases (nat_le 48 b && nat_le b 57) (nat_le 97 b && nat_le b 102) h) [
      | inl digit ↦ above_blank b 48 (leb-true 48 b (and_parts (nat_le 48 b) (nat_le b 57) digit).0) (omega arith)
      | inr letter ↦ above_blank b 97 (leb-true 97 b (and_parts (nat_le 97 b) (nat_le b 102) letter).0) (omega arith)
    ]

-- ---- pairs
pairs-back : (x : List ℕ) → All (λ byte. byte < 256) x → hex_bytes (flat_map hex_byte x) ≡ x
unfolding hex_bytes
pairs-back [] h = refl
pairs-back (b ∷ x) h =
    ap (λ (v : ℕ). v ∷ hex_bytes (flat_map hex_byte x)) (byte-back b (All-head (λ (byte : ℕ). byte < 256) b x h))
    ∙ ap (λ (l : List ℕ). b ∷ l) (pairs-back x (All-tail (λ (byte : ℕ). byte < 256) b x h))

pub pairs_are : (x : List ℕ) → All (λ byte. byte < 256) x → list_all is_hex_digit (flat_map hex_byte x) ≡ true
pairs_are [] h = refl
pairs_are (b ∷ x) h =
    let small = All-head (λ (byte : ℕ). byte < 256) b x h in
    and_from _ _ (digit_is (b / 16) (omega arith)) (and_from _ _ (digit_is (b % 16) (omega arith)) (pairs_are x (All-tail (λ (byte : ℕ). byte < 256) b x h)))

pairs-length : (x : List ℕ) → length (flat_map hex_byte x) ≡ 2 * length x
pairs-length [] = refl
pairs-length (b ∷ x) = let more = pairs-length x in omega arith

pairs_even : (x : List ℕ) → is_even_count (flat_map hex_byte x) ≡ true
pairs_even x = eq-eqb _ _ (let twice = pairs-length x in omega arith)

pairs_no_repeat : (b : ℕ) (x : List ℕ) → All (λ byte. byte < 256) (b ∷ x) → is_repeat (flat_map hex_byte (b ∷ x)) ≡ false
pairs_no_repeat b [] h = refl
pairs_no_repeat b (next ∷ x) h =
    let small = All-head (λ (byte : ℕ). byte < 256) next x (All-tail (λ (byte : ℕ). byte < 256) b (next ∷ x) h) in
    and_right _ _ (digit_no_star (next / 16) (omega arith))

no_minus : (h l : ℕ) (rest : List ℕ) → is_same (h ∷ l ∷ rest) (45 ∷ []) ≡ false
no_minus h l rest = and_right (h == 45) false refl

data-pairs : (b : ℕ) (x : List ℕ) → All (λ byte. byte < 256) (b ∷ x) → data_in (flat_map hex_byte (b ∷ x)) ≡ Some (b ∷ x)
unfolding data_in
data-pairs b x h =
    let text : List ℕ = flat_map hex_byte (b ∷ x) in
    let some : nat_le 1 (length text) ≡ true = le-leb 1 (length text) (let twice = pairs-length (b ∷ x) in omega arith) in
    let all : (list_all is_hex_digit text && nat_le 1 (length text) && is_even_count text) ≡ true = and_from _ _ (and_from _ _ (pairs_are (b ∷ x) h) some) (pairs_even (b ∷ x)) in
    cond-false (is_same text (codes "-")) (Some []) _ (no_minus (hex_digit (b / 16)) (hex_digit (b % 16)) (flat_map hex_byte x))
    ∙ cond-false (is_repeat text) (repeated_in text (number_in (drop 3 text))) _ (pairs_no_repeat b x h)
    ∙ cond-true (list_all is_hex_digit text && nat_le 1 (length text) && is_even_count text) (Some (hex_bytes text)) None all
    ∙ ap Some (pairs-back (b ∷ x) h)

-- ---- a byte and how often
all_the_same : (b : ℕ) (x : List ℕ) → list_all (λ byte. byte == b) x ≡ true → x ≡ replicate (length x) b
all_the_same b [] h = refl
all_the_same b (y ∷ x) h =
    let parts = and_parts (y == b) (list_all (λ byte. byte == b) x) h in
    ap (λ (v : ℕ). v ∷ x) (eqb-true y b parts.0) ∙ ap (λ (l : List ℕ). b ∷ l) (all_the_same b x parts.1)

-- the text of a byte and how often
abbrev pub repeat_text : ℕ → ℕ → List ℕ
repeat_text b n = hex_digit (b / 16) ∷ hex_digit (b % 16) ∷ 42 ∷ decimal n

repeat_is : (b n : ℕ) → b < 256 → is_repeat (repeat_text b n) ≡ true
repeat_is b n small =
    and_from _ _ (and_from _ _ (le-leb 3 (length (repeat_text b n)) (omega arith)) (and_from _ _ (digit_is (b / 16) (omega arith)) (and_from _ true (digit_is (b % 16) (omega arith)) refl))) refl

repeated-back : (b n : ℕ) → b < 256 → 1 ≤ n → n ≤ most_data → repeated (repeat_text b n) n ≡ Some (replicate n b)
unfolding hex_bytes
repeated-back b n small some few =
    cond-true (nat_le 1 n && nat_le n most_data) (Some (replicate n (16 * hex_value (hex_digit (b / 16)) + hex_value (hex_digit (b % 16))))) None (and_from _ _ (le-leb 1 n some) (le-leb n most_data few))
    ∙ ap (λ (v : ℕ). Some (replicate n v)) (byte-back b small)

data-repeat : (b n : ℕ) → b < 256 → 1 ≤ n → n ≤ most_data → data_in (repeat_text b n) ≡ Some (replicate n b)
unfolding data_in
data-repeat b n small some few =
    let text : List ℕ = repeat_text b n in
    cond-false (is_same text (codes "-")) (Some []) _ (no_minus (hex_digit (b / 16)) (hex_digit (b % 16)) (42 ∷ decimal n))
    ∙ cond-true (is_repeat text) (repeated_in text (number_in (decimal n))) _ (repeat_is b n small)
    ∙ ap (repeated_in text) (number-back n (omega arith))
    ∙ repeated-back b n small some few

-- ---- data
pub data_text-short : (b : ℕ) (x : List ℕ) → is_short (b ∷ x) ≡ true → data_text (b ∷ x) ≡ repeat_text b (length (b ∷ x))
unfolding data_text
data_text-short b x short =
    cond-false (length (b ∷ x) == 0) (codes "-") _ (ne_eqb (length (b ∷ x)) 0 (λ e. omega arith)) ∙ cond-true (is_short (b ∷ x)) (repeat_text b (length (b ∷ x))) (flat_map hex_byte (b ∷ x)) short

pub data_text-pairs : (b : ℕ) (x : List ℕ) → is_short (b ∷ x) ≡ false → data_text (b ∷ x) ≡ flat_map hex_byte (b ∷ x)
unfolding data_text
data_text-pairs b x long =
    cond-false (length (b ∷ x) == 0) (codes "-") _ (ne_eqb (length (b ∷ x)) 0 (λ e. omega arith)) ∙ cond-false (is_short (b ∷ x)) (repeat_text b (length (b ∷ x))) (flat_map hex_byte (b ∷ x)) long

pub data-back : (x : List ℕ) → IsWrittenData x → data_in (data_text x) ≡ Some x
unfolding data_in data_text
data-back [] h = refl
data-back (b ∷ x) h =
    elim (cases_Bool (is_short (b ∷ x))) [
      | inl short ↦
          let same = all_the_same b (b ∷ x) (and_parts (nat_le 9 (length (b ∷ x))) (are_equal (b ∷ x)) short).1 in
          ap data_in (data_text-short b x short)
          ∙ data-repeat b (length (b ∷ x)) (All-head (λ (byte : ℕ). byte < 256) b x h.each) (omega arith) h.few
          ∙ ap Some (sym same)
      | inr long ↦ ap data_in (data_text-pairs b x long) ∙ data-pairs b x h.each
    ]

pub data-word : (x : List ℕ) → IsWrittenData x → IsWord (data_text x)
unfolding data_text
data-word [] h = record { solid = refl; some = refl }
data-word (b ∷ x) h =
    let small = All-head (λ (byte : ℕ). byte < 256) b x h.each in
    elim (cases_Bool (is_short (b ∷ x))) [
      | inl short ↦
          subst IsWord (sym (data_text-short b x short))
          (record {
            solid =
                and_from _ _ (hex_digit_solid (hex_digit (b / 16)) (digit_is (b / 16) (omega arith)))
                (and_from _ _ (hex_digit_solid (hex_digit (b % 16)) (digit_is (b % 16) (omega arith))) (number-word (length (b ∷ x)) (let few = h.few in omega arith)).solid);
            some = ne_eqb (length (repeat_text b (length (b ∷ x)))) 0 (λ e. omega arith);
          })
      | inr long ↦
          subst IsWord (sym (data_text-pairs b x long))
          (record {
            solid = all_weaker is_hex_digit is_solid_byte hex_digit_solid (flat_map hex_byte (b ∷ x)) (pairs_are (b ∷ x) h.each);
            some = ne_eqb (length (flat_map hex_byte (b ∷ x))) 0 (λ e. let twice = pairs-length (b ∷ x) in omega arith);
          })
    ]
