-- The value of decimal digits, digit by digit.
use Rattle.std.proofs.Common.{◌≡◌, ℕ, ◌+◌, ◌-◌, ◌*◌, ◌<◌, ◌≤◌, ◌^◌, true, List, [], ◌∷◌, length, get_or, take, drop, ◌≢◌, refl, arith, sym, ◌∙◌, ap, ◌&&◌, not}
use Rattle.std.specs.Prelude.{◌==◌, ◌||◌, nat_le, slice_index, option_map, None, Some, pos}
use Rattle.std.specs.List.{list_all}
use Rattle.std.specs.Char.{digit_value, is_ascii_digit}
use Rattle.std.specs.Str.{all_ascii_digits}
use Rattle.std.specs.Str.Parse.{digits_value}
use Rattle.std.proofs.lemmas.Bool.{and_parts, and_from, leb-true, eq-eqb, le-ltb, lt-ltb, ne_eqb}
use Rattle.std.proofs.lemmas.Int.Digits.{digits_value_more}
use Rattle.std.proofs.lemmas.List.{length-take}
use Rattle.std.proofs.lemmas.Str.Parse.{IsNumeralModel, numerals_by_value, tells_all_ascii_digits, digits_value_short}
use Rattle.script_text.proofs.Lists.{all_of_take, passes_at}
use Rattle.script_text.specs.Words.{is_number, less, number_in, signed_in}

all_digits : (word : List ℕ) → list_all is_ascii_digit word ≡ true → all_ascii_digits word ≡ true
all_digits [] h = refl
all_digits (c ∷ cs) h =
    let parts = and_parts (is_ascii_digit c) (list_all is_ascii_digit cs) h in
    and_from (is_ascii_digit c) (all_ascii_digits cs) parts.0 (all_digits cs parts.1)

-- the bounds of a digit
pub digit_bounds : (b : ℕ) → is_ascii_digit b ≡ true → (48 ≤ b) × (b ≤ 57)
digit_bounds b h = let parts = and_parts (nat_le 48 b) (nat_le b 57) h in (leb-true 48 b parts.0, leb-true b 57 parts.1)

digit_value-digit : (b : ℕ) → 48 ≤ b → b ≤ 57 → digit_value b ≡ b - 48
digit_value-digit b low high = rw (le-ltb b 48 low, lt-ltb b 58 (omega arith)) refl

pub own : IsNumeralModel (λ word. all_ascii_digits word ≡ true) (digits_value 10)
own = numerals_by_value _ tells_all_ascii_digits

pub value_small : (word : List ℕ) → list_all is_ascii_digit word ≡ true → length word ≤ 18 → digits_value 10 word < 10 ^ 18
value_small word digits few = digits_value_short own word 18 (all_digits word digits) few

-- one digit more
pub value_more : (word : List ℕ) (i : ℕ) → list_all is_ascii_digit word ≡ true → i < length word → digits_value 10 (take (i + 1) word) ≡ digits_value 10 (take i word) * 10 + (get_or word i 0 - 48)
value_more word i digits lt =
    let bounds = digit_bounds (get_or word i 0) (passes_at is_ascii_digit word i 0 digits lt) in
    digits_value_more 10 word i lt ∙ ap (λ d. digits_value 10 (take i word) * 10 + d) (digit_value-digit (get_or word i 0) bounds.0 bounds.1)

-- what was read so far is small
pub value_so_far : (word : List ℕ) (i : ℕ) → list_all is_ascii_digit word ≡ true → length word ≤ 18 → digits_value 10 (take i word) < 10 ^ 18
value_so_far word i digits few = value_small (take i word) (all_of_take is_ascii_digit word i digits) (let shorter = length-take i word in omega arith)

-- a number is small
pub number_digits : (word : List ℕ) → is_number word ≡ true → (list_all is_ascii_digit word ≡ true) × (length word ≤ 18)
number_digits word number =
    let first = and_parts (list_all is_ascii_digit word && nat_le 1 (length word) && nat_le (length word) 18) ((length word == 1) || not (slice_index word 0 == 48)) number in
    let second = and_parts (list_all is_ascii_digit word && nat_le 1 (length word)) (nat_le (length word) 18) first.0 in
    let third = and_parts (list_all is_ascii_digit word) (nat_le 1 (length word)) second.0 in
    (third.0, leb-true (length word) 18 second.1)

-- a signed number by its first byte
pub signed_in-empty : (word : List ℕ) → length word ≡ 0 → signed_in word ≡ None
unfolding signed_in
signed_in-empty [] empty = refl
signed_in-empty (b ∷ word) empty = absurd (omega arith)

pub signed_in-minus : (word : List ℕ) → 0 < length word → get_or word 0 0 ≡ 45 → signed_in word ≡ option_map less (number_in (drop 1 word))
unfolding signed_in
signed_in-minus [] some minus = absurd (omega arith)
signed_in-minus (b ∷ word) some minus = rw (eq-eqb b 45 minus) refl

pub signed_in-plain : (word : List ℕ) → 0 < length word → get_or word 0 0 ≢ 45 → signed_in word ≡ option_map (λ n. pos n) (number_in word)
unfolding signed_in
signed_in-plain [] some plain = absurd (omega arith)
signed_in-plain (b ∷ word) some plain = rw (ne_eqb b 45 plain) refl

-- the same where the number is read, and where it is not
pub signed_minus_some : (word : List ℕ) (n : ℕ) → 0 < length word → get_or word 0 0 ≡ 45 → Some n ≡ number_in (drop 1 word) → Some (less n) ≡ signed_in word
signed_minus_some word n some minus read = ap (option_map less) read ∙ sym (signed_in-minus word some minus)

pub signed_minus_none : (word : List ℕ) → 0 < length word → get_or word 0 0 ≡ 45 → None ≡ number_in (drop 1 word) → None ≡ signed_in word
signed_minus_none word some minus read = ap (option_map less) read ∙ sym (signed_in-minus word some minus)

pub signed_plain_some : (word : List ℕ) (n : ℕ) → 0 < length word → get_or word 0 0 ≢ 45 → Some n ≡ number_in word → Some (pos n) ≡ signed_in word
signed_plain_some word n some plain read = ap (option_map (λ k. pos k)) read ∙ sym (signed_in-plain word some plain)

pub signed_plain_none : (word : List ℕ) → 0 < length word → get_or word 0 0 ≢ 45 → None ≡ number_in word → None ≡ signed_in word
signed_plain_none word some plain read = ap (option_map (λ k. pos k)) read ∙ sym (signed_in-plain word some plain)
