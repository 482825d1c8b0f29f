-- One bit of a list of words: what a write of a word makes of it, and where the next one is.
use Rattle.std.proofs.Common.{◌≡◌, ◌≢◌, ℕ, ◌+◌, ◌-◌, ◌*◌, ◌/◌, ◌%◌, ◌^◌, ◌<◌, true, false, eqb, List, length, get_or, set, replicate, refl, sym, ◌∙◌, ap, inl, inr, arith, w64}
use Rattle.std.specs.Prelude.{bit_and, bit_or}
use Rattle.std.specs.Int.{bit_at, trailing_zeros}
use Rattle.std.proofs.lemmas.Bool.{cases_eq, cases_lt}
use Rattle.std.proofs.lemmas.List.{get_or-set_same, get_or-set_other, get_or-replicate}
use Rattle.std.proofs.lemmas.Nat.Bits.{bit_at_set_same, bit_at_set_other, bit_at_clear_same, bit_at_clear_other, bit_at_ones, bit_at-zero, bit_at-trailing_zeros, bit_at_above}
use Rattle.std.proofs.lemmas.Nat.{pow-add}
use Rattle.std.proofs.Math.Nat.{div-div-eq-div-mul, div-le_self}
use Rattle.block_pool.specs.Bits.{is_set, NoneSet}

-- a word written over decides its own bits, and no others
own_bit : (words : List ℕ) (place p word : ℕ) → place < 64 * length words → p / 64 ≡ place / 64 → is_set (set words (place / 64) word) p ≡ eqb (bit_at word (p % 64)) 1
own_bit words place p word lt same =
    ap (λ w. eqb (bit_at w (p % 64)) 1) (ap (λ i. get_or (set words (place / 64) word) i 0) same ∙ get_or-set_same words (place / 64) word 0 (omega arith))

other_bit : (words : List ℕ) (place p word : ℕ) → p / 64 ≢ place / 64 → is_set (set words (place / 64) word) p ≡ is_set words p
other_bit words place p word apart = ap (λ w. eqb (bit_at w (p % 64)) 1) (get_or-set_other words (place / 64) (p / 64) word 0 apart)

-- a write that keeps the other bits of its word keeps all other bits
others_stay : (words : List ℕ) (place word : ℕ) → place < 64 * length words → ((i : ℕ) → i < 64 → i ≢ place % 64 → bit_at word i ≡ bit_at (get_or words (place / 64) 0) i) → (p : ℕ) → p ≢ place → is_set (set words (place / 64) word) p ≡ is_set words p
others_stay words place word lt stay p apart = elim (cases_eq (p / 64) (place / 64)) [
  | inl same ↦ own_bit words place p word lt same ∙ ap (λ b. eqb b 1) (stay (p % 64) (omega arith) (omega arith) ∙ ap (λ i. bit_at (get_or words i 0) (p % 64)) (sym same))
  | inr elsewhere ↦ other_bit words place p word elsewhere
]

module _ (words : List ℕ) (place : ℕ) (lt : place < 64 * length words) where
  -- `words[place / 64] |= 1 << place % 64`
  pub set_here : is_set (set words (place / 64) (bit_or (get_or words (place / 64) 0) (1 * 2 ^ (place % 64) % 18446744073709551616))) place ≡ true
  set_here = own_bit words place place _ lt refl ∙ ap (λ b. eqb b 1) (bit_at_set_same w64 (get_or words (place / 64) 0) (place % 64) (omega arith))

  pub set_others : (p : ℕ) → p ≢ place → is_set (set words (place / 64) (bit_or (get_or words (place / 64) 0) (1 * 2 ^ (place % 64) % 18446744073709551616))) p ≡ is_set words p
  set_others = others_stay words place _ lt (λ i small apart. bit_at_set_other w64 (get_or words (place / 64) 0) (place % 64) (omega arith) i apart)

  -- `words[place / 64] &= !(1 << place % 64)`
  pub clear_here : is_set (set words (place / 64) (bit_and (get_or words (place / 64) 0) (18446744073709551615 - 1 * 2 ^ (place % 64) % 18446744073709551616))) place ≡ false
  clear_here = own_bit words place place _ lt refl ∙ ap (λ b. eqb b 1) (bit_at_clear_same w64 (get_or words (place / 64) 0) (place % 64) (omega arith))

  pub clear_others : (p : ℕ) → p ≢ place → is_set (set words (place / 64) (bit_and (get_or words (place / 64) 0) (18446744073709551615 - 1 * 2 ^ (place % 64) % 18446744073709551616))) p ≡ is_set words p
  clear_others = others_stay words place _ lt (λ i small apart. bit_at_clear_other w64 (get_or words (place / 64) 0) (place % 64) (omega arith) i small apart)

-- the bits of a word moved down by k are those from k on
bit_at_shifted : (w k i : ℕ) → bit_at (w / 2 ^ k) i ≡ bit_at w (k + i)
bit_at_shifted w k i = ap (λ q. q % 2) (div-div-eq-div-mul w (2 ^ k) (2 ^ i) ∙ ap (λ d. w / d) (sym (pow-add 2 k i)))

-- the bit at a place, by the rest of its word
is_set_rest : (words : List ℕ) (place p i : ℕ) → p ≡ place + i → place % 64 + i < 64 → is_set words p ≡ eqb (bit_at (get_or words (place / 64) 0 / 2 ^ (place % 64)) i) 1
is_set_rest words place p i at small =
    let word : p / 64 ≡ place / 64 = omega arith in
    let bit : p % 64 ≡ place % 64 + i = omega arith in
    ap (λ n. eqb (bit_at (get_or words n 0) (p % 64)) 1) word ∙ ap (λ n. eqb (bit_at (get_or words (place / 64) 0) n) 1) bit ∙ ap (λ b. eqb b 1) (sym (bit_at_shifted (get_or words (place / 64) 0) (place % 64) i))

-- where the rest of a word is 0, none of its bits is set
pub none_in_rest : (words : List ℕ) (place : ℕ) → get_or words (place / 64) 0 / 2 ^ (place % 64) ≡ 0 → NoneSet words place (place + (64 - place % 64))
none_in_rest words place empty p le lt =
    is_set_rest words place p (p - place) (omega arith) (omega arith) ∙ ap (λ r. eqb (bit_at r (p - place)) 1) empty ∙ ap (λ b. eqb b 1) (bit_at-zero (p - place))

-- else the lowest bit of the rest is the next that is set
pub next_in_rest : (words : List ℕ) (place : ℕ) → get_or words (place / 64) 0 < 2 ^ 64 → get_or words (place / 64) 0 / 2 ^ (place % 64) ≢ 0 → (is_set words (place + trailing_zeros w64 (get_or words (place / 64) 0 / 2 ^ (place % 64))) ≡ true) × NoneSet words place (place + trailing_zeros w64 (get_or words (place / 64) 0 / 2 ^ (place % 64)))
next_in_rest words place fits some =
    let word : ℕ = get_or words (place / 64) 0 in
    let k : ℕ = place % 64 in
    let rest : ℕ = word / 2 ^ k in
    let low : ℕ = trailing_zeros w64 rest in
    let lowest = bit_at-trailing_zeros w64 rest (omega (arith, some)) (omega (arith, div-le_self word (2 ^ k))) in
    let one : bit_at word (k + low) ≡ 1 = sym (bit_at_shifted word k low) ∙ lowest.1 in
    let small : k + low < 64 = elim (cases_lt (k + low) 64) [
      | inl lt ↦ lt
      | inr past ↦ absurd (omega (arith, one, bit_at_above word 64 (k + low) fits past))
    ] in (
      is_set_rest words place (place + low) low refl small ∙ ap (λ b. eqb b 1) lowest.1,
      λ p le lt. is_set_rest words place p (p - place) (omega arith) (omega arith) ∙ ap (λ b. eqb b 1) (lowest.2 (p - place) (omega arith)),
    )

-- no bit from one place to a third, by a place between
pub none_joined : (words : List ℕ) (a b c : ℕ) → NoneSet words a b → NoneSet words b c → NoneSet words a c
none_joined words a b c low high p le lt = elim (cases_lt p b) [
  | inl before ↦ low p le before
  | inr behind ↦ high p behind lt
]

-- in words of ones every bit is set
pub all_set : (n p : ℕ) → p < 64 * n → is_set (replicate n 18446744073709551615) p ≡ true
all_set n p lt = ap (λ w. eqb (bit_at w (p % 64)) 1) (get_or-replicate n (p / 64) 18446744073709551615 0 (omega arith)) ∙ ap (λ b. eqb b 1) (bit_at_ones 64 (p % 64) (omega arith))

-- in words of zeros no bit is set
pub none_set : (n p : ℕ) → p < 64 * n → is_set (replicate n 0) p ≡ false
none_set n p lt = ap (λ w. eqb (bit_at w (p % 64)) 1) (get_or-replicate n (p / 64) 0 0 (omega arith)) ∙ ap (λ b. eqb b 1) (bit_at-zero (p % 64))
