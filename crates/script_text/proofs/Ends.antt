-- The first line of bytes.
use Rattle.std.proofs.Common.{◌≡◌, ◌≢◌, ℕ, zero, suc, ◌+◌, ◌<◌, List, [], ◌∷◌, length, get_or, take, drop, refl, ◌∙◌, ap, arith, true, false, add-one}
use Rattle.std.specs.Prelude.{map, ◌==◌}
use Rattle.std.proofs.lemmas.Bool.{eq-eqb, ne_eqb}
use Rattle.script_text.specs.Lines.{lines_of, text_of, with_front, without_return}

inside : (b : ℕ) (bytes : List ℕ) → b ≢ 10 → lines_of (b ∷ bytes) ≡ with_front b (lines_of bytes)
unfolding lines_of
inside b bytes ne = rw (ne_eqb b 10 ne) refl

-- a line that a byte 10 ends
ended_line : (bytes : List ℕ) (n : ℕ) → n < length bytes → ((k : ℕ) → k < n → get_or bytes k 0 ≢ 10) → get_or bytes n 0 ≡ 10 → lines_of bytes ≡ record { bytes = take n bytes; is_ended = true } ∷ lines_of (drop (n + 1) bytes)
unfolding lines_of
ended_line [] n within none end = absurd (omega arith)
ended_line (b ∷ bytes) zero within none end = rw (eq-eqb b 10 end) refl
ended_line (b ∷ bytes) (suc n) within none end =
    inside b bytes (none 0 (omega arith))
    ∙ ap (with_front b) (ended_line bytes n (omega arith) (λ k lt. none (suc k) (omega arith)) end)
    ∙ (rw (add-one, add-one) refl)

-- the last line, which none ends
last_line : (bytes : List ℕ) → 0 < length bytes → ((k : ℕ) → k < length bytes → get_or bytes k 0 ≢ 10) → lines_of bytes ≡ record { bytes = bytes; is_ended = false } ∷ []
unfolding lines_of
last_line [] some none = absurd (omega arith)
last_line (b ∷ []) some none = inside b [] (none 0 (omega arith))
last_line (b ∷ c ∷ bytes) some none =
    inside b (c ∷ bytes) (none 0 (omega arith)) ∙ ap (with_front b) (last_line (c ∷ bytes) (omega arith) (λ k lt. none (suc k) (omega arith)))

pub ended_text : (bytes : List ℕ) (n : ℕ) → n < length bytes → ((k : ℕ) → k < n → get_or bytes k 0 ≢ 10) → get_or bytes n 0 ≡ 10 → map text_of (lines_of bytes) ≡ without_return (take n bytes) ∷ map text_of (lines_of (drop (n + 1) bytes))
ended_text bytes n within none end = ap (map text_of) (ended_line bytes n within none end)

pub last_text : (bytes : List ℕ) → 0 < length bytes → ((k : ℕ) → k < length bytes → get_or bytes k 0 ≢ 10) → map text_of (lines_of bytes) ≡ bytes ∷ map text_of (lines_of [])
unfolding lines_of
last_text bytes some none = ap (map text_of) (last_line bytes some none)

-- a byte 13 at the end, or none
pub returned : (bytes : List ℕ) (n : ℕ) → length bytes ≡ suc n → get_or bytes n 0 ≡ 13 → take n bytes ≡ without_return bytes
unfolding without_return
returned [] n long last = absurd (omega arith)
returned (b ∷ []) zero long last = rw (eq-eqb b 13 last) refl
returned (b ∷ []) (suc n) long last = absurd (omega arith)
returned (b ∷ c ∷ bytes) zero long last = absurd (omega arith)
returned (b ∷ c ∷ bytes) (suc n) long last =
    let more : (length (c ∷ bytes) == 0) ≡ false = ne_eqb (length (c ∷ bytes)) 0 (λ e. omega arith) in
    rw more (ap (λ (front : List ℕ). b ∷ front) (returned (c ∷ bytes) n (omega arith) last))

pub other_end : (bytes : List ℕ) (n : ℕ) → length bytes ≡ suc n → get_or bytes n 0 ≢ 13 → bytes ≡ without_return bytes
unfolding without_return
other_end [] n long other = absurd (omega arith)
other_end (b ∷ []) zero long other = rw (ne_eqb b 13 other) refl
other_end (b ∷ []) (suc n) long other = absurd (omega arith)
other_end (b ∷ c ∷ bytes) zero long other = absurd (omega arith)
other_end (b ∷ c ∷ bytes) (suc n) long other =
    let more : (length (c ∷ bytes) == 0) ≡ false = ne_eqb (length (c ∷ bytes)) 0 (λ e. omega arith) in
    rw more (ap (λ (front : List ℕ). b ∷ front) (other_end (c ∷ bytes) n (omega arith) other))

pub no_end : (bytes : List ℕ) → length bytes ≡ 0 → bytes ≡ without_return bytes
unfolding without_return
no_end [] none = refl
no_end (b ∷ bytes) none = absurd (omega arith)
