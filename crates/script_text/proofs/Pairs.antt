-- Bytes from pairs of hexadecimal digits.
use Rattle.std.proofs.Common.{◌≡◌, ℕ, ◌+◌, ◌*◌, ◌<◌, ◌≤◌, List, [], ◌∷◌, ◌++◌, length, get_or, drop, refl, sym, ◌∙◌, ap, arith, true, append_assoc, ◌&&◌, Some, None, replicate, append-nil}
use Rattle.std.specs.Prelude.{take, nat_le, slice_index, ◌==◌}
use Rattle.std.specs.List.{list_all}
use Rattle.std.proofs.lemmas.Bool.{and_parts, and_from, cond-true, le-leb, leb-true}
use Rattle.script_text.specs.Words.{hex_bytes, hex_value, is_hex_digit, is_repeat, most_data, repeated}

-- two digits are a byte, and the others follow
pub hex_pair : (digits : List ℕ) → 2 ≤ length digits → hex_bytes digits ≡ (16 * hex_value (get_or digits 0 0) + hex_value (get_or digits 1 0)) ∷ hex_bytes (drop 2 digits)
unfolding hex_bytes
hex_pair [] two = absurd (omega arith)
hex_pair (a ∷ []) two = absurd (omega arith)
hex_pair (a ∷ b ∷ digits) two = refl

-- less than a pair
pub hex_end : (digits : List ℕ) → length digits < 2 → hex_bytes digits ≡ []
unfolding hex_bytes
hex_end [] short = refl
hex_end (a ∷ []) short = refl
hex_end (a ∷ b ∷ digits) short = absurd (omega arith)

-- all behind a pair are digits
pub all_behind : (digits : List ℕ) → list_all is_hex_digit digits ≡ true → list_all is_hex_digit (drop 2 digits) ≡ true
all_behind [] all = refl
all_behind (a ∷ []) all = refl
all_behind (a ∷ b ∷ digits) all =
    (and_parts (is_hex_digit b) (list_all is_hex_digit digits) (and_parts (is_hex_digit a) (list_all is_hex_digit (b ∷ digits)) all).1).1

-- one pair more was read
pub pair_more : (word digits read : List ℕ) → hex_bytes word ≡ read ++ hex_bytes digits → 2 ≤ length digits → hex_bytes word ≡ (read ++ (16 * hex_value (get_or digits 0 0) + hex_value (get_or digits 1 0)) ∷ []) ++ hex_bytes (drop 2 digits)
pair_more word digits read so_far two =
    so_far ∙ ap (λ (more : List ℕ). read ++ more) (hex_pair digits two) ∙ sym (append_assoc read ((16 * hex_value (get_or digits 0 0) + hex_value (get_or digits 1 0)) ∷ []) (hex_bytes (drop 2 digits)))

pub pairs_end : (word digits read : List ℕ) → hex_bytes word ≡ read ++ hex_bytes digits → length digits < 2 → read ≡ hex_bytes word
pairs_end word digits read so_far short = sym (so_far ∙ ap (λ (more : List ℕ). read ++ more) (hex_end digits short) ∙ append-nil read)

-- the byte of a repeat
pub repeat_byte : (word : List ℕ) → 2 ≤ length word → get_or (hex_bytes (take 2 word)) 0 0 ≡ 16 * hex_value (get_or word 0 0) + hex_value (get_or word 1 0)
unfolding hex_bytes
repeat_byte [] two = absurd (omega arith)
repeat_byte (a ∷ []) two = absurd (omega arith)
repeat_byte (a ∷ b ∷ word) two = refl

pub repeated-some : (word : List ℕ) (n : ℕ) → 2 ≤ length word → 1 ≤ n → n ≤ most_data → Some (replicate n (16 * hex_value (get_or word 0 0) + hex_value (get_or word 1 0))) ≡ repeated word n
repeated-some word n two some few =
    ap (λ (b : ℕ). Some (replicate n b)) (sym (repeat_byte word two))
    ∙ sym (cond-true _ (Some (replicate n (get_or (hex_bytes (take 2 word)) 0 0))) None (and_from _ _ (le-leb 1 n some) (le-leb n most_data few)))

pub repeat_long : (word : List ℕ) → is_repeat word ≡ true → 3 ≤ length word
repeat_long word h = leb-true 3 (length word) (and_parts (nat_le 3 (length word)) (list_all is_hex_digit (take 2 word)) (and_parts (nat_le 3 (length word) && list_all is_hex_digit (take 2 word)) (slice_index word 2 == 42) h).0).0
