-- Paths, handles and numbers are read as they are printed.
use Rattle.std.proofs.Common.{◌≡◌, ℕ, zero, suc, ◌-◌, ◌<◌, ◌≤◌, ◌^◌, List, [], ◌∷◌, ◌++◌, length, get_or, take, replicate, refl, sym, ◌∙◌, ap, arith, Bool, true, false, not, ◌&&◌, Some, None, append-nil, inl, inr, Option, subst}
use Rattle.std.specs.Prelude.{◌==◌, ◌||◌, nat_le, decimal, flat_map, ℤ, pos, negsuc, option_map, slice_index}
use Rattle.std.specs.Char.{is_ascii_digit}
use Rattle.std.specs.Fmt.{signed_decimal}
use Rattle.std.specs.List.{list_all}
use Rattle.std.specs.Str.{all_ascii_digits}
use Rattle.std.specs.Str.Parse.{digits_value}
use Rattle.std.proofs.lemmas.Bool.{and_from, and_parts, cond-false, cond-true, le-leb, leb-true, ne_eqb, not-true, not_from_false, or_cases, or_left, or_right}
use Rattle.std.proofs.lemmas.Fmt.{decimal_digit, decimal_nonempty, digits_decimal, digits_value-decimal, first_decimal, length-decimal-le}
use Rattle.std.proofs.lemmas.List.Elements.{All-head, All-tail}
use Rattle.std.proofs.lemmas.List.Folds.{list_all-append}
use Rattle.layout_model.specs.Lines.{is_dots, is_name_byte}
use Rattle.layout_model.specs.Spelling.{AreSpelled, is_spelled}
use Rattle.posix_types.specs.declared.handle.Handle.{Handle}
use Rattle.posix_spec.specs.posix_tables.Places.{printed}
use Rattle.report_text.specs.Texts.{handle_text}
use Rattle.script_text.specs.Words.{handle_in, is_handle, is_handle_byte, is_number, less, number_in, parts_by, path_in, signed_in, with_part}
use Rattle.script_text.specs.Written.{distance, IsWrittenHandle}
use Rattle.script_text.proofs.Digits.{own, signed_in-minus, signed_in-plain}
use Rattle.script_text.proofs.Lists.{passes_at}
use Rattle.script_text.proofs.WordsBack.{is_solid, is_solid_byte, IsWord}

-- a test that passes only where another does
pub all_weaker : (p q : ℕ → Bool) → ((b : ℕ) → p b ≡ true → q b ≡ true) → (xs : List ℕ) → list_all p xs ≡ true → list_all q xs ≡ true
all_weaker p q h [] all = refl
all_weaker p q h (x ∷ xs) all =
    let parts = and_parts (p x) (list_all p xs) all in
    and_from (q x) (list_all q xs) (h x parts.0) (all_weaker p q h xs parts.1)

pub above_blank : (b n : ℕ) → n ≤ b → 32 < n → is_solid_byte b ≡ true
above_blank b n low above = not_from_false (b == 32) (ne_eqb b 32 (λ e. omega arith))

-- ---- paths
name_byte_solid : (b : ℕ) → is_name_byte b ≡ true → is_solid_byte b ≡ true
name_byte_solid b h =
    let parts = and_parts (nat_le 33 b) (nat_le b 126) (and_parts (nat_le 33 b && nat_le b 126) (not (b == 47)) h).0 in
    above_blank b 33 (leb-true 33 b parts.0) (omega arith)

no_slash : (b : ℕ) → is_name_byte b ≡ true → (b == 47) ≡ false
no_slash b h = not-true (b == 47) (and_parts (nat_le 33 b && nat_le b 126) (not (b == 47)) h).1

pub spelled_bytes : (name : List ℕ) → is_spelled name ≡ true → list_all is_name_byte name ≡ true
spelled_bytes name h = (and_parts (list_all is_name_byte name) (nat_le 1 (length name)) (and_parts (list_all is_name_byte name && nat_le 1 (length name)) (not (is_dots name)) h).0).0

spelled_some : (name : List ℕ) → is_spelled name ≡ true → 1 ≤ length name
spelled_some name h = leb-true 1 (length name) (and_parts (list_all is_name_byte name) (nat_le 1 (length name)) (and_parts (list_all is_name_byte name && nat_le 1 (length name)) (not (is_dots name)) h).0).1

-- the names, each behind a slash
abbrev pub behind_slashes : List (List ℕ) → List ℕ
behind_slashes names = flat_map (λ name. 47 ∷ name) names

part-slash : (name rest : List ℕ) → list_all is_name_byte name ≡ true → parts_by 47 (name ++ 47 ∷ rest) ≡ name ∷ parts_by 47 rest
unfolding parts_by
part-slash [] rest all = refl
part-slash (b ∷ name) rest all =
    let parts = and_parts (is_name_byte b) (list_all is_name_byte name) all in
    rw (no_slash b parts.0) (ap (with_part b) (part-slash name rest parts.1))

part-end : (name : List ℕ) → list_all is_name_byte name ≡ true → parts_by 47 name ≡ name ∷ []
unfolding parts_by
part-end [] all = refl
part-end (b ∷ name) all =
    let parts = and_parts (is_name_byte b) (list_all is_name_byte name) all in
    rw (no_slash b parts.0) (ap (with_part b) (part-end name parts.1))

parts-back : (name : List ℕ) (names : List (List ℕ)) → is_spelled name ≡ true → list_all is_spelled names ≡ true → parts_by 47 (name ++ behind_slashes names) ≡ name ∷ names
parts-back name [] h all = ap (parts_by 47) (append-nil name) ∙ part-end name (spelled_bytes name h)
parts-back name (next ∷ names) h all =
    let parts = and_parts (is_spelled next) (list_all is_spelled names) all in
    part-slash name (next ++ behind_slashes names) (spelled_bytes name h) ∙ ap (λ (more : List (List ℕ)). name ∷ more) (parts-back next names parts.0 parts.1)

pub all_spelled : (path : List (List ℕ)) → AreSpelled path → list_all is_spelled path ≡ true
all_spelled [] h = refl
all_spelled (name ∷ path) h =
    and_from (is_spelled name) (list_all is_spelled path) (All-head (λ (n : List ℕ). is_spelled n ≡ true) name path h) (all_spelled path (All-tail (λ (n : List ℕ). is_spelled n ≡ true) name path h))

some_length : (name rest : List ℕ) → 1 ≤ length name → (length (name ++ rest) == 0) ≡ false
some_length [] rest some = absurd (omega arith)
some_length (b ∷ name) rest some = ne_eqb (length (b ∷ (name ++ rest))) 0 (λ e. omega arith)

pub printed-cons : (name : List ℕ) (path : List (List ℕ)) → printed (name ∷ path) ≡ 47 ∷ (name ++ behind_slashes path)
printed-cons name path = cond-false (length (name ∷ path) == 0) (47 ∷ []) (47 ∷ (name ++ behind_slashes path)) (ne_eqb (length (name ∷ path)) 0 (λ e. omega arith))

names-back : (name : List ℕ) (path : List (List ℕ)) → list_all is_spelled (name ∷ path) ≡ true → path_in (47 ∷ (name ++ behind_slashes path)) ≡ Some (name ∷ path)
unfolding path_in
names-back name path all =
    let parts = and_parts (is_spelled name) (list_all is_spelled path) all in
    rw (some_length name (behind_slashes path) (spelled_some name parts.0), parts-back name path parts.0 parts.1) (cond-true (list_all is_spelled (name ∷ path)) (Some (name ∷ path)) None all)

pub path-back : (path : List (List ℕ)) → AreSpelled path → path_in (printed path) ≡ Some path
unfolding path_in
path-back [] h = refl
path-back (name ∷ path) h = ap path_in (printed-cons name path) ∙ names-back name path (all_spelled (name ∷ path) h)

slashes-solid : (path : List (List ℕ)) → list_all is_spelled path ≡ true → is_solid (behind_slashes path) ≡ true
slashes-solid [] h = refl
slashes-solid (name ∷ path) h =
    let parts = and_parts (is_spelled name) (list_all is_spelled path) h in
    list_all-append is_solid_byte name (behind_slashes path)
    ∙ and_from (is_solid name) (is_solid (behind_slashes path)) (all_weaker is_name_byte is_solid_byte name_byte_solid name (spelled_bytes name parts.0)) (slashes-solid path parts.1)

pub path-word : (path : List (List ℕ)) → AreSpelled path → IsWord (printed path)
path-word [] h = record { solid = refl; some = refl }
path-word (name ∷ path) h =
    subst IsWord (sym (printed-cons name path))
    (record {
      solid = slashes-solid (name ∷ path) (all_spelled (name ∷ path) h);
      some = ne_eqb (length (47 ∷ (name ++ behind_slashes path))) 0 (λ e. omega arith);
    })

-- ---- handles
handle_byte_solid : (b : ℕ) → is_handle_byte b ≡ true → is_solid_byte b ≡ true
handle_byte_solid b h =
    elim (or_cases (nat_le 97 b && nat_le b 122) (nat_le 48 b && nat_le b 57) h) [
      | inl letter ↦ above_blank b 97 (leb-true 97 b (and_parts (nat_le 97 b) (nat_le b 122) letter).0) (omega arith)
      | inr digit ↦ above_blank b 48 (leb-true 48 b (and_parts (nat_le 48 b) (nat_le b 57) digit).0) (omega arith)
    ]

pub handle-back : (h : Handle) → IsWrittenHandle h → handle_in (handle_text h) ≡ Some h
unfolding handle_in
handle-back h written =
    let word : List ℕ = take h.len h.bytes in
    let make : ℕ → List ℕ → Option Handle = λ len bytes. Some (record { len = len; bytes = bytes }) in
    cond-true (is_handle word) (make (length word) (word ++ replicate (8 - length word) 0)) None written.letters
    ∙ ap (λ (n : ℕ). make n (word ++ replicate (8 - n) 0)) (sym written.count)
    ∙ ap (make h.len) (sym written.bytes)

pub handle-word : (h : Handle) → IsWrittenHandle h → IsWord (handle_text h)
handle-word h written =
    let word : List ℕ = take h.len h.bytes in
    let first = and_parts (list_all is_handle_byte word && nat_le 1 (length word)) (nat_le (length word) 8) written.letters in
    let second = and_parts (list_all is_handle_byte word) (nat_le 1 (length word)) first.0 in
    let some : 1 ≤ length word = leb-true 1 (length word) second.1 in
    record { solid = all_weaker is_handle_byte is_solid_byte handle_byte_solid word second.0; some = ne_eqb (length word) 0 (λ e. omega arith) }

-- ---- numbers
each_digit : (word : List ℕ) → all_ascii_digits word ≡ true → list_all is_ascii_digit word ≡ true
each_digit [] h = refl
each_digit (c ∷ cs) h =
    let parts = and_parts (is_ascii_digit c) (all_ascii_digits cs) h in
    and_from (is_ascii_digit c) (list_all is_ascii_digit cs) parts.0 (each_digit cs parts.1)

pub decimal-digits : (n : ℕ) → n < 10 ^ 18 → list_all is_ascii_digit (decimal n) ≡ true
decimal-digits n small = each_digit (decimal n) (digits_decimal own n (omega arith))

decimal-front : (n : ℕ) → n < 10 ^ 18 → ((length (decimal n) == 1) || not (slice_index (decimal n) 0 == 48)) ≡ true
decimal-front zero small = or_left (length (decimal 0) == 1) _ (ap (λ (l : List ℕ). length l == 1) (decimal_digit 0 (omega arith)))
decimal-front (suc n) small =
    let above = first_decimal (suc n) (omega arith) (omega arith) in
    or_right (length (decimal (suc n)) == 1) _ (not_from_false (slice_index (decimal (suc n)) 0 == 48) (ne_eqb (slice_index (decimal (suc n)) 0) 48 (λ e. omega arith)))

decimal-number : (n : ℕ) → n < 10 ^ 18 → is_number (decimal n) ≡ true
decimal-number n small =
    let some : 1 ≤ length (decimal n) = decimal_nonempty n (omega arith) in
    let few : length (decimal n) ≤ 18 = length-decimal-le 18 n (omega arith) small (omega arith) in
    and_from _ _ (and_from _ _ (and_from _ _ (decimal-digits n small) (le-leb 1 (length (decimal n)) some)) (le-leb (length (decimal n)) 18 few)) (decimal-front n small)

pub number-back : (n : ℕ) → n < 10 ^ 18 → number_in (decimal n) ≡ Some n
unfolding number_in
number-back n small = cond-true (is_number (decimal n)) (Some (digits_value 10 (decimal n))) None (decimal-number n small) ∙ ap Some (digits_value-decimal own n (omega arith))

digit_solid : (b : ℕ) → is_ascii_digit b ≡ true → is_solid_byte b ≡ true
digit_solid b h = above_blank b 48 (leb-true 48 b (and_parts (nat_le 48 b) (nat_le b 57) h).0) (omega arith)

pub number-word : (n : ℕ) → n < 10 ^ 18 → IsWord (decimal n)
number-word n small =
    let some : 1 ≤ length (decimal n) = decimal_nonempty n (omega arith) in
    record { solid = all_weaker is_ascii_digit is_solid_byte digit_solid (decimal n) (decimal-digits n small); some = ne_eqb (length (decimal n)) 0 (λ e. omega arith) }

pub signed-back : (z : ℤ) → distance z < 10 ^ 18 → signed_in (signed_decimal z) ≡ Some z
signed-back (pos n) small =
    let some : 0 < length (decimal n) = decimal_nonempty n (omega arith) in
    let first = passes_at is_ascii_digit (decimal n) 0 0 (decimal-digits n small) some in
    let low : 48 ≤ get_or (decimal n) 0 0 = leb-true 48 (get_or (decimal n) 0 0) (and_parts (nat_le 48 (get_or (decimal n) 0 0)) (nat_le (get_or (decimal n) 0 0) 57) first).0 in
    signed_in-plain (decimal n) some (λ e. omega arith) ∙ ap (option_map (λ k. pos k)) (number-back n small)
signed-back (negsuc n) small = signed_in-minus (45 ∷ decimal (suc n)) (omega arith) refl ∙ ap (option_map less) (number-back (suc n) small)

pub signed-word : (z : ℤ) → distance z < 10 ^ 18 → IsWord (signed_decimal z)
signed-word (pos n) small = number-word n small
signed-word (negsuc n) small = record { solid = (number-word (suc n) small).solid; some = ne_eqb (length (45 ∷ decimal (suc n))) 0 (λ e. omega arith) }
