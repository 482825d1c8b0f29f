-- What a call is printed as is a text: it has bytes 32 to 126 alone.
use Rattle.std.proofs.Common.{◌≡◌, ◌≤◌, ◌<◌, ◌^◌, ◌/◌, ◌%◌, ℕ, suc, List, [], ◌∷◌, ◌++◌, length, take, refl, sym, ◌∙◌, arith, Bool, true, false, ◌&&◌, not, inl, inr, subst}
use Rattle.std.specs.Prelude.{◌==◌, codes, nat_le, decimal, flat_map, ℤ, pos, negsuc}
use Rattle.std.specs.Char.{is_ascii_digit}
use Rattle.std.specs.Fmt.{signed_decimal}
use Rattle.std.specs.List.{All, list_all}
use Rattle.std.proofs.lemmas.Bool.{and_from, and_parts, cases_Bool, le-leb, leb-true, or_cases}
use Rattle.std.proofs.lemmas.List.Elements.{All-head}
use Rattle.std.proofs.lemmas.List.Folds.{list_all-append}
use Rattle.layout_model.specs.Lines.{is_name_byte}
use Rattle.layout_model.specs.Spelling.{AreSpelled, is_spelled}
use Rattle.posix_types.specs.declared.call.Call.{Call}
use Rattle.posix_types.specs.declared.handle.Flags.{Flags}
use Rattle.posix_types.specs.declared.handle.Handle.{Handle}
use Rattle.posix_types.specs.declared.handle.Whence.{Whence}
use Rattle.posix_spec.specs.posix_tables.Places.{printed}
use Rattle.report_text.specs.Texts.{call_text, data_text, flags_text, handle_text, hex_byte, hex_digit, is_short, letter_if, whence_text}
use Rattle.script_text.specs.Lines.{is_text_byte}
use Rattle.script_text.specs.Words.{is_handle_byte, is_hex_digit}
use Rattle.script_text.specs.Written.{distance, IsWritten, IsWrittenData, IsWrittenHandle}
use Rattle.script_text.proofs.DataBack.{data_text-pairs, data_text-short, digit_is, pairs_are, repeat_text}
use Rattle.script_text.proofs.PartsBack.{all_spelled, all_weaker, behind_slashes, decimal-digits, printed-cons, spelled_bytes}

abbrev pub IsOfText : List ℕ → Type 0
IsOfText bytes = list_all is_text_byte bytes ≡ true

byte_within : (b low high : ℕ) → 32 ≤ low → high ≤ 126 → low ≤ b → b ≤ high → is_text_byte b ≡ true
byte_within b low high above below from to = and_from (nat_le 32 b) (nat_le b 126) (le-leb 32 b (omega arith)) (le-leb b 126 (omega arith))

pub joined : (a b : List ℕ) → IsOfText a → IsOfText b → IsOfText (a ++ b)
joined a b ha hb = list_all-append is_text_byte a b ∙ and_from (list_all is_text_byte a) (list_all is_text_byte b) ha hb

-- a word, a blank and another word
two : (a b : List ℕ) → IsOfText a → IsOfText b → IsOfText ((a ++ 32 ∷ []) ++ b)
two a b ha hb = joined (a ++ 32 ∷ []) b (joined a (32 ∷ []) ha refl) hb

three : (a b c : List ℕ) → IsOfText a → IsOfText b → IsOfText c → IsOfText ((((a ++ 32 ∷ []) ++ b) ++ 32 ∷ []) ++ c)
three a b c ha hb hc = two ((a ++ 32 ∷ []) ++ b) c (two a b ha hb) hc

-- ---- paths
name_byte : (b : ℕ) → is_name_byte b ≡ true → is_text_byte b ≡ true
name_byte b h =
    let parts = and_parts (nat_le 33 b) (nat_le b 126) (and_parts (nat_le 33 b && nat_le b 126) (not (b == 47)) h).0 in
    byte_within b 33 126 (omega arith) (omega arith) (leb-true 33 b parts.0) (leb-true b 126 parts.1)

steps : (path : List (List ℕ)) → list_all is_spelled path ≡ true → IsOfText (behind_slashes path)
steps [] h = refl
steps (name ∷ path) h =
    let parts = and_parts (is_spelled name) (list_all is_spelled path) h in
    joined (47 ∷ name) (behind_slashes path) (all_weaker is_name_byte is_text_byte name_byte name (spelled_bytes name parts.0)) (steps path parts.1)

path : (path : List (List ℕ)) → AreSpelled path → IsOfText (printed path)
path [] h = refl
path (name ∷ rest) h = subst IsOfText (sym (printed-cons name rest)) (steps (name ∷ rest) (all_spelled (name ∷ rest) h))

-- ---- handles and numbers
handle_byte : (b : ℕ) → is_handle_byte b ≡ true → is_text_byte b ≡ true
handle_byte b h =
    elim (or_cases (nat_le 97 b && nat_le b 122) (nat_le 48 b && nat_le b 57) h) [
      | inl letter ↦ (let parts = and_parts (nat_le 97 b) (nat_le b 122) letter in byte_within b 97 122 (omega arith) (omega arith) (leb-true 97 b parts.0) (leb-true b 122 parts.1))
      | inr digit ↦ (let parts = and_parts (nat_le 48 b) (nat_le b 57) digit in byte_within b 48 57 (omega arith) (omega arith) (leb-true 48 b parts.0) (leb-true b 57 parts.1))
    ]

handle : (h : Handle) → IsWrittenHandle h → IsOfText (handle_text h)
handle h written =
    let word : List ℕ = take h.len h.bytes in
    let first = and_parts (list_all is_handle_byte word && nat_le 1 (length word)) (nat_le (length word) 8) written.letters in
    let second = and_parts (list_all is_handle_byte word) (nat_le 1 (length word)) first.0 in
    all_weaker is_handle_byte is_text_byte handle_byte word second.0

digit_byte : (b : ℕ) → is_ascii_digit b ≡ true → is_text_byte b ≡ true
digit_byte b h = let parts = and_parts (nat_le 48 b) (nat_le b 57) h in byte_within b 48 57 (omega arith) (omega arith) (leb-true 48 b parts.0) (leb-true b 57 parts.1)

number : (n : ℕ) → n < 10 ^ 18 → IsOfText (decimal n)
number n small = all_weaker is_ascii_digit is_text_byte digit_byte (decimal n) (decimal-digits n small)

signed : (z : ℤ) → distance z < 10 ^ 18 → IsOfText (signed_decimal z)
signed (pos n) small = number n small
signed (negsuc n) small = joined (45 ∷ []) (decimal (suc n)) refl (number (suc n) small)

-- ---- flags
letter : (is_set : Bool) (text : List ℕ) → IsOfText text → IsOfText (letter_if is_set text)
letter true text h = h
letter false text h = refl

flags : (f : Flags) → IsOfText (flags_text f)
unfolding flags_text
flags f =
    let r : List ℕ = letter_if f.read (codes "r") in
    let w : List ℕ = letter_if f.write (codes "w") in
    let a : List ℕ = letter_if f.append (codes "a") in
    let c : List ℕ = letter_if f.create (codes "c") in
    let x : List ℕ = letter_if f.exclusive (codes "x") in
    let t : List ℕ = letter_if f.truncate (codes "t") in
    let two = joined r w (letter f.read (codes "r") refl) (letter f.write (codes "w") refl) in
    let three = joined (r ++ w) a two (letter f.append (codes "a") refl) in
    let four = joined (r ++ w ++ a) c three (letter f.create (codes "c") refl) in
    let five = joined (r ++ w ++ a ++ c) x four (letter f.exclusive (codes "x") refl) in
    joined (r ++ w ++ a ++ c ++ x) t five (letter f.truncate (codes "t") refl)

whence : (w : Whence) → IsOfText (whence_text w)
whence Whence.Set = refl
whence Whence.Cur = refl
whence Whence.End = refl

-- ---- data
hex_byte_is : (b : ℕ) → is_hex_digit b ≡ true → is_text_byte b ≡ true
hex_byte_is b h =
    elim (or_cases (nat_le 48 b && nat_le b 57) (nat_le 97 b && nat_le b 102) h) [
      | inl digit ↦ (let parts = and_parts (nat_le 48 b) (nat_le b 57) digit in byte_within b 48 57 (omega arith) (omega arith) (leb-true 48 b parts.0) (leb-true b 57 parts.1))
      | inr letter ↦ (let parts = and_parts (nat_le 97 b) (nat_le b 102) letter in byte_within b 97 102 (omega arith) (omega arith) (leb-true 97 b parts.0) (leb-true b 102 parts.1))
    ]

data_is : (x : List ℕ) → IsWrittenData x → IsOfText (data_text x)
unfolding data_text
data_is [] h = refl
data_is (b ∷ x) h =
    let small = All-head (λ (byte : ℕ). byte < 256) b x h.each in
    elim (cases_Bool (is_short (b ∷ x))) [
      | inl short ↦
          subst IsOfText (sym (data_text-short b x short))
          (and_from _ _ (hex_byte_is (hex_digit (b / 16)) (digit_is (b / 16) (omega arith)))
          (and_from _ _ (hex_byte_is (hex_digit (b % 16)) (digit_is (b % 16) (omega arith)))
          (and_from _ (list_all is_text_byte (decimal (length (b ∷ x)))) refl (number (length (b ∷ x)) (let few = h.few in omega arith)))))
      | inr long ↦ subst IsOfText (sym (data_text-pairs b x long)) (all_weaker is_hex_digit is_text_byte hex_byte_is (flat_map hex_byte (b ∷ x)) (pairs_are (b ∷ x) h.each))
    ]

-- ---- calls
pub call-text : (call : Call) → IsWritten call → IsOfText (call_text call)
unfolding call_text
call-text (Call.Mkdir a) h = joined (codes "mkdir ") (printed a) refl (path a h)
call-text (Call.Rmdir a) h = joined (codes "rmdir ") (printed a) refl (path a h)
call-text (Call.Unlink a) h = joined (codes "unlink ") (printed a) refl (path a h)
call-text (Call.Rename a b) h = two (codes "rename " ++ printed a) (printed b) (joined (codes "rename ") (printed a) refl (path a h.0)) (path b h.1)
call-text (Call.Open a b c) h =
    three (codes "open " ++ handle_text a) (printed b) (flags_text c) (joined (codes "open ") (handle_text a) refl (handle a h.0)) (path b h.1) (flags c)
call-text (Call.Close a) h = joined (codes "close ") (handle_text a) refl (handle a h)
call-text (Call.Dup a b) h = two (codes "dup " ++ handle_text a) (handle_text b) (joined (codes "dup ") (handle_text a) refl (handle a h.0)) (handle b h.1)
call-text (Call.Read a b) h = two (codes "read " ++ handle_text a) (decimal b) (joined (codes "read ") (handle_text a) refl (handle a h.0)) (number b h.1)
call-text (Call.Pread a b c) h =
    three (codes "pread " ++ handle_text a) (decimal b) (decimal c) (joined (codes "pread ") (handle_text a) refl (handle a h.0)) (number b h.1) (number c h.2)
call-text (Call.Write a b) h = two (codes "write " ++ handle_text a) (data_text b) (joined (codes "write ") (handle_text a) refl (handle a h.0)) (data_is b h.1)
call-text (Call.Pwrite a b c) h =
    three (codes "pwrite " ++ handle_text a) (decimal b) (data_text c) (joined (codes "pwrite ") (handle_text a) refl (handle a h.0)) (number b h.1) (data_is c h.2)
call-text (Call.Seek a b c) h =
    three (codes "seek " ++ handle_text a) (whence_text b) (signed_decimal c) (joined (codes "seek ") (handle_text a) refl (handle a h.0)) (whence b) (signed c h.1)
call-text (Call.Truncate a b) h = two (codes "truncate " ++ handle_text a) (decimal b) (joined (codes "truncate ") (handle_text a) refl (handle a h.0)) (number b h.1)
call-text (Call.Fsync a) h = joined (codes "fsync ") (handle_text a) refl (handle a h)
call-text (Call.Stat a) h = joined (codes "stat ") (printed a) refl (path a h)
call-text (Call.List a) h = joined (codes "list ") (printed a) refl (path a h)
