-- The words of a call: how paths, handles, flags, numbers and data are spelled.
use Rattle.std.specs.Prelude.{ℕ, zero, suc, ◌+◌, ◌*◌, ◌-◌, ◌/◌, List, [], ◌∷◌, ◌++◌, length, take, drop, codes, slice_index, replicate, Bool, false, not, ◌&&◌, ◌||◌, ◌==◌, nat_le, Option, Some, None, option_and_then, option_map, ℤ, pos, negsuc, if◌then◌else◌}
use Rattle.std.specs.Char.{is_ascii_digit}
use Rattle.std.specs.List.{list_all, list_any}
use Rattle.std.specs.Str.Parse.{digits_value}
use Rattle.layout_model.specs.Fields.{is_same}
use Rattle.layout_model.specs.Spelling.{is_spelled}
use Rattle.posix_types.specs.declared.handle.Flags.{Flags}
use Rattle.posix_types.specs.declared.handle.Handle.{Handle}
use Rattle.posix_types.specs.declared.handle.Whence.{Whence}
use Rattle.report_text.specs.Texts.{flags_text}

-- ---- parts
-- the parts of a text, which a byte parts wherever it stands
abbrev pub with_part : ℕ → List (List ℕ) → List (List ℕ)
with_part b [] = (b ∷ []) ∷ []
with_part b (part ∷ parts) = (b ∷ part) ∷ parts

unfoldable pub parts_by : ℕ → List ℕ → List (List ℕ)
parts_by s [] = [] ∷ []
parts_by s (b ∷ text) = if b == s then [] ∷ parts_by s text else with_part b (parts_by s text)

-- ---- numbers
-- a number is 1 to 18 decimal digits, and begins with 0 only where it is 0
abbrev pub is_number : List ℕ → Bool
is_number word =
    list_all is_ascii_digit word && nat_le 1 (length word) && nat_le (length word) 18 && ((length word == 1) || not (slice_index word 0 == 48))

unfoldable pub number_in : List ℕ → Option ℕ
number_in word = if is_number word then Some (digits_value 10 word) else None

-- a number, or one behind a minus sign; `-0` is 0
abbrev pub less : ℕ → ℤ
less zero = pos 0
less (suc n) = negsuc n

unfoldable pub signed_in : List ℕ → Option ℤ
signed_in [] = None
signed_in (b ∷ word) = if b == 45 then option_map less (number_in word) else option_map (λ n. pos n) (number_in (b ∷ word))

-- numbers with commas between them: each part is one
unfoldable pub numbers_of : List (List ℕ) → Option (List ℕ)
numbers_of [] = Some []
numbers_of (word ∷ words) = option_and_then (λ n. option_map (λ ns. n ∷ ns) (numbers_of words)) (number_in word)

abbrev pub numbers_in : List ℕ → Option (List ℕ)
numbers_in word = numbers_of (parts_by 44 word)

-- at most so many numbers, none of them higher than one
abbrev pub are_within : ℕ → ℕ → List ℕ → Bool
are_within most highest numbers = nat_le (length numbers) most && list_all (λ n. nat_le n highest) numbers

abbrev pub fits : ℕ → ℕ → Option (List ℕ) → Bool
fits most highest None = false
fits most highest (Some numbers) = are_within most highest numbers

-- ---- paths
abbrev pub names_in : List (List ℕ) → Option (List (List ℕ))
names_in names = if list_all is_spelled names then Some names else None

-- a path: the slash alone, or names that each have a slash before them
unfoldable pub path_in : List ℕ → Option (List (List ℕ))
path_in [] = None
path_in (b ∷ text) = if b == 47 then (if length text == 0 then Some [] else names_in (parts_by 47 text)) else None

-- ---- handles
abbrev pub is_handle_byte : ℕ → Bool
is_handle_byte b = (nat_le 97 b && nat_le b 122) || (nat_le 48 b && nat_le b 57)

-- 1 to 8 letters a to z or digits
abbrev pub is_handle : List ℕ → Bool
is_handle word = list_all is_handle_byte word && nat_le 1 (length word) && nat_le (length word) 8

unfoldable pub handle_in : List ℕ → Option Handle
handle_in word = if is_handle word then Some (record { len = length word; bytes = word ++ replicate (8 - length word) 0 }) else None

-- ---- flags
abbrev pub has_letter : List ℕ → ℕ → Bool
has_letter word letter = list_any (λ b. b == letter) word

-- the flags whose letters a word has: r 114, w 119, a 97, c 99, x 120, t 116
abbrev pub lettered : List ℕ → Flags
lettered word =
    record {
      read = has_letter word 114;
      write = has_letter word 119;
      append = has_letter word 97;
      create = has_letter word 99;
      exclusive = has_letter word 120;
      truncate = has_letter word 116;
    }

-- reading or writing; exclusive only with create; truncate only with write
abbrev pub may_open : Flags → Bool
may_open f = (f.read || f.write) && (not f.exclusive || f.create) && (not f.truncate || f.write)

-- the word is the spelling of the flags whose letters it has: each letter once, in the order r w a c x t
unfoldable pub flags_in : List ℕ → Option Flags
flags_in word = if is_same word (flags_text (lettered word)) && may_open (lettered word) then Some (lettered word) else None

unfoldable pub whence_in : List ℕ → Option Whence
whence_in word =
    if is_same word (codes "set") then Some Whence.Set
    else if is_same word (codes "cur") then Some Whence.Cur
    else if is_same word (codes "end") then Some Whence.End
    else None

-- ---- data
-- hexadecimal digits, in small letters
abbrev pub is_hex_digit : ℕ → Bool
is_hex_digit b = (nat_le 48 b && nat_le b 57) || (nat_le 97 b && nat_le b 102)

abbrev pub hex_value : ℕ → ℕ
hex_value b = if nat_le b 57 then b - 48 else b - 87

-- the bytes that pairs of digits spell; a single digit at the end spells none
unfoldable pub hex_bytes : List ℕ → List ℕ
hex_bytes [] = []
hex_bytes (a ∷ []) = []
hex_bytes (a ∷ b ∷ digits) = (16 * hex_value a + hex_value b) ∷ hex_bytes digits

abbrev pub most_data : ℕ
most_data = 1048576

abbrev pub is_even_count : List ℕ → Bool
is_even_count word = 2 * (length word / 2) == length word

-- the byte that the first two digits spell, so often
abbrev pub repeated : List ℕ → ℕ → Option (List ℕ)
repeated word n = if nat_le 1 n && nat_le n most_data then Some (replicate n (slice_index (hex_bytes (take 2 word)) 0)) else None

abbrev pub repeated_in : List ℕ → Option ℕ → Option (List ℕ)
repeated_in word None = None
repeated_in word (Some n) = repeated word n

-- `HH*N`
abbrev pub is_repeat : List ℕ → Bool
is_repeat word = nat_le 3 (length word) && list_all is_hex_digit (take 2 word) && (slice_index word 2 == 42)

-- data: `-` for no bytes; digits in pairs; or `HH*N`, a byte and how often
unfoldable pub data_in : List ℕ → Option (List ℕ)
data_in word =
    if is_same word (codes "-") then Some []
    else if is_repeat word then repeated_in word (number_in (drop 3 word))
    else if list_all is_hex_digit word && nat_le 1 (length word) && is_even_count word then Some (hex_bytes word)
    else None
