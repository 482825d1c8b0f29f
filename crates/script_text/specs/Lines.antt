-- A script's bytes as lines, and a line as words.
use Rattle.std.specs.Prelude.{ℕ, List, [], ◌∷◌, length, Bool, true, false, ◌&&◌, ◌==◌, nat_le, if◌then◌else◌}
use Rattle.std.specs.List.{list_all}

-- a line as it stands, and whether a byte 10 ends it, which the last line of a script may lack
pub record Line : Type 0 where
  pub bytes : List ℕ
  pub is_ended : Bool

-- a byte more in front of the first line, which is a line without an end where there was none
abbrev pub with_front : ℕ → List Line → List Line
with_front b [] = record { bytes = b ∷ []; is_ended = false } ∷ []
with_front b (line ∷ lines) = record line { bytes = b ∷ line.bytes } ∷ lines

-- the lines of a script, cut at each byte 10
unfoldable pub lines_of : List ℕ → List Line
lines_of [] = []
lines_of (b ∷ bytes) = if b == 10 then record { bytes = []; is_ended = true } ∷ lines_of bytes else with_front b (lines_of bytes)

-- the bytes without a byte 13 at their end
unfoldable pub without_return : List ℕ → List ℕ
without_return [] = []
without_return (b ∷ bytes) = if (length bytes == 0) && (b == 13) then [] else b ∷ without_return bytes

-- the text of a line: a byte 13 before the byte 10 that ends it is dropped
abbrev pub text_of : Line → List ℕ
text_of line = if line.is_ended then without_return line.bytes else line.bytes

-- a text is bytes 32 to 126, and has at most 400,000 of them
abbrev pub longest_line : ℕ
longest_line = 400000

abbrev pub is_text_byte : ℕ → Bool
is_text_byte b = nat_le 32 b && nat_le b 126

abbrev pub is_text : List ℕ → Bool
is_text text = list_all is_text_byte text && nat_le (length text) longest_line

-- the words of a text, which blanks part: a byte more in front of the first word, and no word between two blanks
abbrev pub is_blank : ℕ → Bool
is_blank b = b == 32

-- the first word of a text that begins with none, or what is left of the one that it begins in
unfoldable pub first_word : List ℕ → List ℕ
first_word [] = []
first_word (b ∷ text) = if is_blank b then [] else b ∷ first_word text

-- the words of a text; `inside` where it goes on in a word that has begun
unfoldable pub words_from : Bool → List ℕ → List (List ℕ)
words_from inside [] = []
words_from inside (b ∷ text) =
    if is_blank b then words_from false text
    else if inside then words_from true text
    else (b ∷ first_word text) ∷ words_from true text

abbrev pub words_of : List ℕ → List (List ℕ)
words_of text = words_from false text
