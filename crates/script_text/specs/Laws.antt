-- What holds of every script.
use Rattle.std.specs.Prelude.{◌≡◌, ℕ, ◌≤◌, ◌==◌, List, [], ◌∷◌, ◌++◌, length, flat_map, Bool, true, not, ◌&&◌, ◌||◌, if◌then◌else◌, Some, None}
use Rattle.std.specs.List.{list_all}
use Rattle.layout_model.specs.Spelling.{AreSpelled}
use Rattle.posix_types.specs.Scripts.{Scripts}
use Rattle.posix_spec.specs.Scripted.{call_count}
use Rattle.script_text.specs.Lines.{Line, lines_of}
use Rattle.script_text.specs.Scripts.{bad_line, most_calls, most_threads, scripts_of}
use Rattle.script_text.specs.Spelled.{AreSpelledCalls}
use Rattle.script_text.specs.Words.{path_in}

-- the names of a path that a word spells are spelled
abbrev pub PathsAreSpelled : Type 0
PathsAreSpelled = (word : List ℕ) (path : List (List ℕ)) → path_in word ≡ Some path → AreSpelled path

-- and those of all paths of a script's calls
abbrev pub ScriptsAreSpelled : Type 0
ScriptsAreSpelled = (bytes : List ℕ) → AreSpelledCalls (scripts_of bytes)

-- there are at most 8 threads and 4,096 calls, where no line is bad
pub record IsWithinLimits (scripts : Scripts) : Type 0 where
  pub threads : length scripts.threads ≤ most_threads
  pub calls : call_count scripts ≤ most_calls

abbrev pub ScriptsAreWithinLimits : Type 0
ScriptsAreWithinLimits = (bytes : List ℕ) → bad_line bytes ≡ None → IsWithinLimits (scripts_of bytes)

-- ---- lines
-- a line with the byte that ends it
abbrev pub whole_line : Line → List ℕ
whole_line line = if line.is_ended then line.bytes ++ 10 ∷ [] else line.bytes

abbrev pub has_no_end_inside : Line → Bool
has_no_end_inside line = list_all (λ b. not (b == 10)) line.bytes

-- all lines are ended, but for the last, which has some byte then
abbrev pub are_ended : List Line → Bool
are_ended [] = true
are_ended (line ∷ []) = line.is_ended || not (length line.bytes == 0)
are_ended (line ∷ next ∷ lines) = line.is_ended && are_ended (next ∷ lines)

-- the lines, one behind the other, are the bytes, cut at each byte 10
pub record AreLinesOf (bytes : List ℕ) (lines : List Line) : Type 0 where
  pub joined : flat_map whole_line lines ≡ bytes
  pub inside : list_all has_no_end_inside lines ≡ true
  pub ended : are_ended lines ≡ true

abbrev pub LinesAreCut : Type 0
LinesAreCut = (bytes : List ℕ) → AreLinesOf bytes (lines_of bytes)
