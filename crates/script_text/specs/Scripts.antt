-- The scripts of a text, and the first line that breaks the grammar.
--
-- A script is lines. A line without words, or whose first word begins with `#`, is passed over. `setup` may come once,
-- before every other heading and every call: the calls behind it are the set-up. `thread` begins the script of the next
-- thread. Calls before any heading are the script of thread 0.
use Rattle.std.specs.Prelude.{ℕ, ◌+◌, List, [], ◌∷◌, length, map, take, count_by, codes, slice_index_or, Bool, true, false, not, ◌&&◌, ◌==◌, nat_le, nat_lt, position, Option, Some, None, option_map, if◌then◌else◌}
use Rattle.std.specs.List.{list_any, range_with_len}
use Rattle.layout_model.specs.Fields.{is_same}
use Rattle.posix_types.specs.declared.call.Call.{Call}
use Rattle.posix_types.specs.Scripts.{Scripts}
use Rattle.script_text.specs.Calls.{call_in, is_known}
use Rattle.script_text.specs.declared.kinds.Kind.{Kind}
use Rattle.script_text.specs.declared.kinds.Kind.TheVariants.{Calls, Passed, SetUp, Thread, Unread}
use Rattle.script_text.specs.Lines.{is_text, Line, lines_of, text_of, words_of}

-- the limits
abbrev pub longest_script : ℕ
longest_script = 4194304

abbrev pub most_threads : ℕ
most_threads = 8

abbrev pub most_calls : ℕ
most_calls = 4096

-- a word that begins with `#`
abbrev pub is_comment : List ℕ → Bool
is_comment word = slice_index_or word 0 0 == 35

abbrev pub call_kind : Option Call → Kind
call_kind None = Unread
call_kind (Some call) = Calls call

abbrev pub words_kind : List (List ℕ) → Kind
words_kind [] = Passed
words_kind (word ∷ words) =
    if is_comment word then Passed
    else if not (is_known word) then Unread
    else if (length words == 0) && is_same word (codes "setup") then SetUp
    else if (length words == 0) && is_same word (codes "thread") then Thread
    else call_kind (call_in (word ∷ words))

-- what a text is
unfoldable pub text_kind : List ℕ → Kind
text_kind text = if is_text text then words_kind (words_of text) else Unread

abbrev pub kind_of : Line → Kind
kind_of line = text_kind (text_of line)

abbrev pub is_passed : Kind → Bool
is_passed Passed = true
is_passed SetUp = false
is_passed Thread = false
is_passed (Calls call) = false
is_passed Unread = false

abbrev pub is_thread : Kind → Bool
is_thread Passed = false
is_thread SetUp = false
is_thread Thread = true
is_thread (Calls call) = false
is_thread Unread = false

abbrev pub is_call : Kind → Bool
is_call Passed = false
is_call SetUp = false
is_call Thread = false
is_call (Calls call) = true
is_call Unread = false

-- the first kind that is not passed over is a call: thread 0 begins without a heading
unfoldable pub begins_with_call : List Kind → Bool
begins_with_call [] = false
begins_with_call (kind ∷ kinds) = if is_passed kind then begins_with_call kinds else is_call kind

-- how many threads have begun, and how many calls there are
abbrev pub threads_in : List Kind → ℕ
threads_in kinds = count_by is_thread kinds + (if begins_with_call kinds then 1 else 0)

abbrev pub calls_in : List Kind → ℕ
calls_in kinds = count_by is_call kinds

-- ---- the first line that breaks the grammar
-- a line of this kind may not stand behind these
abbrev pub breaks : List Kind → Kind → Bool
breaks before Passed = false
breaks before SetUp = list_any (λ kind. not (is_passed kind)) before
breaks before Thread = nat_le most_threads (threads_in before)
breaks before (Calls call) = nat_le most_calls (calls_in before)
breaks before Unread = true

-- line k, counted from 0
abbrev pub breaks_at : List Kind → ℕ → Bool
breaks_at kinds k = breaks (take k kinds) (slice_index_or kinds k Passed)

-- the first of them, counted from 1
unfoldable pub first_bad : List Kind → Option ℕ
first_bad kinds = option_map (λ k. k + 1) (position (breaks_at kinds) (range_with_len 0 (length kinds)))

abbrev pub kinds_of : List ℕ → List Kind
kinds_of bytes = map kind_of (lines_of bytes)

-- THE FIRST BAD LINE of a script: 0 where it has too many bytes
unfoldable pub bad_line : List ℕ → Option ℕ
bad_line bytes = if nat_lt longest_script (length bytes) then Some 0 else first_bad (kinds_of bytes)

-- ---- the scripts
-- the calls before the next heading
unfoldable pub calls_before : List Kind → List Call
calls_before [] = []
calls_before (Passed ∷ kinds) = calls_before kinds
calls_before (SetUp ∷ kinds) = []
calls_before (Thread ∷ kinds) = []
calls_before (Calls call ∷ kinds) = call ∷ calls_before kinds
calls_before (Unread ∷ kinds) = calls_before kinds

-- the calls behind each `thread`, up to the next heading
unfoldable pub threads_of : List Kind → List (List Call)
threads_of [] = []
threads_of (Passed ∷ kinds) = threads_of kinds
threads_of (SetUp ∷ kinds) = threads_of kinds
threads_of (Thread ∷ kinds) = calls_before kinds ∷ threads_of kinds
threads_of (Calls call ∷ kinds) = threads_of kinds
threads_of (Unread ∷ kinds) = threads_of kinds

-- the calls behind `setup`
unfoldable pub set_up_of : List Kind → List Call
set_up_of [] = []
set_up_of (Passed ∷ kinds) = set_up_of kinds
set_up_of (SetUp ∷ kinds) = calls_before kinds
set_up_of (Thread ∷ kinds) = set_up_of kinds
set_up_of (Calls call ∷ kinds) = set_up_of kinds
set_up_of (Unread ∷ kinds) = set_up_of kinds

-- calls before any heading are the script of thread 0
abbrev pub all_threads : List Kind → List (List Call)
all_threads kinds = if begins_with_call kinds then calls_before kinds ∷ threads_of kinds else threads_of kinds

unfoldable pub scripts_in : List Kind → Scripts
scripts_in kinds = record { setup = set_up_of kinds; threads = all_threads kinds }

-- THE SCRIPTS of a text
abbrev pub scripts_of : List ℕ → Scripts
scripts_of bytes = scripts_in (kinds_of bytes)
