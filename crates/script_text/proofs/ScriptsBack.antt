-- Scripts are read as they are printed.
use Rattle.std.proofs.Common.{◌≡◌, ◌≤◌, ◌<◌, ◌+◌, ℕ, zero, suc, List, [], ◌∷◌, ◌++◌, length, get_or, take, refl, sym, ◌∙◌, ap, arith, add-one, Bool, true, false, not, ◌&&◌, ◌||◌, Some, None, append_assoc, cond}
use Rattle.std.specs.Prelude.{◌==◌, codes, count_by, flat_map, map, nat_le, sum_by}
use Rattle.std.specs.List.{All, list_all, list_any}
use Rattle.std.proofs.lemmas.Bool.{and_parts, and_right, cond-true, le-leb, leb-true, lt-leb, ne_eqb}
use Rattle.std.proofs.lemmas.List.Elements.{All-head, All-tail}
use Rattle.std.proofs.lemmas.List.Sums.{sum_by-append, sum_by-cons}
use Rattle.posix_types.specs.declared.call.Call.{Call}
use Rattle.posix_types.specs.Scripts.{Scripts}
use Rattle.posix_spec.specs.posix_tables.Places.{printed}
use Rattle.report_text.specs.Scripts.{call_line, calls_text, scripts_text, thread_text}
use Rattle.report_text.specs.Texts.{call_text, data_text, flags_text, handle_text, whence_text}
use Rattle.std.specs.Prelude.{decimal}
use Rattle.std.specs.Fmt.{signed_decimal}
use Rattle.script_text.specs.Calls.{call_in, is_known}
use Rattle.script_text.specs.declared.kinds.Kind.{Kind}
use Rattle.script_text.specs.declared.kinds.Kind.TheVariants.{Calls, Passed, SetUp, Thread, Unread}
use Rattle.script_text.specs.Known.{word_of}
use Rattle.script_text.specs.Laws.{IsWithinLimits}
use Rattle.script_text.specs.Lines.{first_word, is_text, is_text_byte, Line, lines_of, longest_line, text_of, with_front, without_return, words_from, words_of}
use Rattle.script_text.specs.Scripts.{bad_line, begins_with_call, breaks, breaks_at, call_kind, calls_before, calls_in, first_bad, is_call, is_comment, is_passed, is_thread, kind_of, kinds_of, longest_script, most_calls, most_threads, scripts_in, scripts_of, set_up_of, text_kind, threads_in, threads_of, words_kind}
use Rattle.script_text.specs.Written.{AreWritten, IsReadBack, IsWritten, IsWrittenLine}
use Rattle.script_text.proofs.CallsBack.{call-back, whence-word}
use Rattle.script_text.proofs.DataBack.{data-word}
use Rattle.script_text.proofs.FirstBad.{first_bad-none}
use Rattle.script_text.proofs.FlagsBack.{flags-word}
use Rattle.script_text.proofs.LinesRead.{bad_line-short}
use Rattle.script_text.proofs.PartsBack.{handle-word, number-word, path-word, signed-word}
use Rattle.script_text.proofs.TextsBack.{call-text, IsOfText}
use Rattle.script_text.proofs.WordsBack.{one_word, three_words, two_words}

-- ---- a line
no_end : (b : ℕ) → is_text_byte b ≡ true → (b == 10) ≡ false
no_end b h = ne_eqb b 10 (λ e. let low = leb-true 32 b (and_parts (nat_le 32 b) (nat_le b 126) h).0 in omega arith)

no_return : (b : ℕ) → is_text_byte b ≡ true → (b == 13) ≡ false
no_return b h = ne_eqb b 13 (λ e. let low = leb-true 32 b (and_parts (nat_le 32 b) (nat_le b 126) h).0 in omega arith)

abbrev ended : List ℕ → Line
ended text = record { bytes = text; is_ended = true }

line-more : (text rest : List ℕ) → IsOfText text → lines_of (text ++ 10 ∷ rest) ≡ ended text ∷ lines_of rest
unfolding lines_of
line-more [] rest h = refl
line-more (b ∷ text) rest h =
    let parts = and_parts (is_text_byte b) (list_all is_text_byte text) h in
    rw (no_end b parts.0) (ap (with_front b) (line-more text rest parts.1))

plain : (text : List ℕ) → IsOfText text → without_return text ≡ text
unfolding without_return
plain [] h = refl
plain (b ∷ text) h =
    let parts = and_parts (is_text_byte b) (list_all is_text_byte text) h in
    rw (and_right (length text == 0) (b == 13) (no_return b parts.0)) (ap (λ (l : List ℕ). b ∷ l) (plain text parts.1))

kinds-more : (text rest : List ℕ) (kind : Kind) → IsOfText text → text_kind text ≡ kind → kinds_of (text ++ 10 ∷ rest) ≡ kind ∷ kinds_of rest
kinds-more text rest kind h is =
    ap (map kind_of) (line-more text rest h) ∙ ap (λ (k : Kind). k ∷ kinds_of rest) (ap text_kind (plain text h) ∙ is)

-- ---- a call: its word, and one more at least
record HasWords (call : Call) : Type 0 where
  first : List ℕ
  rest : List (List ℕ)
  words : words_of (call_text call) ≡ word_of call ∷ first ∷ rest

has_words : (call : Call) → IsWritten call → HasWords call
unfolding call_text words_from first_word
has_words (Call.Mkdir a) h = record { first = printed a; rest = []; words = ap (λ (words : List (List ℕ)). codes "mkdir" ∷ words) (one_word (printed a) (path-word a h)) }
has_words (Call.Rmdir a) h = record { first = printed a; rest = []; words = ap (λ (words : List (List ℕ)). codes "rmdir" ∷ words) (one_word (printed a) (path-word a h)) }
has_words (Call.Unlink a) h = record { first = printed a; rest = []; words = ap (λ (words : List (List ℕ)). codes "unlink" ∷ words) (one_word (printed a) (path-word a h)) }
has_words (Call.Close a) h = record { first = handle_text a; rest = []; words = ap (λ (words : List (List ℕ)). codes "close" ∷ words) (one_word (handle_text a) (handle-word a h)) }
has_words (Call.Fsync a) h = record { first = handle_text a; rest = []; words = ap (λ (words : List (List ℕ)). codes "fsync" ∷ words) (one_word (handle_text a) (handle-word a h)) }
has_words (Call.Stat a) h = record { first = printed a; rest = []; words = ap (λ (words : List (List ℕ)). codes "stat" ∷ words) (one_word (printed a) (path-word a h)) }
has_words (Call.List a) h = record { first = printed a; rest = []; words = ap (λ (words : List (List ℕ)). codes "list" ∷ words) (one_word (printed a) (path-word a h)) }
has_words (Call.Rename a b) h = record { first = printed a; rest = printed b ∷ []; words = ap (λ (words : List (List ℕ)). codes "rename" ∷ words) (two_words (printed a) (printed b) (path-word a h.0) (path-word b h.1)) }
has_words (Call.Dup a b) h = record { first = handle_text a; rest = handle_text b ∷ []; words = ap (λ (words : List (List ℕ)). codes "dup" ∷ words) (two_words (handle_text a) (handle_text b) (handle-word a h.0) (handle-word b h.1)) }
has_words (Call.Read a b) h = record { first = handle_text a; rest = decimal b ∷ []; words = ap (λ (words : List (List ℕ)). codes "read" ∷ words) (two_words (handle_text a) (decimal b) (handle-word a h.0) (number-word b h.1)) }
has_words (Call.Write a b) h = record { first = handle_text a; rest = data_text b ∷ []; words = ap (λ (words : List (List ℕ)). codes "write" ∷ words) (two_words (handle_text a) (data_text b) (handle-word a h.0) (data-word b h.1)) }
has_words (Call.Truncate a b) h = record { first = handle_text a; rest = decimal b ∷ []; words = ap (λ (words : List (List ℕ)). codes "truncate" ∷ words) (two_words (handle_text a) (decimal b) (handle-word a h.0) (number-word b h.1)) }
has_words (Call.Open a b c) h = record { first = handle_text a; rest = printed b ∷ flags_text c ∷ []; words = ap (λ (words : List (List ℕ)). codes "open" ∷ words) (three_words (handle_text a) (printed b) (flags_text c) (handle-word a h.0) (path-word b h.1) (flags-word c h.2)) }
has_words (Call.Pread a b c) h = record { first = handle_text a; rest = decimal b ∷ decimal c ∷ []; words = ap (λ (words : List (List ℕ)). codes "pread" ∷ words) (three_words (handle_text a) (decimal b) (decimal c) (handle-word a h.0) (number-word b h.1) (number-word c h.2)) }
has_words (Call.Pwrite a b c) h = record { first = handle_text a; rest = decimal b ∷ data_text c ∷ []; words = ap (λ (words : List (List ℕ)). codes "pwrite" ∷ words) (three_words (handle_text a) (decimal b) (data_text c) (handle-word a h.0) (number-word b h.1) (data-word c h.2)) }
has_words (Call.Seek a b c) h = record { first = handle_text a; rest = whence_text b ∷ signed_decimal c ∷ []; words = ap (λ (words : List (List ℕ)). codes "seek" ∷ words) (three_words (handle_text a) (whence_text b) (signed_decimal c) (handle-word a h.0) (whence-word b) (signed-word c h.1)) }

-- the word of a call begins no comment, and is in the table
record IsPlainWord (word : List ℕ) : Type 0 where
  no_comment : is_comment word ≡ false
  known : is_known word ≡ true

plain_word : (call : Call) → IsPlainWord (word_of call)
plain_word (Call.Mkdir a) = record { no_comment = refl; known = refl }
plain_word (Call.Rmdir a) = record { no_comment = refl; known = refl }
plain_word (Call.Unlink a) = record { no_comment = refl; known = refl }
plain_word (Call.Rename a b) = record { no_comment = refl; known = refl }
plain_word (Call.Open a b c) = record { no_comment = refl; known = refl }
plain_word (Call.Close a) = record { no_comment = refl; known = refl }
plain_word (Call.Dup a b) = record { no_comment = refl; known = refl }
plain_word (Call.Read a b) = record { no_comment = refl; known = refl }
plain_word (Call.Pread a b c) = record { no_comment = refl; known = refl }
plain_word (Call.Write a b) = record { no_comment = refl; known = refl }
plain_word (Call.Pwrite a b c) = record { no_comment = refl; known = refl }
plain_word (Call.Seek a b c) = record { no_comment = refl; known = refl }
plain_word (Call.Truncate a b) = record { no_comment = refl; known = refl }
plain_word (Call.Fsync a) = record { no_comment = refl; known = refl }
plain_word (Call.Stat a) = record { no_comment = refl; known = refl }
plain_word (Call.List a) = record { no_comment = refl; known = refl }

-- words with one more behind a plain one are no heading
words-kind : (word first : List ℕ) (rest : List (List ℕ)) → IsPlainWord word → words_kind (word ∷ first ∷ rest) ≡ call_kind (call_in (word ∷ first ∷ rest))
words-kind word first rest h = let more : (length (first ∷ rest) == 0) ≡ false = ne_eqb (length (first ∷ rest)) 0 (λ e. omega arith) in rw (h.no_comment, h.known, more) refl

call-kind : (call : Call) → IsWrittenLine call → text_kind (call_text call) ≡ Calls call
unfolding text_kind
call-kind call h =
    let w = has_words call h.0 in
    let short : nat_le (length (call_text call)) longest_line ≡ true = le-leb (length (call_text call)) longest_line h.1 in
    let text : is_text (call_text call) ≡ true = rw (call-text call h.0, short) refl in
    cond-true (is_text (call_text call)) (words_kind (words_of (call_text call))) Unread text
    ∙ ap words_kind w.words
    ∙ words-kind (word_of call) w.first w.rest (plain_word call)
    ∙ ap call_kind (ap call_in (sym w.words) ∙ call-back call h.0)

-- ---- calls, threads and scripts
abbrev kinds_of_calls : List Call → List Kind
kinds_of_calls calls = map (λ call. Calls call) calls

calls-kinds : (calls : List Call) (rest : List ℕ) → All IsWrittenLine calls → kinds_of (calls_text calls ++ rest) ≡ kinds_of_calls calls ++ kinds_of rest
calls-kinds [] rest h = refl
calls-kinds (call ∷ calls) rest h =
    let here = All-head IsWrittenLine call calls h in
    let apart : calls_text (call ∷ calls) ++ rest ≡ call_text call ++ 10 ∷ (calls_text calls ++ rest) =
    append_assoc (call_line call) (calls_text calls) rest ∙ append_assoc (call_text call) (10 ∷ []) (calls_text calls ++ rest) in
    ap kinds_of apart
    ∙ kinds-more (call_text call) (calls_text calls ++ rest) (Calls call) (call-text call here.0) (call-kind call here)
    ∙ ap (λ (kinds : List Kind). Calls call ∷ kinds) (calls-kinds calls rest (All-tail IsWrittenLine call calls h))

abbrev AreWrittenLines : List Call → Type 0
AreWrittenLines calls = All IsWrittenLine calls

kinds_of_threads : List (List Call) → List Kind
kinds_of_threads [] = []
kinds_of_threads (calls ∷ threads) = Thread ∷ (kinds_of_calls calls ++ kinds_of_threads threads)

thread-heading : text_kind (codes "thread") ≡ Thread
unfolding text_kind words_from first_word
thread-heading = refl

setup-heading : text_kind (codes "setup") ≡ SetUp
unfolding text_kind words_from first_word
setup-heading = refl

threads-kinds : (threads : List (List Call)) → All AreWrittenLines threads → kinds_of (flat_map thread_text threads) ≡ kinds_of_threads threads
unfolding lines_of kinds_of_threads
threads-kinds [] h = refl
threads-kinds (calls ∷ threads) h =
    kinds-more (codes "thread") (calls_text calls ++ flat_map thread_text threads) Thread refl thread-heading
    ∙ ap (λ (kinds : List Kind). Thread ∷ kinds)
    (calls-kinds calls (flat_map thread_text threads) (All-head AreWrittenLines calls threads h)
    ∙ ap (λ (kinds : List Kind). kinds_of_calls calls ++ kinds) (threads-kinds threads (All-tail AreWrittenLines calls threads h)))

-- the kinds of all lines but the first
abbrev behind_setup : Scripts → List Kind
behind_setup scripts = kinds_of_calls scripts.setup ++ kinds_of_threads scripts.threads

scripts-kinds : (scripts : Scripts) → AreWritten scripts → kinds_of (scripts_text scripts) ≡ SetUp ∷ behind_setup scripts
unfolding scripts_text
scripts-kinds scripts h =
    ap kinds_of (append_assoc (codes "setup\n") (calls_text scripts.setup) (flat_map thread_text scripts.threads))
    ∙ kinds-more (codes "setup") (calls_text scripts.setup ++ flat_map thread_text scripts.threads) SetUp refl setup-heading
    ∙ ap (λ (kinds : List Kind). SetUp ∷ kinds)
    (calls-kinds scripts.setup (flat_map thread_text scripts.threads) h.setup
    ∙ ap (λ (kinds : List Kind). kinds_of_calls scripts.setup ++ kinds) (threads-kinds scripts.threads h.threads))

-- ---- what is read of them
calls-before : (calls : List Call) (threads : List (List Call)) → calls_before (kinds_of_calls calls ++ kinds_of_threads threads) ≡ calls
unfolding calls_before kinds_of_threads
calls-before [] [] = refl
calls-before [] (calls ∷ threads) = refl
calls-before (call ∷ calls) threads = ap (λ (l : List Call). call ∷ l) (calls-before calls threads)

threads-behind : (calls : List Call) (kinds : List Kind) → threads_of (kinds_of_calls calls ++ kinds) ≡ threads_of kinds
unfolding threads_of
threads-behind [] kinds = refl
threads-behind (call ∷ calls) kinds = threads-behind calls kinds

threads-back : (threads : List (List Call)) → threads_of (kinds_of_threads threads) ≡ threads
unfolding threads_of kinds_of_threads
threads-back [] = refl
threads-back (calls ∷ threads) =
    ap (λ (l : List Call). l ∷ threads_of (kinds_of_calls calls ++ kinds_of_threads threads)) (calls-before calls threads)
    ∙ ap (λ (l : List (List Call)). calls ∷ l) (threads-behind calls (kinds_of_threads threads) ∙ threads-back threads)

same_scripts : (scripts : Scripts) → scripts_in (SetUp ∷ behind_setup scripts) ≡ scripts
unfolding scripts_in set_up_of threads_of begins_with_call
same_scripts scripts =
    ap (λ (l : List Call). record { setup = l; threads = threads_of (behind_setup scripts) }) (calls-before scripts.setup scripts.threads)
    ∙ ap (λ (l : List (List Call)). record { setup = scripts.setup; threads = l }) (threads-behind scripts.setup (kinds_of_threads scripts.threads) ∙ threads-back scripts.threads)

-- ---- no line is bad
abbrev one_if : Bool → ℕ
one_if b = cond b 1 0

-- one that passes is one more than those before it
room : (p : Kind → Bool) (kinds : List Kind) (j : ℕ) → j < length kinds → p (get_or kinds j Passed) ≡ true → count_by p (take j kinds) + 1 ≤ count_by p kinds
room p [] j within h = absurd (omega arith)
room p (kind ∷ kinds) zero within h = let more = sum_by-cons (λ (k : Kind). one_if (p k)) kind kinds in let one : one_if (p kind) ≡ 1 = rw h refl in omega arith
room p (kind ∷ kinds) (suc j) within h =
    let rest = room p kinds j (omega arith) h in
    let all = sum_by-cons (λ (k : Kind). one_if (p k)) kind kinds in
    let some = sum_by-cons (λ (k : Kind). one_if (p k)) kind (take j kinds) in
    omega arith

abbrev total : List (List Call) → ℕ
total threads = sum_by (λ calls. length calls) threads

calls-count : (calls : List Call) → count_by is_call (kinds_of_calls calls) ≡ length calls
calls-count [] = refl
calls-count (call ∷ calls) = let rest = calls-count calls in let more = sum_by-cons (λ (k : Kind). one_if (is_call k)) (Calls call) (kinds_of_calls calls) in omega arith

calls-threads : (calls : List Call) → count_by is_thread (kinds_of_calls calls) ≡ 0
calls-threads [] = refl
calls-threads (call ∷ calls) = let rest = calls-threads calls in let more = sum_by-cons (λ (k : Kind). one_if (is_thread k)) (Calls call) (kinds_of_calls calls) in omega arith

threads-calls : (threads : List (List Call)) → count_by is_call (kinds_of_threads threads) ≡ total threads
unfolding kinds_of_threads
threads-calls [] = refl
threads-calls (calls ∷ threads) =
    let rest = threads-calls threads in
    let head = sum_by-cons (λ (k : Kind). one_if (is_call k)) Thread (kinds_of_calls calls ++ kinds_of_threads threads) in
    let both = sum_by-append (λ (k : Kind). one_if (is_call k)) (kinds_of_calls calls) (kinds_of_threads threads) in
    let here = calls-count calls in
    let more = sum_by-cons (length {A = Call}) calls threads in
    omega arith

threads-count : (threads : List (List Call)) → count_by is_thread (kinds_of_threads threads) ≡ length threads
unfolding kinds_of_threads
threads-count [] = refl
threads-count (calls ∷ threads) =
    let rest = threads-count threads in
    let head = sum_by-cons (λ (k : Kind). one_if (is_thread k)) Thread (kinds_of_calls calls ++ kinds_of_threads threads) in
    let both = sum_by-append (λ (k : Kind). one_if (is_thread k)) (kinds_of_calls calls) (kinds_of_threads threads) in
    let here = calls-threads calls in
    omega arith

-- every line behind the first is a call or begins a thread
abbrev IsOfScript : Kind → Type 0
IsOfScript Passed = ⊥
IsOfScript SetUp = ⊥
IsOfScript Thread = Unit {0}
IsOfScript (Calls call) = Unit {0}
IsOfScript Unread = ⊥

calls-place : (calls : List Call) (kinds : List Kind) → ((j : ℕ) → j < length kinds → IsOfScript (get_or kinds j Passed)) → (j : ℕ) → j < length (kinds_of_calls calls ++ kinds) → IsOfScript (get_or (kinds_of_calls calls ++ kinds) j Passed)
calls-place [] kinds rest j within = rest j within
calls-place (call ∷ calls) kinds rest zero within = tt
calls-place (call ∷ calls) kinds rest (suc j) within = calls-place calls kinds rest j (omega arith)

threads-place : (threads : List (List Call)) (j : ℕ) → j < length (kinds_of_threads threads) → IsOfScript (get_or (kinds_of_threads threads) j Passed)
unfolding kinds_of_threads
threads-place [] j within = absurd (omega arith)
threads-place (calls ∷ threads) zero within = tt
threads-place (calls ∷ threads) (suc j) within = calls-place calls (kinds_of_threads threads) (threads-place threads) j (omega arith)

-- a line stands within the limits, where those before it leave room
kind-breaks : (kinds : List Kind) (kind : Kind) → IsOfScript kind → (is_thread kind ≡ true → count_by is_thread kinds + 1 ≤ 8) → (is_call kind ≡ true → count_by is_call kinds + 1 ≤ 4096) → breaks (SetUp ∷ kinds) kind ≡ false
unfolding begins_with_call
kind-breaks kinds Passed h threads calls = absurd h
kind-breaks kinds SetUp h threads calls = absurd h
kind-breaks kinds Thread h threads calls =
    let few = threads refl in
    let head = sum_by-cons (λ (k : Kind). one_if (is_thread k)) SetUp kinds in
    lt-leb 8 (threads_in (SetUp ∷ kinds)) (omega arith)
kind-breaks kinds (Calls call) h threads calls =
    let few = calls refl in
    let head = sum_by-cons (λ (k : Kind). one_if (is_call k)) SetUp kinds in
    lt-leb 4096 (calls_in (SetUp ∷ kinds)) (omega arith)
kind-breaks kinds Unread h threads calls = absurd h

none_breaks : (scripts : Scripts) → IsWithinLimits scripts → (j : ℕ) → j < length (SetUp ∷ behind_setup scripts) → breaks_at (SetUp ∷ behind_setup scripts) j ≡ false
none_breaks scripts h zero within = refl
none_breaks scripts h (suc j) within =
    let kinds : List Kind = behind_setup scripts in
    let inside : j < length kinds = omega arith in
    let threads = sum_by-append (λ (k : Kind). one_if (is_thread k)) (kinds_of_calls scripts.setup) (kinds_of_threads scripts.threads) in
    let calls = sum_by-append (λ (k : Kind). one_if (is_call k)) (kinds_of_calls scripts.setup) (kinds_of_threads scripts.threads) in
    let none = calls-threads scripts.setup in
    let some = calls-count scripts.setup in
    let more = threads-calls scripts.threads in
    let each = threads-count scripts.threads in
    kind-breaks (take j kinds) (get_or kinds j Passed) (calls-place scripts.setup (kinds_of_threads scripts.threads) (threads-place scripts.threads) j inside)
    (λ is. omega (arith, room is_thread kinds j inside is, h.threads))
    (λ is. omega (arith, room is_call kinds j inside is, h.calls))

pub scripts-back : (scripts : Scripts) → AreWritten scripts → IsReadBack scripts
scripts-back scripts h = record {
  same = ap scripts_in (scripts-kinds scripts h) ∙ same_scripts scripts;
  good =
      bad_line-short (scripts_text scripts) h.short
      ∙ ap first_bad (scripts-kinds scripts h)
      ∙ first_bad-none (SetUp ∷ behind_setup scripts) (none_breaks scripts h.limits);
}
