-- The words of the calls of a script are in the table.
use Rattle.std.proofs.Common.{◌≡◌, ◌≤◌, ℕ, List, [], ◌∷◌, refl, Bool, true, false, cond, Option, Some, None, subst, sym, ap, ◌∙◌, length, arith}
use Rattle.std.specs.Prelude.{codes, map, not, ◌&&◌, option_map, IfSome, ◌==◌}
use Rattle.std.specs.List.{All, AllByRecursion}
use Rattle.std.proofs.lemmas.Bool.{and_parts}
use Rattle.std.proofs.lemmas.List.Elements.{All-from_recursion}
use Rattle.std.proofs.lemmas.Slice.Eq.{bytes_eq-Decides}
use Rattle.layout_model.specs.Fields.{is_same}
use Rattle.posix_types.specs.declared.call.Call.{Call}
use Rattle.script_text.specs.declared.kinds.Kind.{Kind}
use Rattle.script_text.specs.declared.kinds.Kind.TheVariants.{Calls, Passed, SetUp, Thread, Unread}
use Rattle.script_text.specs.Calls.{all_three, both, call_in, is_known, one_word_call, three_word_call, two_word_call}
use Rattle.script_text.specs.Known.{AreKnownCalls, IsKnownCall, KnownCallsAlone}
use Rattle.script_text.specs.Lines.{is_text, Line, lines_of, text_of, words_of}
use Rattle.script_text.specs.Scripts.{all_threads, begins_with_call, call_kind, calls_before, is_comment, kind_of, kinds_of, scripts_in, scripts_of, set_up_of, text_kind, threads_of, words_kind}
use Rattle.script_text.specs.Words.{data_in, flags_in, handle_in, number_in, path_in, signed_in, whence_in}

-- ---- calls
record Known (o : Option Call) : Type 0 where
  is : IfSome o IsKnownCall

chosen : (test : Bool) {x y : Option Call} → (test ≡ true → Known x) → Known y → Known (cond test x y)
chosen true h k = h refl
chosen false h k = k

some_known : {A : Type 0} (f : A → Call) (o : Option A) → ((x : A) → IsKnownCall (f x)) → Known (option_map f o)
some_known f None h = record { is = tt }
some_known f (Some x) h = record { is = h x }

both_known : {A B : Type 0} (f : A → B → Call) (a : Option A) (b : Option B) → ((x : A) (y : B) → IsKnownCall (f x y)) → Known (both f a b)
both_known f None b h = record { is = tt }
both_known f (Some x) None h = record { is = tt }
both_known f (Some x) (Some y) h = record { is = h x y }

all_known : {A B C : Type 0} (f : A → B → C → Call) (a : Option A) (b : Option B) (c : Option C) → ((x : A) (y : B) (z : C) → IsKnownCall (f x y z)) → Known (all_three f a b c)
all_known f None b c h = record { is = tt }
all_known f (Some x) None c h = record { is = tt }
all_known f (Some x) (Some y) None h = record { is = tt }
all_known f (Some x) (Some y) (Some z) h = record { is = h x y z }

-- a word of the table is the one that it is the same as
same_known : (word other : List ℕ) → is_known word ≡ true → is_same word other ≡ true → is_known other ≡ true
same_known word other known same = subst (λ w. is_known w ≡ true) ((bytes_eq-Decides word other).0 same) known

one-known : (call a : List ℕ) → is_known call ≡ true → Known (one_word_call call a)
one-known call a known =
    chosen (is_same call (codes "mkdir")) (λ e. some_known (λ p. Call.Mkdir p) (path_in a) (λ p. same_known call (codes "mkdir") known e))
    (chosen (is_same call (codes "rmdir")) (λ e. some_known (λ p. Call.Rmdir p) (path_in a) (λ p. same_known call (codes "rmdir") known e))
    (chosen (is_same call (codes "unlink")) (λ e. some_known (λ p. Call.Unlink p) (path_in a) (λ p. same_known call (codes "unlink") known e))
    (chosen (is_same call (codes "close")) (λ e. some_known (λ h. Call.Close h) (handle_in a) (λ p. same_known call (codes "close") known e))
    (chosen (is_same call (codes "fsync")) (λ e. some_known (λ h. Call.Fsync h) (handle_in a) (λ p. same_known call (codes "fsync") known e))
    (chosen (is_same call (codes "stat")) (λ e. some_known (λ p. Call.Stat p) (path_in a) (λ p. same_known call (codes "stat") known e))
    (chosen (is_same call (codes "list")) (λ e. some_known (λ p. Call.List p) (path_in a) (λ p. same_known call (codes "list") known e)) (record { is = tt })))))))

two-known : (call a b : List ℕ) → is_known call ≡ true → Known (two_word_call call a b)
two-known call a b known =
    chosen (is_same call (codes "rename")) (λ e. both_known (λ p q. Call.Rename p q) (path_in a) (path_in b) (λ p q. same_known call (codes "rename") known e))
    (chosen (is_same call (codes "dup")) (λ e. both_known (λ h g. Call.Dup h g) (handle_in a) (handle_in b) (λ h g. same_known call (codes "dup") known e))
    (chosen (is_same call (codes "read")) (λ e. both_known (λ h n. Call.Read h n) (handle_in a) (number_in b) (λ h n. same_known call (codes "read") known e))
    (chosen (is_same call (codes "write")) (λ e. both_known (λ h x. Call.Write h x) (handle_in a) (data_in b) (λ h x. same_known call (codes "write") known e))
    (chosen (is_same call (codes "truncate")) (λ e. both_known (λ h n. Call.Truncate h n) (handle_in a) (number_in b) (λ h n. same_known call (codes "truncate") known e)) (record { is = tt })))))

three-known : (call a b c : List ℕ) → is_known call ≡ true → Known (three_word_call call a b c)
three-known call a b c known =
    chosen (is_same call (codes "open")) (λ e. all_known (λ h p f. Call.Open h p f) (handle_in a) (path_in b) (flags_in c) (λ h p f. same_known call (codes "open") known e))
    (chosen (is_same call (codes "pread")) (λ e. all_known (λ h o n. Call.Pread h o n) (handle_in a) (number_in b) (number_in c) (λ h o n. same_known call (codes "pread") known e))
    (chosen (is_same call (codes "pwrite")) (λ e. all_known (λ h o x. Call.Pwrite h o x) (handle_in a) (number_in b) (data_in c) (λ h o x. same_known call (codes "pwrite") known e))
    (chosen (is_same call (codes "seek")) (λ e. all_known (λ h w i. Call.Seek h w i) (handle_in a) (whence_in b) (signed_in c) (λ h w i. same_known call (codes "seek") known e)) (record { is = tt }))))

call-known : (call : List ℕ) (words : List (List ℕ)) → is_known call ≡ true → Known (call_in (call ∷ words))
unfolding call_in
call-known call [] known = record { is = tt }
call-known call (a ∷ []) known = one-known call a known
call-known call (a ∷ b ∷ []) known = two-known call a b known
call-known call (a ∷ b ∷ c ∷ []) known = three-known call a b c known
call-known call (a ∷ b ∷ c ∷ d ∷ words) known = record { is = tt }

-- ---- lines: a call of the table, or a heading of it, or none that counts
abbrev IsOfTable : Kind → Type 0
IsOfTable Passed = Unit {0}
IsOfTable SetUp = is_known (codes "setup") ≡ true
IsOfTable Thread = is_known (codes "thread") ≡ true
IsOfTable (Calls call) = IsKnownCall call
IsOfTable Unread = Unit {0}

record OfTable (kind : Kind) : Type 0 where
  is : IsOfTable kind

kind_when : (test : Bool) {x y : Kind} → (test ≡ true → OfTable x) → (test ≡ false → OfTable y) → OfTable (cond test x y)
kind_when true h k = h refl
kind_when false h k = k refl

call_kind-known : {call : Option Call} → Known call → OfTable (call_kind call)
call_kind-known {call = None} h = record { is = tt }
call_kind-known {call = Some call} h = record { is = h.is }

not_false : (b : Bool) → not b ≡ false → b ≡ true
not_false true is = refl
not_false false is = cc

words-known : (words : List (List ℕ)) → OfTable (words_kind words)
words-known [] = record { is = tt }
words-known (word ∷ words) =
    kind_when (is_comment word) (λ e. record { is = tt })
    (λ e. kind_when (not (is_known word)) (λ e. record { is = tt })
    (λ known. kind_when ((length words == 0) && is_same word (codes "setup"))
    (λ e. record { is = same_known word (codes "setup") (not_false (is_known word) known) (and_parts (length words == 0) (is_same word (codes "setup")) e).1 })
    (λ e. kind_when ((length words == 0) && is_same word (codes "thread"))
    (λ e. record { is = same_known word (codes "thread") (not_false (is_known word) known) (and_parts (length words == 0) (is_same word (codes "thread")) e).1 })
    (λ e. call_kind-known (call-known word words (not_false (is_known word) known))))))

text-known : (text : List ℕ) → OfTable (text_kind text)
unfolding text_kind
text-known text = kind_when (is_text text) (λ e. words-known (words_of text)) (λ e. record { is = tt })

lines-known : (lines : List Line) → AllByRecursion IsOfTable (map kind_of lines)
lines-known [] = tt
lines-known (line ∷ lines) = ((text-known (text_of line)).is, lines-known lines)

-- ---- scripts
before-known : (kinds : List Kind) → AllByRecursion IsOfTable kinds → AllByRecursion IsKnownCall (calls_before kinds)
unfolding calls_before
before-known [] h = tt
before-known (Passed ∷ kinds) h = before-known kinds h.1
before-known (SetUp ∷ kinds) h = tt
before-known (Thread ∷ kinds) h = tt
before-known (Calls call ∷ kinds) h = (h.0, before-known kinds h.1)
before-known (Unread ∷ kinds) h = before-known kinds h.1

abbrev AllKnown : List Call → Type 0
AllKnown calls = All IsKnownCall calls

threads-known : (kinds : List Kind) → AllByRecursion IsOfTable kinds → AllByRecursion AllKnown (threads_of kinds)
unfolding threads_of
threads-known [] h = tt
threads-known (Passed ∷ kinds) h = threads-known kinds h.1
threads-known (SetUp ∷ kinds) h = threads-known kinds h.1
threads-known (Thread ∷ kinds) h = (All-from_recursion IsKnownCall (calls_before kinds) (before-known kinds h.1), threads-known kinds h.1)
threads-known (Calls call ∷ kinds) h = threads-known kinds h.1
threads-known (Unread ∷ kinds) h = threads-known kinds h.1

set_up-known : (kinds : List Kind) → AllByRecursion IsOfTable kinds → AllByRecursion IsKnownCall (set_up_of kinds)
unfolding set_up_of
set_up-known [] h = tt
set_up-known (Passed ∷ kinds) h = set_up-known kinds h.1
set_up-known (SetUp ∷ kinds) h = before-known kinds h.1
set_up-known (Thread ∷ kinds) h = set_up-known kinds h.1
set_up-known (Calls call ∷ kinds) h = set_up-known kinds h.1
set_up-known (Unread ∷ kinds) h = set_up-known kinds h.1

first-known : (begins : Bool) (calls : List Call) (threads : List (List Call)) → AllByRecursion IsKnownCall calls → AllByRecursion AllKnown threads
    → AllByRecursion AllKnown (cond begins (calls ∷ threads) threads)
first-known true calls threads h k = (All-from_recursion IsKnownCall calls h, k)
first-known false calls threads h k = k

pub known_calls_alone : KnownCallsAlone
unfolding scripts_in
known_calls_alone bytes =
    let all = lines-known (lines_of bytes) in
    let kinds = kinds_of bytes in
    record {
      setup = All-from_recursion IsKnownCall (set_up_of kinds) (set_up-known kinds all);
      threads = All-from_recursion AllKnown (all_threads kinds) (first-known (begins_with_call kinds) (calls_before kinds) (threads_of kinds) (before-known kinds all) (threads-known kinds all));
    }
