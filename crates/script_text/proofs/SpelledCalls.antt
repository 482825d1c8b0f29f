-- The paths of what is read are spelled.
use Rattle.std.proofs.Common.{◌≡◌, ℕ, List, [], ◌∷◌, refl, Bool, true, false, cond, Option, Some, None, subst, length}
use Rattle.std.specs.Prelude.{codes, map, not, ◌&&◌, option_map, IfSome, ◌==◌}
use Rattle.std.specs.List.{All, AllByRecursion, list_all}
use Rattle.std.proofs.lemmas.List.Elements.{All-from_recursion, All-nil}
use Rattle.layout_model.specs.Fields.{is_same}
use Rattle.layout_model.specs.Spelling.{AreSpelled, is_spelled}
use Rattle.posix_types.specs.declared.call.Call.{Call}
use Rattle.script_text.specs.declared.kinds.Kind.{Kind}
use Rattle.script_text.specs.declared.kinds.Kind.TheVariants.{Calls, Passed, SetUp, Thread, Unread}
use Rattle.script_text.specs.Calls.{all_three, both, call_in, is_known, one_word_call, three_word_call, two_word_call}
use Rattle.script_text.specs.Lines.{is_text, Line, lines_of, text_of, words_of}
use Rattle.script_text.specs.Scripts.{all_threads, begins_with_call, call_kind, calls_before, is_comment, kind_of, kinds_of, scripts_in, scripts_of, set_up_of, text_kind, threads_of, words_kind}
use Rattle.script_text.specs.Spelled.{AreSpelledCalls, IsSpelledCall}
use Rattle.script_text.specs.Words.{data_in, flags_in, handle_in, names_in, number_in, parts_by, path_in, signed_in, whence_in}
use Rattle.script_text.proofs.Lists.{passes_at}

-- ---- values that a test chooses
some_guarded : {A : Type 0} (P : A → Type 0) (test : Bool) (x : A) → (test ≡ true → P x) → IfSome (cond test (Some x) None) P
some_guarded P true x h = h refl
some_guarded P false x h = tt

some_chosen : {A : Type 0} (P : A → Type 0) (test : Bool) (x y : Option A) → IfSome x P → IfSome y P → IfSome (cond test x y) P
some_chosen P true x y h k = h
some_chosen P false x y h k = k

some_is : {A : Type 0} (P : A → Type 0) (o : Option A) (x : A) → IfSome o P → o ≡ Some x → P x
some_is P o x h is = subst (λ (v : Option _). IfSome v P) is h

-- ---- paths
names-spelled : (names : List (List ℕ)) → IfSome (names_in names) AreSpelled
names-spelled names = some_guarded AreSpelled (list_all is_spelled names) names (λ all k d lt. passes_at is_spelled names k d all lt)

path-spelled : (word : List ℕ) → IfSome (path_in word) AreSpelled
unfolding path_in
path-spelled [] = tt
path-spelled (b ∷ text) =
    some_chosen AreSpelled (b == 47) (cond (length text == 0) (Some []) (names_in (parts_by 47 text))) None
    (some_chosen AreSpelled (length text == 0) (Some []) (names_in (parts_by 47 text)) (All-nil (λ name. is_spelled name ≡ true)) (names-spelled (parts_by 47 text)))
    tt

pub path_in-spelled : (word : List ℕ) (path : List (List ℕ)) → path_in word ≡ Some path → AreSpelled path
path_in-spelled word path is = some_is AreSpelled (path_in word) path (path-spelled word) is

-- ---- calls
record Spelled (o : Option Call) : Type 0 where
  is : IfSome o IsSpelledCall

nothing : Spelled None
nothing = record { is = tt }

chosen : (test : Bool) {x y : Option Call} → Spelled x → Spelled y → Spelled (cond test x y)
chosen true h k = h
chosen false h k = k

some_made : {A : Type 0} (P : A → Type 0) (f : A → Call) (o : Option A) → IfSome o P → ((x : A) → P x → IsSpelledCall (f x)) → Spelled (option_map f o)
some_made P f None h k = record { is = tt }
some_made P f (Some x) h k = record { is = k x h }

always : {A : Type 0} (o : Option A) → IfSome o (λ x. Unit {0})
always None = tt
always (Some x) = tt

both_made : {A B : Type 0} (P : A → Type 0) (Q : B → Type 0) (f : A → B → Call) (a : Option A) (b : Option B) → IfSome a P → IfSome b Q → ((x : A) (y : B) → P x → Q y → IsSpelledCall (f x y)) → Spelled (both f a b)
both_made P Q f None b h k made = record { is = tt }
both_made P Q f (Some x) None h k made = record { is = tt }
both_made P Q f (Some x) (Some y) h k made = record { is = made x y h k }

both_plain : {A B : Type 0} (f : A → B → Call) (a : Option A) (b : Option B) → ((x : A) (y : B) → IsSpelledCall (f x y)) → Spelled (both f a b)
both_plain f a b made = both_made (λ x. Unit {0}) (λ x. Unit {0}) f a b (always a) (always b) (λ x y h k. made x y)

all_made : {A B C : Type 0} (Q : B → Type 0) (f : A → B → C → Call) (a : Option A) (b : Option B) (c : Option C) → IfSome b Q → ((x : A) (y : B) (z : C) → Q y → IsSpelledCall (f x y z)) → Spelled (all_three f a b c)
all_made Q f None b c h made = record { is = tt }
all_made Q f (Some x) None c h made = record { is = tt }
all_made Q f (Some x) (Some y) None h made = record { is = tt }
all_made Q f (Some x) (Some y) (Some z) h made = record { is = made x y z h }

all_plain : {A B C : Type 0} (f : A → B → C → Call) (a : Option A) (b : Option B) (c : Option C) → ((x : A) (y : B) (z : C) → IsSpelledCall (f x y z)) → Spelled (all_three f a b c)
all_plain f a b c made = all_made (λ x. Unit {0}) f a b c (always b) (λ x y z h. made x y z)

one-spelled : (call a : List ℕ) → Spelled (one_word_call call a)
one-spelled call a =
    let path = path-spelled a in
    chosen (is_same call (codes "mkdir")) (some_made AreSpelled (λ p. Call.Mkdir p) (path_in a) path (λ p h. h))
    (chosen (is_same call (codes "rmdir")) (some_made AreSpelled (λ p. Call.Rmdir p) (path_in a) path (λ p h. h))
    (chosen (is_same call (codes "unlink")) (some_made AreSpelled (λ p. Call.Unlink p) (path_in a) path (λ p h. h))
    (chosen (is_same call (codes "close")) (some_made (λ x. Unit {0}) (λ h. Call.Close h) (handle_in a) (always (handle_in a)) (λ p h. tt))
    (chosen (is_same call (codes "fsync")) (some_made (λ x. Unit {0}) (λ h. Call.Fsync h) (handle_in a) (always (handle_in a)) (λ p h. tt))
    (chosen (is_same call (codes "stat")) (some_made AreSpelled (λ p. Call.Stat p) (path_in a) path (λ p h. h))
    (chosen (is_same call (codes "list")) (some_made AreSpelled (λ p. Call.List p) (path_in a) path (λ p h. h)) nothing))))))

two-spelled : (call a b : List ℕ) → Spelled (two_word_call call a b)
two-spelled call a b =
    chosen (is_same call (codes "rename")) (both_made AreSpelled AreSpelled (λ p q. Call.Rename p q) (path_in a) (path_in b) (path-spelled a) (path-spelled b) (λ p q h k. (h, k)))
    (chosen (is_same call (codes "dup")) (both_plain (λ h g. Call.Dup h g) (handle_in a) (handle_in b) (λ x y. tt))
    (chosen (is_same call (codes "read")) (both_plain (λ h n. Call.Read h n) (handle_in a) (number_in b) (λ x y. tt))
    (chosen (is_same call (codes "write")) (both_plain (λ h x. Call.Write h x) (handle_in a) (data_in b) (λ x y. tt))
    (chosen (is_same call (codes "truncate")) (both_plain (λ h n. Call.Truncate h n) (handle_in a) (number_in b) (λ x y. tt)) nothing))))

three-spelled : (call a b c : List ℕ) → Spelled (three_word_call call a b c)
three-spelled call a b c =
    chosen (is_same call (codes "open")) (all_made AreSpelled (λ h p f. Call.Open h p f) (handle_in a) (path_in b) (flags_in c) (path-spelled b) (λ x y z h. h))
    (chosen (is_same call (codes "pread")) (all_plain (λ h o n. Call.Pread h o n) (handle_in a) (number_in b) (number_in c) (λ x y z. tt))
    (chosen (is_same call (codes "pwrite")) (all_plain (λ h o x. Call.Pwrite h o x) (handle_in a) (number_in b) (data_in c) (λ x y z. tt))
    (chosen (is_same call (codes "seek")) (all_plain (λ h w i. Call.Seek h w i) (handle_in a) (whence_in b) (signed_in c) (λ x y z. tt)) nothing)))

call-spelled : (words : List (List ℕ)) → Spelled (call_in words)
unfolding call_in
call-spelled [] = nothing
call-spelled (call ∷ []) = nothing
call-spelled (call ∷ a ∷ []) = one-spelled call a
call-spelled (call ∷ a ∷ b ∷ []) = two-spelled call a b
call-spelled (call ∷ a ∷ b ∷ c ∷ []) = three-spelled call a b c
call-spelled (call ∷ a ∷ b ∷ c ∷ d ∷ words) = nothing

-- ---- lines
abbrev IsSpelledKind : Kind → Type 0
IsSpelledKind Passed = Unit {0}
IsSpelledKind SetUp = Unit {0}
IsSpelledKind Thread = Unit {0}
IsSpelledKind (Calls call) = IsSpelledCall call
IsSpelledKind Unread = Unit {0}

record SpelledKind (kind : Kind) : Type 0 where
  is : IsSpelledKind kind

kind_chosen : (test : Bool) {x y : Kind} → SpelledKind x → SpelledKind y → SpelledKind (cond test x y)
kind_chosen true h k = h
kind_chosen false h k = k

plain : (kind : Kind) → IsSpelledKind kind → SpelledKind kind
plain kind h = record { is = h }

call_kind-spelled : {call : Option Call} → Spelled call → SpelledKind (call_kind call)
call_kind-spelled {call = None} h = record { is = tt }
call_kind-spelled {call = Some call} h = record { is = h.is }

words-spelled : (words : List (List ℕ)) → SpelledKind (words_kind words)
words-spelled [] = record { is = tt }
words-spelled (word ∷ words) =
    kind_chosen (is_comment word) (plain Passed tt)
    (kind_chosen (not (is_known word)) (plain Unread tt)
    (kind_chosen ((length words == 0) && is_same word (codes "setup")) (plain SetUp tt)
    (kind_chosen ((length words == 0) && is_same word (codes "thread")) (plain Thread tt) (call_kind-spelled (call-spelled (word ∷ words))))))

text-spelled : (text : List ℕ) → SpelledKind (text_kind text)
unfolding text_kind
text-spelled text = kind_chosen (is_text text) (words-spelled (words_of text)) (plain Unread tt)

-- ---- scripts
abbrev AreSpelledKinds : List Kind → Type 0
AreSpelledKinds kinds = AllByRecursion IsSpelledKind kinds

lines-spelled : (lines : List Line) → AreSpelledKinds (map kind_of lines)
lines-spelled [] = tt
lines-spelled (line ∷ lines) = ((text-spelled (text_of line)).is, lines-spelled lines)

before-spelled : (kinds : List Kind) → AreSpelledKinds kinds → AllByRecursion IsSpelledCall (calls_before kinds)
unfolding calls_before
before-spelled [] h = tt
before-spelled (Passed ∷ kinds) h = before-spelled kinds h.1
before-spelled (SetUp ∷ kinds) h = tt
before-spelled (Thread ∷ kinds) h = tt
before-spelled (Calls call ∷ kinds) h = (h.0, before-spelled kinds h.1)
before-spelled (Unread ∷ kinds) h = before-spelled kinds h.1

all_before : (kinds : List Kind) → AreSpelledKinds kinds → All IsSpelledCall (calls_before kinds)
all_before kinds h = All-from_recursion IsSpelledCall (calls_before kinds) (before-spelled kinds h)

threads-spelled : (kinds : List Kind) → AreSpelledKinds kinds → AllByRecursion (λ calls. All IsSpelledCall calls) (threads_of kinds)
unfolding threads_of
threads-spelled [] h = tt
threads-spelled (Passed ∷ kinds) h = threads-spelled kinds h.1
threads-spelled (SetUp ∷ kinds) h = threads-spelled kinds h.1
threads-spelled (Thread ∷ kinds) h = (all_before kinds h.1, threads-spelled kinds h.1)
threads-spelled (Calls call ∷ kinds) h = threads-spelled kinds h.1
threads-spelled (Unread ∷ kinds) h = threads-spelled kinds h.1

set_up-spelled : (kinds : List Kind) → AreSpelledKinds kinds → All IsSpelledCall (set_up_of kinds)
unfolding set_up_of
set_up-spelled [] h = All-nil IsSpelledCall
set_up-spelled (Passed ∷ kinds) h = set_up-spelled kinds h.1
set_up-spelled (SetUp ∷ kinds) h = all_before kinds h.1
set_up-spelled (Thread ∷ kinds) h = set_up-spelled kinds h.1
set_up-spelled (Calls call ∷ kinds) h = set_up-spelled kinds h.1
set_up-spelled (Unread ∷ kinds) h = set_up-spelled kinds h.1

list_chosen : {A : Type 0} (P : A → Type 0) (test : Bool) (xs ys : List A) → AllByRecursion P xs → AllByRecursion P ys → AllByRecursion P (cond test xs ys)
list_chosen P true xs ys h k = h
list_chosen P false xs ys h k = k

pub scripts-spelled : (bytes : List ℕ) → AreSpelledCalls (scripts_of bytes)
unfolding scripts_in
scripts-spelled bytes =
    let kinds : List Kind = kinds_of bytes in
    let spelled = lines-spelled (lines_of bytes) in
    let P : List Call → Type 0 = λ calls. All IsSpelledCall calls in
    record {
      setup = set_up-spelled kinds spelled;
      threads =
          All-from_recursion P (all_threads kinds)
          (list_chosen P (begins_with_call kinds) (calls_before kinds ∷ threads_of kinds) (threads_of kinds) (all_before kinds spelled, threads-spelled kinds spelled) (threads-spelled kinds spelled));
    }
