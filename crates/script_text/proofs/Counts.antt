-- How many threads and calls there are, with a line more.
use Rattle.std.proofs.Common.{◌≡◌, ℕ, ◌+◌, List, [], ◌∷◌, ◌++◌, refl, ◌∙◌, ap, arith, Bool, true, false, not, ◌||◌, add-zero, zero-add, cond}
use Rattle.std.specs.Prelude.{count_by, if◌then◌else◌}
use Rattle.std.specs.List.{list_any, sum_by}
use Rattle.std.proofs.lemmas.List.Sums.{sum_by-append}
use Rattle.std.proofs.Math.Bool.{or-false}
use Rattle.posix_types.specs.declared.call.Call.{Call}
use Rattle.script_text.specs.declared.kinds.Kind.{Kind}
use Rattle.script_text.specs.declared.kinds.Kind.TheVariants.{Calls, Passed, SetUp, Thread, Unread}
use Rattle.script_text.specs.Scripts.{begins_with_call, calls_in, is_call, is_passed, is_thread, threads_in}

count_by-push : {X : Type 0} (p : X → Bool) (xs : List X) (x : X) → count_by p (xs ++ x ∷ []) ≡ count_by p xs + cond (p x) 1 0
count_by-push {X = X} p xs x = sum_by-append (λ y. cond (p y) 1 0) xs (x ∷ []) ∙ ap (λ (n : ℕ). sum_by (λ (y : X). cond (p y) 1 0) xs + n) (zero-add (cond (p x) 1 0))

abbrev one_if : Bool → ℕ
one_if b = if b then 1 else 0

-- some line is not passed over
abbrev pub is_some_line : List Kind → Bool
is_some_line kinds = list_any (λ kind. not (is_passed kind)) kinds

-- a line that is no call does not begin thread 0
begins_alone : (kind : Kind) → is_call kind ≡ false → begins_with_call (kind ∷ []) ≡ false
unfolding begins_with_call
begins_alone Passed h = refl
begins_alone SetUp h = refl
begins_alone Thread h = refl
begins_alone (Calls call) h = cc
begins_alone Unread h = refl

begins-other : (before : List Kind) (kind : Kind) → is_call kind ≡ false → begins_with_call (before ++ kind ∷ []) ≡ begins_with_call before
unfolding begins_with_call
begins-other [] kind h = begins_alone kind h
begins-other (Passed ∷ before) kind h = begins-other before kind h
begins-other (SetUp ∷ before) kind h = refl
begins-other (Thread ∷ before) kind h = refl
begins-other (Calls call ∷ before) kind h = refl
begins-other (Unread ∷ before) kind h = refl

-- the first call does, where no other line came before
begins-call : (before : List Kind) (call : Call) → begins_with_call (before ++ Calls call ∷ []) ≡ (begins_with_call before || not (is_some_line before))
unfolding begins_with_call
begins-call [] call = refl
begins-call (Passed ∷ before) call = begins-call before call
begins-call (SetUp ∷ before) call = refl
begins-call (Thread ∷ before) call = refl
begins-call (Calls other ∷ before) call = refl
begins-call (Unread ∷ before) call = refl

nothing_begins : (before : List Kind) → is_some_line before ≡ false → begins_with_call before ≡ false
unfolding begins_with_call
nothing_begins [] h = refl
nothing_begins (Passed ∷ before) h = nothing_begins before h
nothing_begins (SetUp ∷ before) h = cc
nothing_begins (Thread ∷ before) h = cc
nothing_begins (Calls call ∷ before) h = cc
nothing_begins (Unread ∷ before) h = cc

added : (a b c d x : ℕ) → a ≡ b + x → c ≡ d → a + c ≡ b + d + x
added a b c d x e f = omega arith

pub threads_in-other : (before : List Kind) (kind : Kind) → is_call kind ≡ false → threads_in (before ++ kind ∷ []) ≡ threads_in before + cond (is_thread kind) 1 0
threads_in-other before kind h = added _ _ _ _ _ (count_by-push is_thread before kind) (ap one_if (begins-other before kind h))

-- a call begins a thread where it is the first line that is not passed over
begun_by_call : (a b c d : ℕ) → a ≡ b + 0 → c ≡ 1 → d ≡ 0 → a + c ≡ b + d + 1
begun_by_call a b c d e f g = omega arith

pub threads_in-first_call : (before : List Kind) (call : Call) → is_some_line before ≡ false → threads_in (before ++ Calls call ∷ []) ≡ threads_in before + 1
threads_in-first_call before call h =
    let none : begins_with_call before ≡ false = nothing_begins before h in
    let first : begins_with_call (before ++ Calls call ∷ []) ≡ true = rw (begins-call before call, none, h) refl in
    begun_by_call _ _ _ _ (count_by-push is_thread before (Calls call)) (ap one_if first) (ap one_if none)

pub threads_in-call : (before : List Kind) (call : Call) → is_some_line before ≡ true → threads_in (before ++ Calls call ∷ []) ≡ threads_in before
threads_in-call before call h =
    let same : begins_with_call (before ++ Calls call ∷ []) ≡ begins_with_call before = begins-call before call ∙ rw h (or-false (begins_with_call before)) in
    added _ _ _ _ 0 (count_by-push is_thread before (Calls call)) (ap one_if same) ∙ add-zero (threads_in before)

pub calls_in-call : (before : List Kind) (call : Call) → calls_in (before ++ Calls call ∷ []) ≡ calls_in before + 1
calls_in-call before call = count_by-push is_call before (Calls call)

pub calls_in-other : (before : List Kind) (kind : Kind) → is_call kind ≡ false → calls_in (before ++ kind ∷ []) ≡ calls_in before
calls_in-other before kind h = count_by-push is_call before kind ∙ rw h (add-zero (calls_in before))

-- where no line came before, no thread has begun
nothing_counted : (before : List Kind) → is_some_line before ≡ false → count_by is_thread before ≡ 0
nothing_counted [] h = refl
nothing_counted (Passed ∷ before) h = nothing_counted before h
nothing_counted (SetUp ∷ before) h = cc
nothing_counted (Thread ∷ before) h = cc
nothing_counted (Calls call ∷ before) h = cc
nothing_counted (Unread ∷ before) h = cc

pub no_threads : (before : List Kind) → is_some_line before ≡ false → threads_in before ≡ 0
no_threads before h = let count = nothing_counted before h in rw (nothing_begins before h, count) refl
