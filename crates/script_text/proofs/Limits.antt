-- A script without a bad line is within the limits.
use Rattle.std.proofs.Common.{◌≡◌, ℕ, zero, suc, ◌+◌, ◌<◌, ◌≤◌, List, [], ◌∷◌, ◌++◌, length, get_or, take, refl, arith, Bool, true, false, cond, Some, None, inl, inr, Option}
use Rattle.std.specs.Prelude.{count_by, nat_lt, sum_by}
use Rattle.std.proofs.lemmas.Bool.{cases_Bool, leb-false}
use Rattle.std.proofs.Math.Seq.{take-suc}
use Rattle.std.proofs.lemmas.List.{take_all}
use Rattle.std.proofs.lemmas.List.Sums.{sum_by-cons}
use Rattle.posix_types.specs.declared.call.Call.{Call}
use Rattle.script_text.specs.declared.kinds.Kind.{Kind}
use Rattle.script_text.specs.declared.kinds.Kind.TheVariants.{Calls, Passed, SetUp, Thread, Unread}
use Rattle.script_text.specs.Laws.{IsWithinLimits}
use Rattle.script_text.specs.Scripts.{all_threads, bad_line, begins_with_call, breaks, breaks_at, calls_before, calls_in, first_bad, is_call, is_thread, kinds_of, longest_script, scripts_in, scripts_of, set_up_of, threads_in, threads_of}
use Rattle.script_text.proofs.Counts.{calls_in-call, calls_in-other, is_some_line, no_threads, threads_in-call, threads_in-first_call, threads_in-other}
use Rattle.script_text.proofs.FirstBad.{none_bad}

-- lines that are within the limits
record IsFew (kinds : List Kind) : Type 0 where
  threads : threads_in kinds ≤ 8
  calls : calls_in kinds ≤ 4096

few_more : (before : List Kind) (kind : Kind) → IsFew before → breaks before kind ≡ false → IsFew (before ++ kind ∷ [])
few_more before Passed h good = record {
  threads = (let same = threads_in-other before Passed refl in let old = h.threads in omega arith);
  calls = (let same = calls_in-other before Passed refl in let old = h.calls in omega arith);
}
few_more before SetUp h good = record {
  threads = (let same = threads_in-other before SetUp refl in let old = h.threads in omega arith);
  calls = (let same = calls_in-other before SetUp refl in let old = h.calls in omega arith);
}
few_more before Thread h good = record {
  threads = (let more = threads_in-other before Thread refl in let old = leb-false 8 (threads_in before) good in omega arith);
  calls = (let same = calls_in-other before Thread refl in let old = h.calls in omega arith);
}
few_more before (Calls call) h good = record {
  threads =
      (elim (cases_Bool (is_some_line before)) [
        | inl some ↦ let same = threads_in-call before call some in let old = h.threads in omega arith
        | inr none ↦ let more = threads_in-first_call before call none in let zero = no_threads before none in omega arith
      ]);
  calls = (let more = calls_in-call before call in let old = leb-false 4096 (calls_in before) good in omega arith);
}
few_more before Unread h good = cc

chosen_none : (test : Bool) (x : ℕ) (rest : Option ℕ) → cond test (Some x) rest ≡ None → rest ≡ None
chosen_none true x rest h = cc
chosen_none false x rest h = h

-- a script without a bad line has no bad line of its lines
no_bad : (bytes : List ℕ) → bad_line bytes ≡ None → first_bad (kinds_of bytes) ≡ None
unfolding bad_line
no_bad bytes good = chosen_none (nat_lt longest_script (length bytes)) 0 (first_bad (kinds_of bytes)) good

few_of : (kinds : List Kind) → ((j : ℕ) → j < length kinds → breaks_at kinds j ≡ false) → (n : ℕ) → n ≤ length kinds → IsFew (take n kinds)
unfolding begins_with_call
few_of kinds good zero within = record { threads = omega arith; calls = omega arith }
few_of kinds good (suc n) within =
    let before = few_of kinds good n (omega arith) in
    let kind : Kind = get_or kinds n Passed in
    rw (take-suc kinds n Passed (omega arith)) (few_more (take n kinds) kind before (good n (omega arith)))

-- a heading `thread` for each thread but one that begins without
threads_of-count : (kinds : List Kind) → length (threads_of kinds) ≡ count_by is_thread kinds
unfolding threads_of
threads_of-count [] = refl
threads_of-count (Passed ∷ kinds) = threads_of-count kinds
threads_of-count (SetUp ∷ kinds) = threads_of-count kinds
threads_of-count (Thread ∷ kinds) = let rest = threads_of-count kinds in let more = sum_by-cons (λ (kind : Kind). cond (is_thread kind) 1 0) Thread kinds in omega arith
threads_of-count (Calls call ∷ kinds) = threads_of-count kinds
threads_of-count (Unread ∷ kinds) = threads_of-count kinds

threads-chosen : (test : Bool) (calls : List Call) (threads : List (List Call)) (n : ℕ) → length threads ≡ n → length (cond test (calls ∷ threads) threads) ≡ n + cond test 1 0
threads-chosen true calls threads n h = omega arith
threads-chosen false calls threads n h = omega arith

all_threads-count : (kinds : List Kind) → length (all_threads kinds) ≡ threads_in kinds
all_threads-count kinds = threads-chosen (begins_with_call kinds) (calls_before kinds) (threads_of kinds) (count_by is_thread kinds) (threads_of-count kinds)

-- each call is in one place at most
places_of_calls : (kinds : List Kind) → length (calls_before kinds) + sum_by length (threads_of kinds) + length (set_up_of kinds) ≤ calls_in kinds
unfolding calls_before threads_of set_up_of
places_of_calls [] = omega arith
places_of_calls (Passed ∷ kinds) = let rest = places_of_calls kinds in omega arith
places_of_calls (SetUp ∷ kinds) = let rest = places_of_calls kinds in omega arith
places_of_calls (Thread ∷ kinds) = let rest = places_of_calls kinds in let more = sum_by-cons (length {A = Call}) (calls_before kinds) (threads_of kinds) in omega arith
places_of_calls (Calls call ∷ kinds) = let rest = places_of_calls kinds in let more = sum_by-cons (λ (kind : Kind). cond (is_call kind) 1 0) (Calls call) kinds in omega arith
places_of_calls (Unread ∷ kinds) = let rest = places_of_calls kinds in omega arith

sum-chosen : (test : Bool) (calls : List Call) (threads : List (List Call)) → sum_by length (cond test (calls ∷ threads) threads) ≤ length calls + sum_by length threads
sum-chosen true calls threads = omega (arith, sum_by-cons (length {A = Call}) calls threads)
sum-chosen false calls threads = omega arith

pub scripts-within : (bytes : List ℕ) → bad_line bytes ≡ None → IsWithinLimits (scripts_of bytes)
unfolding scripts_in
scripts-within bytes good =
    let kinds : List Kind = kinds_of bytes in
    let few : IsFew kinds = rw (← take_all (length kinds) kinds (omega arith)) (few_of kinds (none_bad kinds (no_bad bytes good)) (length kinds) (omega arith)) in
    let threads = all_threads-count kinds in
    let places = places_of_calls kinds in
    let sum = sum-chosen (begins_with_call kinds) (calls_before kinds) (threads_of kinds) in
    record { threads = omega (arith, few.threads); calls = omega (arith, few.calls) }
