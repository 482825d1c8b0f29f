-- What was read, with a line more.
use Rattle.std.proofs.Common.{◌≡◌, ℕ, ◌+◌, List, [], ◌∷◌, ◌++◌, length, refl, ◌∙◌, ap, arith, true, false, sym, append_assoc, append-nil, not}
use Rattle.std.specs.List.{list_any}
use Rattle.std.proofs.lemmas.List.{length-append}
use Rattle.std.proofs.lemmas.List.Folds.{list_any-append}
use Rattle.std.proofs.lemmas.Bool.{or_right}
use Rattle.std.proofs.Math.Bool.{or-false}
use Rattle.posix_types.specs.declared.call.Call.{Call}
use Rattle.script_text.specs.declared.kinds.Kind.{Kind}
use Rattle.script_text.specs.declared.kinds.Kind.TheVariants.{Calls, Passed, SetUp, Thread, Unread}
use Rattle.script_text.specs.declared.reading.Section.{Section}
use Rattle.script_text.specs.Reached.{calls_kept, is_begun, is_late, is_set_up, IsEmptyIn, IsReached, resumed, resumed_in, State, thread_count, threads_so_far, with_call, with_call_in, with_thread}
use Rattle.script_text.specs.Scripts.{begins_with_call, calls_before, is_passed, scripts_in, set_up_of, threads_in, threads_of}
use Rattle.script_text.proofs.Counts.{calls_in-call, calls_in-other, is_some_line, threads_in-call, threads_in-first_call, threads_in-other}

-- a line more in front of what follows
follows : (before rest : List Kind) (kind : Kind) → (before ++ kind ∷ []) ++ rest ≡ before ++ kind ∷ rest
follows before rest kind = append_assoc before (kind ∷ []) rest

-- ---- lines that are passed over
resumed-passed : (section : Section) (s : State) (rest : List Kind) → resumed_in section s (Passed ∷ rest) ≡ resumed_in section s rest
unfolding scripts_in set_up_of calls_before threads_of begins_with_call
resumed-passed Section.Unbegun s rest = refl
resumed-passed Section.SetUp s rest = refl
resumed-passed Section.Thread s rest = refl

late-passed : (section : Section) (rest : List Kind) → is_late section rest ≡ false → is_late section (Passed ∷ rest) ≡ false
late-passed Section.Unbegun rest h = refl
late-passed Section.SetUp rest h = h
late-passed Section.Thread rest h = h

some-other : (before : List Kind) (kind : Kind) → list_any (λ k. not (is_passed k)) (kind ∷ []) ≡ true → is_some_line (before ++ kind ∷ []) ≡ true
some-other before kind h = list_any-append (λ k. not (is_passed k)) before (kind ∷ []) ∙ or_right (is_some_line before) _ h

pub reached-passed : (s : State) (before : List Kind) → IsReached s before → IsReached s (before ++ Passed ∷ [])
reached-passed s before h = record {
  begun = list_any-append (λ k. not (is_passed k)) before (Passed ∷ []) ∙ or-false (is_some_line before) ∙ h.begun;
  threads = (let same = threads_in-other before Passed refl in let old = h.threads in omega arith);
  calls = calls_in-other before Passed refl ∙ h.calls;
  empty = h.empty;
  scripts = λ rest late. ap scripts_in (follows before rest Passed) ∙ h.scripts (Passed ∷ rest) (late-passed s.section rest late) ∙ resumed-passed s.section s rest;
}

-- ---- the set-up
resumed-set_up : (section : Section) (s : State) (rest : List Kind) → is_begun section ≡ false → IsEmptyIn section s → resumed_in section s (SetUp ∷ rest) ≡ resumed_in Section.SetUp s rest
unfolding scripts_in set_up_of calls_before threads_of begins_with_call
resumed-set_up Section.Unbegun s rest not_begun empty = rw empty.0 refl
resumed-set_up Section.SetUp s rest not_begun empty = cc
resumed-set_up Section.Thread s rest not_begun empty = cc

late-set_up : (section : Section) (rest : List Kind) → is_begun section ≡ false → is_late section (SetUp ∷ rest) ≡ false
late-set_up Section.Unbegun rest not_begun = refl
late-set_up Section.SetUp rest not_begun = cc
late-set_up Section.Thread rest not_begun = cc

empty-set_up : (section : Section) (s : State) → is_begun section ≡ false → IsEmptyIn section s → IsEmptyIn Section.SetUp s
empty-set_up Section.Unbegun s not_begun empty = (empty.1, empty.2)
empty-set_up Section.SetUp s not_begun empty = cc
empty-set_up Section.Thread s not_begun empty = cc

same-count : (section : Section) (s : State) → is_begun section ≡ false → length (threads_so_far section s.threads s.calls) ≡ length s.threads
same-count Section.Unbegun s not_begun = refl
same-count Section.SetUp s not_begun = refl
same-count Section.Thread s not_begun = cc

pub reached-set_up : (s : State) (before : List Kind) → IsReached s before → is_begun s.section ≡ false → IsReached (record s { section = Section.SetUp }) (before ++ SetUp ∷ [])
reached-set_up s before h not_begun = record {
  begun = some-other before SetUp refl;
  threads = (let same = threads_in-other before SetUp refl in let old = h.threads in let count = same-count s.section s not_begun in omega arith);
  calls = calls_in-other before SetUp refl ∙ h.calls;
  empty = empty-set_up s.section s not_begun h.empty;
  scripts = λ rest late. ap scripts_in (follows before rest SetUp) ∙ h.scripts (SetUp ∷ rest) (late-set_up s.section rest not_begun) ∙ resumed-set_up s.section s rest not_begun h.empty;
}

-- ---- the next thread
no_set_up : (rest : List Kind) → list_any is_set_up rest ≡ false → set_up_of rest ≡ []
unfolding set_up_of
no_set_up [] h = refl
no_set_up (Passed ∷ rest) h = no_set_up rest h
no_set_up (SetUp ∷ rest) h = cc
no_set_up (Thread ∷ rest) h = no_set_up rest h
no_set_up (Calls call ∷ rest) h = no_set_up rest h
no_set_up (Unread ∷ rest) h = no_set_up rest h

resumed-thread : (section : Section) (s : State) (rest : List Kind) → IsEmptyIn section s → list_any is_set_up rest ≡ false → resumed_in section s (Thread ∷ rest) ≡ record { setup = s.setup; threads = threads_so_far section s.threads s.calls ++ (calls_kept section s.calls ++ calls_before rest) ∷ threads_of rest }
unfolding scripts_in set_up_of calls_before threads_of begins_with_call
resumed-thread Section.Unbegun s rest empty late = rw (no_set_up rest late, empty.0, empty.1, empty.2) refl
resumed-thread Section.SetUp s rest empty late = rw (append-nil s.setup, empty.0, empty.1) refl
resumed-thread Section.Thread s rest empty late = rw (append-nil s.calls, append_assoc s.threads (s.calls ∷ []) (calls_before rest ∷ threads_of rest)) refl

late-thread : (section : Section) (rest : List Kind) → list_any is_set_up rest ≡ false → is_late section (Thread ∷ rest) ≡ false
late-thread Section.Unbegun rest h = refl
late-thread Section.SetUp rest h = h
late-thread Section.Thread rest h = h

pub reached-thread : (s : State) (before : List Kind) → IsReached s before → IsReached (with_thread s) (before ++ Thread ∷ [])
reached-thread s before h = record {
  begun = some-other before Thread refl;
  threads = (let more = threads_in-other before Thread refl in let old = h.threads in let count = length-append (threads_so_far s.section s.threads s.calls) (calls_kept s.section s.calls ∷ []) in omega arith);
  calls = calls_in-other before Thread refl ∙ h.calls;
  empty = tt;
  scripts = λ rest late. ap scripts_in (follows before rest Thread) ∙ h.scripts (Thread ∷ rest) (late-thread s.section rest late) ∙ resumed-thread s.section s rest h.empty late;
}

-- ---- a call
late-call : (section : Section) (s : State) (call : Call) (rest : List Kind) → is_late (with_call_in section s call).section rest ≡ false → is_late section (Calls call ∷ rest) ≡ false
late-call Section.Unbegun s call rest h = refl
late-call Section.SetUp s call rest h = h
late-call Section.Thread s call rest h = h

resumed-call : (section : Section) (s : State) (call : Call) (rest : List Kind) → IsEmptyIn section s → is_late (with_call_in section s call).section rest ≡ false → resumed_in section s (Calls call ∷ rest) ≡ resumed (with_call_in section s call) rest
unfolding scripts_in set_up_of calls_before threads_of begins_with_call
resumed-call Section.Unbegun s call rest empty late = rw (no_set_up rest late, empty.0, empty.1, empty.2) refl
resumed-call Section.SetUp s call rest empty late = rw (append_assoc s.setup (call ∷ []) (calls_before rest)) refl
resumed-call Section.Thread s call rest empty late = rw (append_assoc s.calls (call ∷ []) (calls_before rest)) refl

empty-call : (section : Section) (s : State) (call : Call) → IsEmptyIn section s → IsEmptyIn (with_call_in section s call).section (with_call_in section s call)
empty-call Section.Unbegun s call empty = tt
empty-call Section.SetUp s call empty = empty
empty-call Section.Thread s call empty = tt

begun-call : (section : Section) (s : State) (call : Call) → is_begun (with_call_in section s call).section ≡ true
begun-call Section.Unbegun s call = refl
begun-call Section.SetUp s call = refl
begun-call Section.Thread s call = refl

count-call : (section : Section) (s : State) (call : Call) → (with_call_in section s call).count ≡ s.count + 1
count-call Section.Unbegun s call = refl
count-call Section.SetUp s call = refl
count-call Section.Thread s call = refl

threads-call : (section : Section) (s : State) (before : List Kind) (call : Call) → is_some_line before ≡ is_begun section → threads_in before ≡ length (threads_so_far section s.threads s.calls) → threads_in (before ++ Calls call ∷ []) ≡ thread_count (with_call_in section s call)
threads-call Section.Unbegun s before call begun threads =
    let more = threads_in-first_call before call begun in
    let count = length-append s.threads ((s.calls ++ call ∷ []) ∷ []) in
    omega arith
threads-call Section.SetUp s before call begun threads = threads_in-call before call begun ∙ threads
threads-call Section.Thread s before call begun threads =
    let count = length-append s.threads ((s.calls ++ call ∷ []) ∷ []) in
    let old = length-append s.threads (s.calls ∷ []) in
    threads_in-call before call begun ∙ threads ∙ omega arith

pub reached-call : (s : State) (before : List Kind) (call : Call) → IsReached s before → IsReached (with_call s call) (before ++ Calls call ∷ [])
reached-call s before call h = record {
  begun = some-other before (Calls call) refl ∙ sym (begun-call s.section s call);
  threads = threads-call s.section s before call h.begun h.threads;
  calls = calls_in-call before call ∙ ap (λ (n : ℕ). n + 1) h.calls ∙ sym (count-call s.section s call);
  empty = empty-call s.section s call h.empty;
  scripts = λ rest late. ap scripts_in (follows before rest (Calls call)) ∙ h.scripts (Calls call ∷ rest) (late-call s.section s call rest late) ∙ resumed-call s.section s call rest h.empty late;
}

-- ---- nothing, and all
pub reached-nothing : IsReached (record { section = Section.Unbegun; setup = []; threads = []; calls = []; count = 0 }) []
unfolding begins_with_call
reached-nothing = record { begun = refl; threads = refl; calls = refl; empty = (refl, refl, refl); scripts = λ rest late. refl }

nothing-late : (section : Section) → is_late section [] ≡ false
nothing-late Section.Unbegun = refl
nothing-late Section.SetUp = refl
nothing-late Section.Thread = refl

resumed-end : (section : Section) (s : State) → IsEmptyIn section s → resumed_in section s [] ≡ record { setup = s.setup; threads = threads_so_far section s.threads s.calls }
unfolding scripts_in set_up_of calls_before threads_of begins_with_call
resumed-end Section.Unbegun s empty = rw (empty.0, empty.1) refl
resumed-end Section.SetUp s empty = rw (append-nil s.setup, empty.0) refl
resumed-end Section.Thread s empty = rw (append-nil s.calls) refl

pub reached-end : (s : State) (before : List Kind) → IsReached s before → scripts_in before ≡ record { setup = s.setup; threads = threads_so_far s.section s.threads s.calls }
reached-end s before h = ap scripts_in (sym (append-nil before)) ∙ h.scripts [] (nothing-late s.section) ∙ resumed-end s.section s h.empty
