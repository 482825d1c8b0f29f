-- Somebody can run while calls are left and the round goes on, or a job is out; and while it is over calls are left.
use Rattle.std.specs.Prelude.{◌≡◌, ◌≢◌, ◌⊎◌, ◌<◌, ◌==◌, ℕ, zero, suc, true, false, Contains, List, [], ◌∷◌, length, Option, Some, None, refl}
use Rattle.std.specs.List.{list_any, range_with_len}
use Rattle.std.specs.Option.{option_map_or}
use Rattle.std.proofs.Common.{arith, ap, ◌∙◌, sym, subst, inl, inr}
use Rattle.std.proofs.lemmas.Bool.{cases_eq}
use Rattle.std.proofs.lemmas.Bool.Decides.{eqb_tells}
use Rattle.world_view_laws.specs.crash_spec.Busy.{is_busy, keeps_busy, waits_for}
use Rattle.world_view_laws.specs.crash_spec.Machine.{Machine, Setting}
use Rattle.world_view_laws.specs.crash_spec.Schedules.{can_run, runnable}
use Rattle.world_view_laws.specs.in_flight.Busy.{files_by}
use Rattle.world_view_laws.specs.list_laws.Filters.{In-filter, In-range}
use Rattle.world_view_laws.specs.list_laws.Members.{In}
use Rattle.world_view_laws.specs.live_model.Standing.{JobOut}
use Rattle.world_view_laws.specs.posix_spec.Scripted.{call_count, IsSetUp, items_of}
use Rattle.world_view_laws.specs.posix_types.declared.call.Call.{Call}
use Rattle.world_view_laws.specs.posix_types.declared.call.Who.{Who}
use Rattle.world_view_laws.specs.Begins.{MayBegin}
use Rattle.world_view_laws.specs.Views.{files_out, HasNone, next_of, state_of, WorldView}
use Rattle.run_laws.proofs.Logs.{In-Contains}
use Rattle.run_laws.specs.Between.{Between}
use Rattle.run_laws.specs.Held.{OutView}
use Rattle.run_laws.specs.Course.{IsCourse}
use Rattle.run_laws.specs.CourseLaws.{OverIsNoEnd, SomebodyRuns}
use Rattle.run_laws.proofs.Left.{all_return, calls_left, no_set_up, no_some, set_up_goes_on, some_call, thread_there}
use Rattle.run_laws.proofs.Rounds.{idle_can_run, job_can_run}

-- ---- while the round is over

not_same : (n m : ℕ) → n < m → (n == m) ≡ false
not_same n m below = elim (eqb_tells n m) [
  | inl same ↦ absurd (omega (arith, same.1, below))
  | inr other ↦ other.0
]

-- where calls are left the machine has not ended
pub not_ended : (g : Setting) (m : Machine) (w : WorldView) (out : OutView) → IsCourse g w out m → length w.history < call_count w.scripts → (length m.history == call_count g.scripts) ≡ false
not_ended g m w out course left =
    (λ i. length (course.history i) == call_count (course.setting i).scripts) ∙ not_same (length w.history) (call_count w.scripts) left

pub over_is_no_end : OverIsNoEnd
over_is_no_end g m w out b course over =
    let x = b.waits over in
    not_ended g m w out course (calls_left w x.who x.call b.scripted x.next x.set_up)

-- ---- with no job out

module _ (w : WorldView) (none : w.pending ≡ []) where
  nobody_out : (who : Who) → HasNone w who
  nobody_out who p there = absurd (subst (In p) none there)

  none_by : (who : Who) (o : Option ℕ) → option_map_or (λ (node : ℕ). list_any (keeps_busy who node) []) o false ≡ false
  none_by who None = refl
  none_by who (Some node) = refl

  idle_alone : (who : Who) (call : Call) → is_busy (state_of w) (files_out w) (who, call) ≡ false
  unfolding is_busy
  idle_alone who call =
      ap (λ (ps : List JobOut). option_map_or (λ (node : ℕ). list_any (keeps_busy who node) (files_by (state_of w) ps)) (waits_for (state_of w) (who, call)) false) none
      ∙ none_by who (waits_for (state_of w) (who, call))

  begins_alone : (who : Who) (call : Call) → next_of w who ≡ Some call → MayBegin w who
  begins_alone who call next = record { call = call; next = next; idle = idle_alone who call }

-- ---- somebody can run

-- of the threads below a number one has a next call, or none has
first_next : (w : WorldView) (k : ℕ) → ((n : ℕ) × (n < k) × (call : Call) × (next_of w (Who.Thread n) ≡ Some call)) ⊎ ((n : ℕ) → n < k → next_of w (Who.Thread n) ≡ None)
first_next w zero = inr (λ n below. absurd (omega (arith, below)))
first_next w (suc k) = elim (first_next w k) [
  | inl found ↦ inl (found.0, omega (arith, found.1), found.2, found.3)
  | inr none ↦ by (next_of w (Who.Thread k)) refl none
] where
  by : (o : Option Call) → next_of w (Who.Thread k) ≡ o → ((n : ℕ) → n < k → next_of w (Who.Thread n) ≡ None)
      → ((n : ℕ) × (n < suc k) × (call : Call) × (next_of w (Who.Thread n) ≡ Some call)) ⊎ ((n : ℕ) → n < suc k → next_of w (Who.Thread n) ≡ None)
  by (Some call) is none = inl (k, omega arith, call, is)
  by None is none = inr (λ n below. elim (cases_eq n k) [
    | inl same ↦ ap (λ (m : ℕ). next_of w (Who.Thread m)) same ∙ is
    | inr other ↦ none n (omega (arith, below, other))
  ])

module _ (g : Setting) (m : Machine) (w : WorldView) (out : OutView) (b : Between w out) (course : IsCourse g w out m) (left : length w.history < call_count w.scripts) where
  -- a thread that can run is one of those
  among : (n : ℕ) → n < length w.scripts.threads → can_run g m (Who.Thread n) ≡ true → Contains (runnable g m) n
  among n below can =
      In-Contains (runnable g m) n
      (In-filter (λ (i : ℕ). can_run g m (Who.Thread i)) (range_with_len 0 (length g.scripts.threads)) n
      (In-range 0 (length g.scripts.threads) n (omega arith) (omega (arith, below, ap (λ (s : Setting). length s.scripts.threads) course.setting))) can)

  -- the set-up
  set_up_runs : (¬ IsSetUp w.scripts w.history (Who.Thread 0)) → (ps : List JobOut) → w.pending ≡ ps → (w.over ≡ None) ⊎ (w.pending ≢ []) → can_run g m Who.Setup ≡ true
  set_up_runs not_up (p ∷ ps) are either =
      let there : In p w.pending = subst (In p) (sym are) (inl refl) in
      subst (λ (x : Who). can_run g m x ≡ true) ((set_up_goes_on w out b not_up).own p there) (job_can_run g m w out p b course there)
  set_up_runs not_up [] are (inr some) = absurd (some are)
  set_up_runs not_up [] are (inl going) =
      let call = some_call (next_of w Who.Setup) (set_up_goes_on w out b not_up).next in
      idle_can_run g m w out Who.Setup b course (nobody_out w are Who.Setup) tt going (begins_alone w are Who.Setup call.0 call.1)

  -- or a thread
  module _ (up : IsSetUp w.scripts w.history (Who.Thread 0)) where
    of_thread : (p : JobOut) → In p w.pending → (who : Who) → p.who ≡ who → (n : ℕ) × (n < length w.scripts.threads) × (p.who ≡ Who.Thread n)
    of_thread p there Who.Setup is = absurd (no_some p.call (next_of w Who.Setup) (no_set_up w.scripts w.history up) (subst (λ (x : Who). next_of w x ≡ Some p.call) is (b.next p there).0))
    of_thread p there (Who.Thread n) is = (n, thread_there w n p.call (subst (λ (x : Who). next_of w x ≡ Some p.call) is (b.next p there).0), is)

    thread_runs : (ps : List JobOut) → w.pending ≡ ps → (w.over ≡ None) ⊎ (w.pending ≢ []) → (n : ℕ) × Contains (runnable g m) n
    thread_runs (p ∷ ps) are either =
        let there : In p w.pending = subst (In p) (sym are) (inl refl) in
        let of = of_thread p there p.who refl in
        (of.0, among of.0 of.1 (subst (λ (x : Who). can_run g m x ≡ true) of.2 (job_can_run g m w out p b course there)))
    thread_runs [] are (inr some) = absurd (some are)
    thread_runs [] are (inl going) = elim (first_next w (length w.scripts.threads)) [
      | inl found ↦ (
        found.0,
        among found.0 found.1
            (idle_can_run g m w out (Who.Thread found.0) b course (nobody_out w are (Who.Thread found.0)) up going (begins_alone w are (Who.Thread found.0) found.2 found.3)),
      )
      | inr none ↦ absurd (omega (arith, left, all_return w out b up none))
    ]

pub somebody_runs : SomebodyRuns
somebody_runs g m w out b course left either = elim (cases_eq (length (items_of w.history Who.Setup)) (length w.scripts.setup)) [
  | inl up ↦ inr (thread_runs g m w out b course left up w.pending refl either)
  | inr not_up ↦ inl (not_up, set_up_runs g m w out b course left not_up w.pending refl either)
]
