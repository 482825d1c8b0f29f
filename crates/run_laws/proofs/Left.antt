-- What is left of a run: who has a next call, and when nobody can run.
use Rattle.std.specs.Prelude.{◌≡◌, ◌≢◌, ◌<◌, ◌≤◌, ◌++◌, ℕ, zero, suc, List, [], ◌∷◌, length, Option, Some, None, slice_get, refl}
use Rattle.std.proofs.Common.{arith, ap, subst, inl, inr}
use Rattle.std.proofs.lemmas.Bool.{cases_eq, cases_lt}
use Rattle.std.proofs.lemmas.List.{get_or_past}
use Rattle.world_view_laws.specs.in_flight.Counts.{history_complete, history_within, made_within}
use Rattle.world_view_laws.specs.list_laws.Members.{In}
use Rattle.world_view_laws.specs.live_model.Standing.{JobOut}
use Rattle.world_view_laws.specs.posix_types.declared.call.Call.{Call}
use Rattle.world_view_laws.specs.posix_types.declared.call.Who.{Who}
use Rattle.world_view_laws.specs.posix_types.declared.item.Item.{Item}
use Rattle.world_view_laws.specs.posix_types.Scripts.{Scripts}
use Rattle.world_view_laws.specs.posix_spec.Scripted.{call_count, IsSetUp, items_of, next_call, script_of, Scripted, Scripted-append}
use Rattle.world_view_laws.specs.Begins.{item_of}
use Rattle.world_view_laws.specs.Views.{next_of, WorldView}
use Rattle.run_laws.proofs.Begins.{one_longer}
use Rattle.run_laws.specs.CourseLaws.{AllReturn, NobodyRuns, SetUpGoesOn}

-- ---- lists

none_of : {X : Type 0} (xs : List X) → ((x : X) → In x xs → ⊥) → xs ≡ []
none_of [] never = refl
none_of (x ∷ xs) never = absurd (never x (inl refl))

none_long : {X : Type 0} (xs : List X) → length xs ≡ 0 → xs ≡ []
none_long [] is = refl
none_long (x ∷ xs) is = absurd (omega (arith, is))

past_none : {X : Type 0} (xs : List X) (i : ℕ) → length xs ≤ i → slice_get xs i ≡ None
past_none [] i past = refl
past_none (x ∷ xs) zero past = absurd (omega (arith, past))
past_none (x ∷ xs) (suc i) past = past_none xs i (omega (arith, past))

pub no_some : {X : Type 0} (x : X) (o : Option X) → o ≡ None → o ≡ Some x → ⊥
no_some x None none some = (let never : None ≡ Some x = some in cc)
no_some x (Some y) none some = (let never : Some y ≡ None = none in cc)

-- ---- next calls

-- a thread that is not there has none
no_thread : (scripts : Scripts) (history : List Item) (n : ℕ) → length scripts.threads ≤ n → next_call scripts history (Who.Thread n) ≡ None
no_thread scripts history n past =
    let none : script_of scripts (Who.Thread n) ≡ [] = get_or_past scripts.threads n [] past in
    ap (λ (calls : List Call). slice_get calls (length (items_of history (Who.Thread n)))) none

-- nor has the set-up, once it is done
pub no_set_up : (scripts : Scripts) (history : List Item) → IsSetUp scripts history (Who.Thread 0) → next_call scripts history Who.Setup ≡ None
no_set_up scripts history up = past_none scripts.setup (length (items_of history Who.Setup)) (omega (arith, up))

-- WHERE A CALL IS NEXT, and may come, calls are left.
pub calls_left : (w : WorldView) (who : Who) (call : Call) → Scripted w.scripts w.history → next_of w who ≡ Some call → IsSetUp w.scripts w.history who → length w.history < call_count w.scripts
calls_left w who call scripted next up =
    let item : Item = item_of w who call in
    let more : Scripted w.scripts (w.history ++ item ∷ []) = Scripted-append w.scripts w.history item scripted (record { call = next; index = refl; set_up = up }) in
    omega (arith, one_longer w.history item, history_within w.scripts (w.history ++ item ∷ []) more)

pub some_call : (o : Option Call) → o ≢ None → (call : Call) × (o ≡ Some call)
some_call None some = absurd (some refl)
some_call (Some call) some = (call, refl)

-- ---- the set-up

pub set_up_goes_on : SetUpGoesOn
set_up_goes_on w out b not_up = record {
  next = λ none. no_some call (next_of w Who.Setup) none next;
  own = λ p there. by p there p.who refl;
  left = calls_left w Who.Setup call b.scripted next tt;
} where
  made : length (items_of w.history Who.Setup) ≤ length w.scripts.setup
  made = made_within w.scripts [] w.history Who.Setup (omega arith) b.scripted

  below : length (items_of w.history Who.Setup) < length w.scripts.setup
  below = elim (cases_eq (length (items_of w.history Who.Setup)) (length w.scripts.setup)) [
    | inl same ↦ absurd (not_up same)
    | inr other ↦ omega (arith, made, other)
  ]

  at : (xs : List Call) (i : ℕ) → i < length xs → (call : Call) × (slice_get xs i ≡ Some call)
  at [] i within = absurd (omega (arith, within))
  at (x ∷ xs) zero within = (x, refl)
  at (x ∷ xs) (suc i) within = at xs i (omega (arith, within))

  call : Call
  call = (at w.scripts.setup (length (items_of w.history Who.Setup)) below).0

  next : next_of w Who.Setup ≡ Some call
  next = (at w.scripts.setup (length (items_of w.history Who.Setup)) below).1

  by : (p : JobOut) → In p w.pending → (who : Who) → p.who ≡ who → p.who ≡ Who.Setup
  by p there Who.Setup is = is
  by p there (Who.Thread n) is = absurd (not_up (subst (IsSetUp w.scripts w.history) is (b.next p there).1))

-- ---- the threads

-- one with a next call is there
pub thread_there : (w : WorldView) (m : ℕ) (c : Call) → next_of w (Who.Thread m) ≡ Some c → m < length w.scripts.threads
thread_there w m c next = elim (cases_lt m (length w.scripts.threads)) [
  | inl below ↦ below
  | inr past ↦ absurd (no_some c (next_of w (Who.Thread m)) (no_thread w.scripts w.history m past) next)
]

pub all_return : AllReturn
all_return w out b up none = omega (arith, history_within w.scripts w.history b.scripted, history_complete w.scripts w.history each) where
  each : (who : Who) → next_call w.scripts w.history who ≡ None
  each Who.Setup = no_set_up w.scripts w.history up
  each (Who.Thread n) = elim (cases_lt n (length w.scripts.threads)) [
    | inl below ↦ none n below
    | inr past ↦ no_thread w.scripts w.history n past
  ]

pub nobody_runs : NobodyRuns
nobody_runs w out b up each n some = record {
  over = elim (each n below).1 [
    | inl none ↦ absurd (some none)
    | inr rest ↦ elim rest [
      | inl over ↦ over
      | inr waits ↦ absurd (subst (In waits.2.kept.job) none_pending waits.2.kept.out)
    ]
  ];
  none_out = none_long out.jobs (omega (arith, b.held.count, ap (λ (ps : List JobOut). length ps) none_pending));
  left = calls_left w (Who.Thread n) call.0 b.scripted call.1 up;
} where
  call : (call : Call) × (next_of w (Who.Thread n) ≡ Some call)
  call = some_call (next_of w (Who.Thread n)) some

  below : n < length w.scripts.threads
  below = thread_there w n call.0 call.1

  -- no job is out: of the set-up, nor of a thread
  no_job : (p : JobOut) → In p w.pending → (who : Who) → p.who ≡ who → ⊥
  no_job p there Who.Setup is = no_some p.call (next_of w Who.Setup) (no_set_up w.scripts w.history up) (subst (λ (x : Who). next_of w x ≡ Some p.call) is (b.next p there).0)
  no_job p there (Who.Thread m) is =
      let own : next_of w (Who.Thread m) ≡ Some p.call = subst (λ (x : Who). next_of w x ≡ Some p.call) is (b.next p there).0 in
      (each m (thread_there w m p.call own)).0 p there is

  none_pending : w.pending ≡ []
  none_pending = none_of w.pending (λ p there. no_job p there p.who refl)
