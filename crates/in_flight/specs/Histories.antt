-- A history with one call more.
use Rattle.std.specs.Prelude.{◌≡◌, ◌≤◌, ◌<◌, ◌+◌, ◌++◌, ℕ, Bool, true, false, cond, List, [], ◌∷◌, length, Some, slice_get, refl}
use Rattle.std.proofs.Common.{arith, ap, ◌∙◌, sym, subst, length-append, inl, inr}
use Rattle.std.proofs.lemmas.List.{get_or_past}
use Rattle.std.proofs.lemmas.List.Sums.{count_by-le-length, length-filter}
use Rattle.std.proofs.lemmas.Bool.{cases_lt}
use Rattle.std.proofs.lemmas.Option.{slice_get_within}
use Rattle.posix_types.specs.declared.call.Call.{Call}
use Rattle.posix_types.specs.declared.call.Who.{Who}
use Rattle.posix_types.specs.declared.item.Item.{Item}
use Rattle.posix_types.specs.declared.item.Outcome.{Outcome}
use Rattle.posix_types.specs.Scripts.{Scripts}
use Rattle.live_model.specs.commute_laws.posix_tables.Open.{same_who}
use Rattle.live_model.specs.commute_laws.Frames.{AreThreads}
use Rattle.live_model.specs.commute_laws.Handles.{same_who-is}
use Rattle.live_model.specs.commute_laws.posix_spec.Run.{after_call, IsLegal, IsLegal-append, run, run-append}
use Rattle.live_model.specs.commute_laws.posix_spec.Scripted.{call_count, IsSetUp, items_of, next_call, script_of, Scripted, Scripted-append}
use Rattle.live_model.specs.commute_laws.posix_spec.State.{State}
use Rattle.live_model.specs.commute_laws.posix_spec.Step.{step}
use Rattle.in_flight.specs.Counters.{AreCounts, count_for, IsCounted}
use Rattle.in_flight.specs.Counts.{history_within, items_more}

-- the item that a call gives with this outcome
abbrev pub item_with : List Item → Who → Call → Outcome → Item
item_with history who call o =
    record { who = who; index = length (items_of history who); call = call; reply = o.reply; room = o.room }

-- ---- what it leaves

-- the next calls of other callers
pub next_stays : (scripts : Scripts) (history : List Item) (item : Item) (who : Who) → same_who item.who who ≡ false
    → next_call scripts (history ++ item ∷ []) who ≡ next_call scripts history who
next_stays scripts history item who other = ap (λ (n : ℕ). slice_get (script_of scripts who) n) same where
  same : length (items_of (history ++ item ∷ []) who) ≡ length (items_of history who)
  same = omega (arith, items_more history item who, ap {B = ℕ} (λ b. cond b 1 0) other)

-- a set-up that is done
pub set_up_stays : (scripts : Scripts) (history : List Item) (item : Item) (who : Who) → next_call scripts history item.who ≡ Some item.call
    → IsSetUp scripts history who → IsSetUp scripts (history ++ item ∷ []) who
set_up_stays scripts history item Who.Setup next done = tt
set_up_stays scripts history item (Who.Thread n) next done = by (same_who item.who Who.Setup) refl where
  by : (b : Bool) → same_who item.who Who.Setup ≡ b → length (items_of (history ++ item ∷ []) Who.Setup) ≡ length scripts.setup
  by true own =
      let is : item.who ≡ Who.Setup = same_who-is item.who Who.Setup own in
      let more : slice_get scripts.setup (length (items_of history Who.Setup)) ≡ Some item.call = subst (λ w. next_call scripts history w ≡ Some item.call) is next in
      let within : length (items_of history Who.Setup) < length scripts.setup = slice_get_within scripts.setup (length (items_of history Who.Setup)) item.call more in
      absurd (omega (arith, within, done))
  by false other =
      omega (arith, items_more history item Who.Setup, ap {B = ℕ} (λ b. cond b 1 0) other, done)

-- Of two callers of which each may begin its next call, one after the other, both are threads.
pub are_threads : (scripts : Scripts) (history : List Item) (who two : Who) (call other : Call) → same_who two who ≡ false
    → next_call scripts history who ≡ Some call → IsSetUp scripts history who → next_call scripts history two ≡ Some other → IsSetUp scripts history two
    → AreThreads who two
are_threads scripts history Who.Setup Who.Setup call other apart next up next2 up2 = let never : true ≡ false = apart in cc
are_threads scripts history Who.Setup (Who.Thread n) call other apart next up next2 up2 =
    let within : length (items_of history Who.Setup) < length scripts.setup = slice_get_within scripts.setup (length (items_of history Who.Setup)) call next in
    absurd (omega (arith, within, up2))
are_threads scripts history (Who.Thread m) Who.Setup call other apart next up next2 up2 =
    let within : length (items_of history Who.Setup) < length scripts.setup = slice_get_within scripts.setup (length (items_of history Who.Setup)) other next2 in
    absurd (omega (arith, within, up))
are_threads scripts history (Who.Thread m) (Who.Thread n) call other apart next up next2 up2 = record { other = apart; thread = refl; own = refl }

-- ---- the history itself

-- THE NEXT CALL OF A CALLER RETURNED, with the outcome that step gives: the history is legal and follows the scripts again, and is run
-- one call further.
pub record Grows (start : State) (scripts : Scripts) (history items : List Item) (who : Who) (call : Call) : Type 0 where
  pub legal : IsLegal start items
  pub scripted : Scripted scripts items
  pub longer : length items ≡ length history + 1
  pub within : length items ≤ call_count scripts
  pub run_is : run start items ≡ after_call (run start history) (who, call)

pub grows : (start : State) (scripts : Scripts) (history items : List Item) (who : Who) (call : Call) (o : Outcome) → IsLegal start history → Scripted scripts history
    → next_call scripts history who ≡ Some call → IsSetUp scripts history who → (step (run start history) who call).outcome ≡ o
    → items ≡ history ++ item_with history who call o ∷ [] → Grows start scripts history items who call
grows start scripts history items who call o legal scripted next up outcome items_are = record {
  legal = subst (IsLegal start) (sym items_are) (IsLegal-append start history item legal outcome);
  scripted = follows;
  longer = ap length items_are ∙ length-append history (item ∷ []);
  within = history_within scripts items follows;
  run_is = ap (run start) items_are ∙ run-append start history item;
} where
  item : Item
  item = item_with history who call o

  follows : Scripted scripts items
  follows = subst (Scripted scripts) (sym items_are) (Scripted-append scripts history (item_with history who call o) scripted (record { call = next; index = refl; set_up = up }))

-- how many calls of one caller returned
pub made_within_all : (history : List Item) (who : Who) → length (items_of history who) ≤ length history
made_within_all history who =
    omega (arith, length-filter (λ (i : Item). same_who i.who who) history, count_by-le-length (λ (i : Item). same_who i.who who) history)

-- ---- the counters

-- with one call more
pub counts_more : (setup : ℕ) (threads : List ℕ) (setup2 : ℕ) (threads2 : List ℕ) (history items : List Item) (item : Item) (who : Who) → items ≡ history ++ item ∷ [] → item.who ≡ who → AreCounts setup threads history
    → count_for setup2 threads2 who ≡ count_for setup threads who + 1 → ((other : Who) → same_who who other ≡ false → count_for setup2 threads2 other ≡ count_for setup threads other) → AreCounts setup2 threads2 items
counts_more setup threads setup2 threads2 history items item who items_are caller counts own others other =
    by (same_who who other) refl ∙ ap (λ xs. length (items_of xs other)) (sym items_are) where
      longer : length (items_of (history ++ item ∷ []) other) ≡ length (items_of history other) + cond (same_who who other) 1 0
      longer = items_more history item other ∙ ap (λ w. length (items_of history other) + cond (same_who w other) 1 0) caller

      by : (b : Bool) → same_who who other ≡ b → count_for setup2 threads2 other ≡ length (items_of (history ++ item ∷ []) other)
      by true same =
          let is : who ≡ other = same_who-is who other same in
          let one : count_for setup2 threads2 other ≡ count_for setup threads other + 1 = subst (λ w. count_for setup2 threads2 w ≡ count_for setup threads w + 1) is own in
          omega (arith, one, counts other, longer, ap {B = ℕ} (λ b. cond b 1 0) same)
      by false apart = omega (arith, others other apart, counts other, longer, ap {B = ℕ} (λ b. cond b 1 0) apart)

-- a caller with a call left is counted, of 8 threads at most
pub is_counted : (scripts : Scripts) (history : List Item) (who : Who) (call : Call) → length scripts.threads ≤ 8 → next_call scripts history who ≡ Some call → IsCounted who
is_counted scripts history Who.Setup call few next = tt
is_counted scripts history (Who.Thread n) call few next = elim (cases_lt n (length scripts.threads)) [
  | inl below ↦ omega (arith, below, few)
  | inr past ↦
      let none : script_of scripts (Who.Thread n) ≡ [] = get_or_past scripts.threads n [] past in
      let within : length (items_of history (Who.Thread n)) < length (script_of scripts (Who.Thread n)) = slice_get_within (script_of scripts (Who.Thread n)) (length (items_of history (Who.Thread n))) call next in
      absurd (omega (arith, within, ap length none))
]
