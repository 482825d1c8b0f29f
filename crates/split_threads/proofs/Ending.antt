-- How the World that came out of a turn ends its round.
use Rattle.std.specs.Prelude.{◌≡◌, ◌≢◌, ◌<◌, ◌≤◌, ◌+◌, ◌^◌, ℕ, true, false, List, [], length, slice_get, Some, None, Ok, Err, IfOk, Result, refl}
use Rattle.std.proofs.Common.{arith, ap, ◌∙◌, sym, subst, inl, inr}
use Rattle.std.proofs.lemmas.Bool.{cases_lt}
use Rattle.thread_laws.specs.world_view_laws.pm_model.declared.Cell.{Cell}
use Rattle.thread_laws.specs.world_view_laws.pm_model.Parts.{Part}
use Rattle.thread_laws.specs.world_view_laws.pm_model.Powers.{is_on, Steps, Supply}
use Rattle.thread_laws.specs.world_view_laws.posix_types.declared.call.Call.{Call}
use Rattle.thread_laws.specs.world_view_laws.posix_types.declared.call.Who.{Who}
use Rattle.thread_laws.specs.world_view_laws.posix_types.declared.item.Item.{Item}
use Rattle.thread_laws.specs.world_view_laws.posix_spec.Run.{Unfinished}
use Rattle.thread_laws.specs.world_view_laws.posix_spec.Scripted.{items_of}
use Rattle.thread_laws.specs.world_view_laws.live_model.Standing.{JobOut}
use Rattle.thread_laws.specs.world_view_laws.list_laws.Members.{In}
use Rattle.thread_laws.specs.world_view_laws.Rounds.{IsLeft, LosesRound, MayUnmount}
use Rattle.thread_laws.specs.world_view_laws.Views.{next_of, WorldView}
use Rattle.split_world.specs.world_parts.Answers.{IsEnded, IsReady}
use Rattle.split_world.specs.world_parts.declared.outcomes.Crashed.{Crashed}
use Rattle.split_world.specs.world_parts.declared.outcomes.Ended.{Ended}
use Rattle.split_world.specs.world_parts.declared.outcomes.Ready.{Ready}
use Rattle.thread_laws.specs.EndsLaws.{LostIsBounded, LostMayCrash}
use Rattle.thread_laws.specs.MovesLaws.{AreFewActs}
use Rattle.thread_laws.specs.Stands.{IsInRound}
use Rattle.thread_laws.specs.world_view_laws.file_calls.declared.names.outcomes.NoMemory.{NoMemory}
use Rattle.thread_laws.specs.Hands.{lap_of}
use Rattle.split_threads.specs.Rounds.{IsLeftOf, IsTurned, IsTurnedFrom}
use Rattle.split_threads.specs.declared.closes.Turned.{Turned}
use Rattle.split_threads.proofs.Closing.{past_default}

-- ---- whether a caller has a call left

-- no caller has a job out
pub not_out : (w : WorldView) (who : Who) → w.pending ≡ [] → IsReady w who Ready.Out → ⊥
not_out w who none (p, there, of) = absurd (subst (λ (ps : List JobOut). In p ps) none there)

-- whoever is not at its end has a call left
pub left_by : (w : WorldView) (who : Who) (ready : Ready) → w.pending ≡ [] → IsReady w who ready → (ready ≡ Ready.ScriptEnd → ⊥) → next_of w who ≢ None
left_by w who Ready.Out none is other = absurd (not_out w who none is)
left_by w who Ready.ScriptEnd none is other = absurd (other refl)
left_by w who Ready.RoundOver none is other = is.1
left_by w who (Ready.Busy ino holder) none is other = λ gone. (let never : Some is.3.call ≡ None = sym is.3.next ∙ gone in cc)
left_by w who Ready.Yes none is other = is.2

-- a thread that is not there has none
pub none_past : (w : WorldView) (n : ℕ) → length w.scripts.threads ≤ n → next_of w (Who.Thread n) ≡ None
none_past w n past = ap (λ (calls : List Call). slice_get calls (length (items_of w.history (Who.Thread n)))) (past_default w.scripts.threads n [] past)

-- all threads below a number are at their ends
abbrev pub AtEnds : WorldView → ℕ → Type 0
AtEnds w number = (n : ℕ) → n < number → next_of w (Who.Thread n) ≡ None

pub ends_more : (w : WorldView) (number : ℕ) → AtEnds w number → next_of w (Who.Thread number) ≡ None → AtEnds w (number + 1)
ends_more w number so_far ended n below = elim (cases_lt n number) [
  | inl before ↦ so_far n before
  | inr past ↦ (let same : number ≡ n = omega (arith, past, below) in subst (λ (m : ℕ). next_of w (Who.Thread m) ≡ None) same ended)
]

pub all_ends : (w : WorldView) (number : ℕ) → AtEnds w number → length w.scripts.threads ≤ number → next_of w Who.Setup ≡ None → (who : Who) → next_of w who ≡ None
all_ends w number so_far all ended Who.Setup = ended
all_ends w number so_far all ended (Who.Thread n) = elim (cases_lt n number) [
  | inl before ↦ so_far n before
  | inr past ↦ none_past w n (omega (arith, all, past))
]

-- ---- what is left

left_same : (w : WorldView) (pm : List Cell) (history : List Item) (unfinished : List Unfinished) → IsLeft w pm history unfinished → IsLeftOf w pm history unfinished
left_same w pm history unfinished left = record { last = w; geometry = refl; start = refl; scripts = refl; same = refl; left = left }

-- A CRASH of a World that lost its power
pub crashed_turns : (w : WorldView) (power : Supply) (crashed : Crashed) → IsInRound w power → w.lost ≡ true → IsLeft w crashed.pm crashed.history.items crashed.unfinished.items
    → IsTurned w power (Turned.Ended (Ended.Lost crashed))
crashed_turns w power crashed in_round lost left =
    let bound = in_round.bound lost in
    record { left = left_same w crashed.pm crashed.history.items crashed.unfinished.items left; steps = bound.0; given = bound.1; afforded = bound.2 }

-- AN UNMOUNT
pub unmounted_turns : LostIsBounded → (w : WorldView) (before after : Supply) (lines : List Part) (ended : Ended) → IsInRound w before → w.lost ≡ false → AreFewActs w → MayUnmount w lines
    → Steps (2 ^ 26) before after → IsEnded w after (Ok ended) → IsTurned w before (Turned.Ended ended)
unmounted_turns law w before after lines (Ended.Whole pm history) in_round awake few may steps ended = record {
  left = left_same w pm history.items [] ended.2;
  complete = may.ended;
  tree = ended.4;
}
unmounted_turns law w before after lines (Ended.Lost crashed) in_round awake few may steps ended =
    let off : is_on after ≡ false = elim ended.0 [ inl lost ↦ (let never : true ≡ false = sym lost ∙ awake in cc) | inr off ↦ off ] in
    let bound = law w before after in_round awake few steps off in
    let left = subst (λ (calls : List Unfinished). IsLeft w crashed.pm crashed.history.items calls) (sym ended.2) ended.1 in
    record { left = left_same w crashed.pm crashed.history.items crashed.unfinished.items left; steps = bound.0; given = bound.1; afforded = bound.2 }

-- A CHECKPOINT THAT LOST ITS POWER, and a crash
pub lost_turns : LostMayCrash → (old new : WorldView) (before after : Supply) (crashed : Crashed) → IsInRound old before → old.lost ≡ false → old.pending ≡ [] → Steps (2 ^ 26) before after
    → LosesRound old new after → AreFewActs new → IsLeft new crashed.pm crashed.history.items crashed.unfinished.items → IsTurned old before (Turned.Ended (Ended.Lost crashed))
lost_turns law old new before after crashed in_round awake none steps loses few left =
    let may = law old new before after in_round awake none steps loses few in
    let bound = may.1 (ap (λ (w : WorldView). w.lost) loses.new_is) in
    record {
      left = record {
        last = new;
        geometry = ap (λ (w : WorldView). w.geometry) loses.new_is;
        start = ap (λ (w : WorldView). w.start) loses.new_is;
        scripts = ap (λ (w : WorldView). w.scripts) loses.new_is;
        same = ap (λ (w : WorldView). w.history) loses.new_is;
        left = left;
      };
      steps = bound.0;
      given = sym steps.given ∙ bound.1;
      afforded = omega (arith, bound.2, ap (λ (w : WorldView). length w.history) loses.new_is);
    }

-- ---- of a round that began with another World

pub from_turned : (w last : WorldView) (power after : Supply) (turned : Result Turned NoMemory) → lap_of last ≡ lap_of w → after.given ≡ power.given → IsInRound last after → IfOk turned (IsTurned last after)
    → IfOk turned (IsTurnedFrom w power)
from_turned w last power after (Ok turned) lap given in_round is = record { last = last; after = after; lap = lap; given = given; in_round = in_round; turned_is = is }
from_turned w last power after (Err e) lap given in_round is = is
