-- How a run goes, and how it ends.
use Rattle.std.specs.Prelude.{◌≡◌, ◌≢◌, ◌+◌, ◌^◌, ℕ, true, false, [], Option, Some, None, IsSome, Ok}
use Rattle.run_laws.specs.crash_spec.Orders.{Order}
use Rattle.schedule.specs.declared.picks.Picker.{Picker}
use Rattle.run_laws.specs.pm_model.Powers.{is_on, Steps, Supply}
use Rattle.run_laws.specs.posix_spec.Scripted.{IsComplete}
use Rattle.run_laws.specs.world_view_laws.Losses.{KeepsActed}
use Rattle.run_laws.specs.world_view_laws.Rounds.{IsLeft, MayUnmount}
use Rattle.run_laws.specs.world_view_laws.Views.{calls_out, WorldView}
use Rattle.run_laws.specs.Between.{Between, CanCrash, IsLater}
use Rattle.run_laws.specs.Held.{filled_of, lines_in, OutView}
use Rattle.run_laws.specs.EventsPaid.{IsPaid, IsPaidOff, PaysForActed}
use Rattle.run_laws.specs.Course.{setting_of}
use Rattle.run_laws.specs.Runs.{AreLeft, IsBelow, IsLostRun, IsWholeRun}
use Rattle.split_machine.specs.declared.outstanding.Acted.{Acted}
use Rattle.split_machine.specs.declared.runs.End.{End}
use Rattle.split_machine.specs.Events.{IsOnCourse}
use Rattle.split_world.specs.world_parts.Answers.{IsEnded}
use Rattle.split_world.specs.world_parts.declared.outcomes.Ended.{Ended}

-- so many events are left until the cut
abbrev pub IsUntil : Option ℕ → Option ℕ → ℕ → Type 0
IsUntil None None events = Unit {0}
IsUntil None (Some left) events = ⊥
IsUntil (Some cut) None events = ⊥
IsUntil (Some cut) (Some left) events = cut ≡ events + left

-- with one event less
abbrev pub IsOneLess : Option ℕ → Option ℕ → Type 0
IsOneLess None less = less ≡ None
IsOneLess (Some left) less = (n : ℕ) × (less ≡ Some n) × (left ≡ n + 1)

-- behind a step: the end of a round for want of space is no event
abbrev pub IsLeftAfter : Option ℕ → Acted → Option ℕ → Type 0
IsLeftAfter left Acted.Event less = IsOneLess left less
IsLeftAfter left Acted.RoundOver less = less ≡ left
IsLeftAfter left Acted.PowerLost less = less ≡ left

-- ---- what the events of a run leave

-- A moment of a run, between two events: where a job is out the power is on; and what was done is paid for.
pub record IsReached (first : WorldView) (w : WorldView) (out : OutView) (before now : Supply) : Type 0 where
  pub later : IsLater first w
  pub between : Between w out
  pub on : out.jobs ≢ [] → is_on now ≡ true
  pub paid : IsPaid before now w out.jobs

-- so many events led to it, and fewer are left until the cut
pub record IsLed (first : WorldView) (order : Order) (cut left : Option ℕ) (w : WorldView) (out : OutView) (picker : Picker) : Type 0 where
  pub events : ℕ
  pub course : IsOnCourse first order events w out picker
  pub until : IsUntil cut left events

-- all calls returned, with fewer events than the cut's
pub record HasAll (first : WorldView) (order : Order) (cut : Option ℕ) (w : WorldView) (out : OutView) (before now : Supply) : Type 0 where
  pub events : ℕ
  pub picker : Picker
  pub course : IsOnCourse first order events w out picker
  pub below : IsBelow events cut

-- exactly so many events as the cut's
pub record IsCutAt (first : WorldView) (order : Order) (cut : Option ℕ) (w : WorldView) (out : OutView) (before now : Supply) : Type 0 where
  pub events : ℕ
  pub picker : Picker
  pub course : IsOnCourse first order events w out picker
  pub cut_is : cut ≡ Some events

-- the power was off before the next event or went in it, behind fewer than the cut's: nothing returned since, and one call more may have begun
pub record HasLost (first : WorldView) (order : Order) (cut : Option ℕ) (w : WorldView) (out : OutView) (before now : Supply) : Type 0 where
  pub was : WorldView
  pub out_was : OutView
  pub events : ℕ
  pub picker : Picker
  pub between : Between was out_was
  pub course : IsOnCourse first order events was out_was picker
  pub below : IsBelow events cut
  pub history : w.history ≡ was.history
  pub left : AreLeft (setting_of first) order course.course (calls_out w)

-- how it came, in this order
abbrev pub HasCome : WorldView → Order → Option ℕ → WorldView → OutView → Supply → Supply → End → Type 0
HasCome first order cut w out before now End.All = HasAll first order cut w out before now
HasCome first order cut w out before now End.Cut = IsCutAt first order cut w out before now
HasCome first order cut w out before now End.PowerLost = HasLost first order cut w out before now

-- where the power was for a number of steps, each call that is out and acted took one
abbrev pub PaysForAll : Supply → Supply → WorldView → OutView → Type 0
PaysForAll before now w out = (given : ℕ) → before.given ≡ Some given → PaysForActed before now w out given

-- WHERE THE EVENTS OF A RUN END, whatever the order was: all calls returned; the cut is reached; or the power went.
abbrev pub IsAtEnd : WorldView → WorldView → OutView → Supply → Supply → End → Type 0
IsAtEnd first w out before now End.All = IsReached first w out before now × IsSome out.log × IsComplete w.scripts w.history
IsAtEnd first w out before now End.Cut = IsReached first w out before now
IsAtEnd first w out before now End.PowerLost = IsLater first w × CanCrash w out × (is_on now ≡ false) × IsPaidOff before now w × PaysForAll before now w out

-- ---- the end

-- what the end asks for
abbrev pub CanEnd : WorldView → OutView → End → Type 0
CanEnd w out End.All = (w.usable ≡ true) × MayUnmount w (lines_in out.log)
CanEnd w out End.Cut = CanCrash w out
CanEnd w out End.PowerLost = CanCrash w out

-- a crash leaves this, and keeps the promise for the calls that may have acted
abbrev pub IsCrashed : WorldView → OutView → Supply → Supply → Ended → Type 0
IsCrashed w out before after (Ended.Whole pm history) = ⊥
IsCrashed w out before after (Ended.Lost crashed) =
    IsLeft w crashed.pm crashed.history.items crashed.unfinished.items × (after ≡ before) × KeepsActed w (lines_in out.log) (filled_of out.jobs) crashed.pm

abbrev pub IsEndedBy : WorldView → OutView → Supply → Supply → End → Ended → Type 0
IsEndedBy w out before after End.All ended = Steps (2 ^ 26) before after × IsEnded w after (Ok ended)
IsEndedBy w out before after End.Cut ended = IsCrashed w out before after ended
IsEndedBy w out before after End.PowerLost ended = IsCrashed w out before after ended

-- HOW A RUN ENDS: with all calls, and the power on; or by a power loss.
abbrev pub IsRunEnded : WorldView → Order → Option ℕ → Supply → Supply → Ended → Type 0
IsRunEnded w order cut before after (Ended.Whole pm history) = IsWholeRun w order cut before after pm history.items
IsRunEnded w order cut before after (Ended.Lost crashed) = IsLostRun w order cut before after crashed.pm crashed.history.items crashed.unfinished.items
