-- What a run of the scripts of a World is.
use Rattle.std.specs.Prelude.{◌≡◌, ◌≢◌, ◌⊎◌, ◌≤◌, ◌<◌, ◌+◌, ◌*◌, ◌^◌, ℕ, true, false, List, [], ◌∷◌, ◌++◌, length, Option, None, Some}
use Rattle.round_log.specs.pm_model.declared.Cell.{Cell}
use Rattle.round_log.specs.pm_model.Cells.{AllHome}
use Rattle.round_log.specs.pm_model.Powers.{is_on, Supply}
use Rattle.world_view_laws.specs.posix_types.declared.call.Mode.{Mode}
use Rattle.world_view_laws.specs.posix_types.declared.item.Item.{Item}
use Rattle.world_view_laws.specs.posix_spec.Afforded.{Afforded}
use Rattle.world_view_laws.specs.posix_spec.Run.{Unfinished, IsLegal}
use Rattle.world_view_laws.specs.posix_spec.Scripted.{IsComplete, Scripted}
use Rattle.world_view_laws.specs.posix_spec.Unfinished.{AreUnfinished}
use Rattle.world_view_laws.specs.posix_types.declared.call.Call.{Call}
use Rattle.world_view_laws.specs.posix_types.declared.call.Who.{Who}
use Rattle.world_view_laws.specs.crash_spec.Machine.{Begins, Setting, unfinished_of}
use Rattle.world_view_laws.specs.crash_spec.Orders.{Order, Picker, Picks}
use Rattle.world_view_laws.specs.crash_spec.Schedules.{Course, runnable}
use Rattle.world_view_laws.specs.world_image_laws.Promised.{KeepsPromise}
use Rattle.world_view_laws.specs.Views.{WorldView}
use Rattle.run_laws.specs.Acted.{AreSomeOf}
use Rattle.run_laws.specs.Changes.{ChangesTreeAtMost}
use Rattle.run_laws.specs.Held.{OutView}
use Rattle.run_laws.specs.Course.{Leads, setting_of}

-- The World as it was mounted: nothing has begun.
pub record IsFirst (w : WorldView) : Type 0 where
  pub history : w.history ≡ []
  pub claims : w.claims ≡ []
  pub pending : w.pending ≡ []
  pub unfinished : w.unfinished ≡ []
  pub over : w.over ≡ None
  pub given_up : w.given_up ≡ 0
  pub settled : w.settled ≡ 0
  pub acts : w.acts ≡ 0
  pub lines_out : w.lines_out ≡ false
  pub on : w.lost ≡ false
  pub usable : w.usable ≡ true
  pub lines : 1 ≤ w.geometry.log
  pub few : w.geometry.log < 2 ^ 32
  pub threads : length w.scripts.threads ≤ 8

-- A STOP IS KEPT: the device keeps the promise with some of the unfinished calls alone, those that acted, in their order; and these and the
-- calls of the history that changed the tree are together at most as many as steps were given.
pub record KeepsStop (w : WorldView) (pm : List Cell) (history : List Item) (unfinished : List Unfinished) (given : ℕ) : Type 0 where
  pub acted : List Unfinished
  pub some : AreSomeOf acted unfinished
  pub promise : KeepsPromise w.geometry pm w.start history acted
  pub changed : ℕ
  pub each : ChangesTreeAtMost w.start history changed
  pub most : changed + length acted ≤ given

-- WHAT A RUN LEFT: its history is legal and follows the scripts; the unfinished calls are the next of their callers, one each; nothing of the
-- device is lent, and it keeps the promise. It took steps that are afforded; and where the power was for a number of steps, the stop is kept,
-- outside POSIX mode.
pub record IsRan (w : WorldView) (before after : Supply) (pm : List Cell) (history : List Item) (unfinished : List Unfinished) : Type 0 where
  pub legal : IsLegal w.start history
  pub scripted : Scripted w.scripts history
  pub open_calls : AreUnfinished w.scripts history unfinished
  pub size : length pm ≡ 512 * w.geometry.blocks
  pub home : AllHome pm
  pub promise : KeepsPromise w.geometry pm w.start history unfinished
  pub given : after.given ≡ before.given
  pub later : before.taken ≤ after.taken
  pub afforded : (steps : ℕ) → after.taken ≡ before.taken + steps → Afforded steps history w.scripts w.start.mode
  pub kept : w.start.mode ≢ Mode.Posix → (given : ℕ) → before.given ≡ Some given → KeepsStop w pm history unfinished given

-- SCHEDULED: so many events in this order, of the World and of the machine beside it, leave the history and these calls.
pub record IsScheduled (w : WorldView) (order : Order) (events : ℕ) (history : List Item) (calls : List Unfinished) : Type 0 where
  pub last : WorldView
  pub out : OutView
  pub course : Course
  pub leads : Leads order w events last out course
  pub history_is : history ≡ course.machine.history
  pub calls_are : calls ≡ unfinished_of course.machine

-- the number of events is below that of a cut
abbrev pub IsBelow : ℕ → Option ℕ → Type 0
IsBelow events None = Unit {0}
IsBelow events (Some cut) = events < cut

-- A WHOLE RUN: all calls returned, with the power on; scheduled with all its events, which are fewer than those of a cut.
pub record IsWholeRun (w : WorldView) (order : Order) (cut : Option ℕ) (before after : Supply) (pm : List Cell) (history : List Item) : Type 0 where
  pub ran : IsRan w before after pm history []
  pub complete : IsComplete w.scripts history
  pub on : is_on after ≡ true
  pub events : ℕ
  pub below : IsBelow events cut
  pub scheduled : IsScheduled w order events history []

-- the turn is this caller's: the set-up comes first, and is no pick; a thread is picked of those that can run
abbrev pub IsToRun : Setting → Order → Course → Who → Type 0
IsToRun g order c Who.Setup = Unit {0}
IsToRun g order c (Who.Thread n) = (picker : Picker) × Picks (runnable g c.machine) c.picker order n picker

-- A CALL MORE had begun, where the power went: it could, and the turn was its caller's; it stands behind those that are out.
pub record IsBegun (g : Setting) (order : Order) (c : Course) (unfinished : List Unfinished) : Type 0 where
  pub who : Who
  pub call : Call
  pub begins : Begins g c.machine who call
  pub turn : IsToRun g order c who
  pub behind : unfinished ≡ unfinished_of c.machine ++ (who, call) ∷ []

-- the unfinished calls are those that are out; or one more stands behind them, which lost its power as it began
abbrev pub AreLeft : Setting → Order → Course → List Unfinished → Type 0
AreLeft g order c unfinished = (unfinished ≡ unfinished_of c.machine) ⊎ IsBegun g order c unfinished

-- THE POWER WENT, in the next event, a Checkpoint or the unmount, behind some number of events that is below a cut's: these are scheduled, and leave the
-- history and the unfinished calls, but for the one that lost its power as it began.
pub record IsPowerOff (w : WorldView) (order : Order) (cut : Option ℕ) (after : Supply) (history : List Item) (unfinished : List Unfinished) : Type 0 where
  pub off : is_on after ≡ false
  pub events : ℕ
  pub below : IsBelow events cut
  pub calls : List Unfinished
  pub scheduled : IsScheduled w order events history calls
  pub left : AreLeft (setting_of w) order scheduled.course unfinished

-- IT WAS CUT: behind exactly so many events.
pub record IsCut (w : WorldView) (order : Order) (cut : Option ℕ) (history : List Item) (unfinished : List Unfinished) : Type 0 where
  pub events : ℕ
  pub cut_is : cut ≡ Some events
  pub scheduled : IsScheduled w order events history unfinished

-- A RUN THAT LOST ITS POWER: it went, or was cut.
pub record IsLostRun (w : WorldView) (order : Order) (cut : Option ℕ) (before after : Supply) (pm : List Cell) (history : List Item) (unfinished : List Unfinished) : Type 0 where
  pub ran : IsRan w before after pm history unfinished
  pub lost : IsPowerOff w order cut after history unfinished ⊎ IsCut w order cut history unfinished
