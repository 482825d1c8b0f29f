-- What a run of scripts is: what it begins with, how it may end, and what it leaves.
use Rattle.std.specs.Prelude.{◌≡◌, ◌≢◌, ◌⊎◌, ◌≤◌, ◌+◌, ◌*◌, ◌^◌, ⊤, ℕ, Bool, true, false, List, [], length, IsSome, None, Option, Some}
use Rattle.posix_types.specs.declared.call.Mode.{Mode}
use Rattle.posix_types.specs.declared.item.Item.{Item}
use Rattle.posix_types.specs.declared.reply.Shape.{Shape}
use Rattle.posix_types.specs.declared.tree.TreeEntry.{TreeEntry}
use Rattle.posix_types.specs.Scripts.{Scripts}
use Rattle.command_line.specs.Command.{Options}
use Rattle.command_line.specs.posix_spec.Afforded.{Afforded}
use Rattle.command_line.specs.posix_spec.Run.{Unfinished, IsLegal, run}
use Rattle.command_line.specs.posix_spec.Scripted.{IsComplete, Scripted}
use Rattle.command_line.specs.posix_spec.State.{State}
use Rattle.command_line.specs.posix_spec.Tree.{start, tree}
use Rattle.command_line.specs.posix_spec.Unfinished.{AreUnfinished}
use Rattle.split_machine.specs.crash_spec.Machine.{Setting}
use Rattle.split_machine.specs.crash_spec.Permitted.{Permitted}
use Rattle.split_machine.specs.crash_spec.Posix.{StrongPosix}
use Rattle.split_machine.specs.crash_spec.Schedules.{Course, Scheduled}
use Rattle.split_machine.specs.run_laws.Runs.{IsBegun}
use Rattle.split_machine.specs.run_laws.Acted.{AreSomeOf}
use Rattle.split_machine.specs.run_laws.Changes.{ChangesTreeAtMost}

-- WHAT IS RUN: scripts, on an image with this tree, this shape and so many lines of its log, in a mode.
pub record Task : Type 0 where
  pub image : List TreeEntry
  pub shape : Shape
  pub lines : ℕ
  pub scripts : Scripts
  pub mode : Mode

abbrev pub task_on : List TreeEntry → Shape → ℕ → Scripts → Mode → Task
task_on tree shape lines scripts mode = record { image = tree; shape = shape; lines = lines; scripts = scripts; mode = mode }

-- the state that a run begins in
abbrev pub beginning : Task → State
beginning task = start task.image task.shape task.mode

-- the setting of its machine over events
abbrev pub setting : Task → Setting
setting task = record { start = beginning task; scripts = task.scripts; lines = task.lines }

-- ---- the events of a run
-- at most so many as a cut gives
abbrev pub AreWithin : ℕ → Option ℕ → Type 0
AreWithin events None = ⊤
AreWithin events (Some cut) = events ≤ cut

-- ONE CALL MORE HAD BEGUN, and lost its power as it did, which needs a power for a number of steps: it could begin, and the turn was its
-- caller's. It stands behind those that are out.
pub record HasBegun (task : Task) (options : Options) (course : Course) (unfinished : List Unfinished) : Type 0 where
  pub stops : IsSome options.stop
  pub begun : IsBegun (setting task) options.order course unfinished

-- SO MANY EVENTS, in the order that is asked for and not more than a cut gives, leave the history and these calls; and these are the
-- unfinished calls, but for one more that lost its power as it began.
pub record IsScheduled (task : Task) (options : Options) (history : List Item) (unfinished : List Unfinished) : Type 0 where
  pub events : ℕ
  pub calls : List Unfinished
  pub scheduled : Scheduled (setting task) options.order events history calls
  pub within : AreWithin events options.cut
  pub are_left : (unfinished ≡ calls) ⊎ HasBegun task options scheduled.course unfinished

-- ---- how a run ends

-- ALL CALLS RETURNED, none is unfinished, and the tree is that of the history.
pub record IsWhole (task : Task) (history : List Item) (unfinished : List Unfinished) (left : List TreeEntry) : Type 0 where
  pub complete : IsComplete task.scripts history
  pub none_left : unfinished ≡ []
  pub tree : left ≡ tree (run (beginning task) history)

-- A STOP WAS GIVEN, of no more steps than these calls can take.
pub record IsStopped (task : Task) (options : Options) (history : List Item) : Type 0 where
  pub steps : ℕ
  pub given : options.stop ≡ Some steps
  pub afforded : Afforded steps history task.scripts task.mode

-- A CUT WAS GIVEN behind just so many events, and no call more had begun.
pub record IsCut (options : Options) (events : ℕ) (calls unfinished : List Unfinished) : Type 0 where
  pub cut_is : options.cut ≡ Some events
  pub none_began : unfinished ≡ calls

-- A STOP IS KEPT. Some of the unfinished calls acted, in their order: the mode permits the tree with these alone. And they and the calls of
-- the history that changed the tree are together at most as many as steps were given.
pub record KeepsStop (task : Task) (history : List Item) (unfinished : List Unfinished) (left : List TreeEntry) (steps : ℕ) : Type 0 where
  pub acted : List Unfinished
  pub some : AreSomeOf acted unfinished
  pub permitted : Permitted task.mode (beginning task) history acted left
  pub changed : ℕ
  pub each : ChangesTreeAtMost (beginning task) history changed
  pub most : changed + length acted ≤ steps

-- A RUN ended with this history and these unfinished calls, and left this tree. The history is legal and follows the
-- scripts, the unfinished calls are next calls of theirs, both are scheduled, and the mode permits the tree, POSIX mode by the stronger
-- rule for bytes too. It ended whole, or by a stop, or by a cut; and outside POSIX mode a stop is kept.
pub record IsRun (task : Task) (options : Options) (history : List Item) (unfinished : List Unfinished)
    (left : List TreeEntry) : Type 0 where
  pub legal : IsLegal (beginning task) history
  pub scripted : Scripted task.scripts history
  pub open_calls : AreUnfinished task.scripts history unfinished
  pub permitted : Permitted task.mode (beginning task) history unfinished left
  pub strongly : task.mode ≡ Mode.Posix → StrongPosix (beginning task) history unfinished left
  pub course : IsScheduled task options history unfinished
  pub ended : IsWhole task history unfinished left ⊎ (IsStopped task options history ⊎ IsCut options course.events course.calls unfinished)
  pub kept : task.mode ≢ Mode.Posix → (steps : ℕ) → options.stop ≡ Some steps → KeepsStop task history unfinished left steps

-- ---- runs by threads of the machine
-- A STOP WAS GIVEN, of no more steps than so many calls can take, whatever they are.
pub record IsStoppedByThreads (options : Options) (history : List Item) : Type 0 where
  pub steps : ℕ
  pub given : options.stop ≡ Some steps
  pub afforded : steps ≤ 2 ^ 31 * (length history + 2)

-- A RUN BY THREADS: as of any run the history is legal and follows the scripts, the unfinished calls are next calls of theirs, and the mode
-- permits the tree, POSIX mode by the stronger rule for bytes too. It ended whole, or by a stop. Which of the histories it is, is the threads' choice.
pub record IsThreadRun (task : Task) (options : Options) (history : List Item) (unfinished : List Unfinished)
    (left : List TreeEntry) : Type 0 where
  pub legal : IsLegal (beginning task) history
  pub scripted : Scripted task.scripts history
  pub open_calls : AreUnfinished task.scripts history unfinished
  pub permitted : Permitted task.mode (beginning task) history unfinished left
  pub strongly : task.mode ≡ Mode.Posix → StrongPosix (beginning task) history unfinished left
  pub ended : IsWhole task history unfinished left ⊎ IsStoppedByThreads options history

-- A RUN, by events or by threads
abbrev pub IsRunBy : Bool → Task → Options → List Item → List Unfinished → List TreeEntry → Type 0
IsRunBy false task options history unfinished left = IsRun task options history unfinished left
IsRunBy true task options history unfinished left = IsThreadRun task options history unfinished left

-- ---- laws
-- without a stop a run by threads is whole
abbrev pub ThreadRunsAreWhole : Type 0
ThreadRunsAreWhole =
    (task : Task) (options : Options) (history : List Item) (unfinished : List Unfinished) (left : List TreeEntry) → options.stop ≡ None
    → IsThreadRun task options history unfinished left → IsWhole task history unfinished left

-- without a cut and a stop a run is whole
abbrev pub RunsAreWhole : Type 0
RunsAreWhole =
    (task : Task) (options : Options) (history : List Item) (unfinished : List Unfinished) (left : List TreeEntry) → options.cut ≡ None → options.stop ≡ None
    → IsRun task options history unfinished left → IsWhole task history unfinished left

-- with a cut and without a stop just so many events ran; or fewer, and it is whole
abbrev pub RunsAreCut : Type 0
RunsAreCut =
    (task : Task) (options : Options) (history : List Item) (unfinished : List Unfinished) (left : List TreeEntry) (cut : ℕ) → options.cut ≡ Some cut → options.stop ≡ None
    → (is : IsRun task options history unfinished left) → ((is.course.events ≡ cut) × (unfinished ≡ is.course.calls)) ⊎ ((is.course.events ≤ cut) × IsWhole task history unfinished left)
