-- What a run by threads promises.
use Rattle.std.specs.Prelude.{◌≡◌, ◌≤◌, ◌+◌, ◌*◌, ◌^◌, ℕ, true, false, List, [], length, Option, Some, None}
use Rattle.thread_laws.specs.world_view_laws.pm_model.declared.Cell.{Cell}
use Rattle.thread_laws.specs.world_view_laws.pm_model.Cells.{AllHome}
use Rattle.thread_laws.specs.world_view_laws.posix_types.declared.item.Item.{Item}
use Rattle.thread_laws.specs.world_view_laws.posix_spec.Run.{IsLegal, Unfinished}
use Rattle.thread_laws.specs.world_view_laws.posix_spec.Scripted.{IsComplete, Scripted}
use Rattle.thread_laws.specs.world_view_laws.posix_spec.Unfinished.{AreUnfinished}
use Rattle.thread_laws.specs.world_view_laws.world_image_laws.Promised.{KeepsPromise}
use Rattle.thread_laws.specs.world_view_laws.Views.{WorldView}
use Rattle.split_world.specs.world_parts.Answers.{HasTreeOf}
use Rattle.split_world.specs.world_parts.declared.outcomes.Ended.{Ended}

-- The World as it was mounted: nothing has begun.
pub record IsFirst (w : WorldView) : Type 0 where
  pub history : w.history ≡ []
  pub claims : w.claims ≡ []
  pub pending : w.pending ≡ []
  pub over : w.over ≡ None
  pub given_up : w.given_up ≡ 0
  pub settled : w.settled ≡ 0
  pub acts : w.acts ≡ 0
  pub lines_out : w.lines_out ≡ false
  pub on : w.lost ≡ false
  pub usable : w.usable ≡ true
  pub lines : 1 ≤ w.geometry.log
  pub threads : length w.scripts.threads ≤ 8

-- WHAT A RUN LEFT: its history is legal and follows the scripts; of the unfinished calls each is the next of its caller, one each; nothing of
-- the device is lent, and it keeps the promise.
pub record IsRanByThreads (w : WorldView) (pm : List Cell) (history : List Item) (unfinished : List Unfinished) : Type 0 where
  pub legal : IsLegal w.start history
  pub scripted : Scripted w.scripts history
  pub open_calls : AreUnfinished w.scripts history unfinished
  pub size : length pm ≡ 512 * w.geometry.blocks
  pub home : AllHome pm
  pub promise : KeepsPromise w.geometry pm w.start history unfinished

-- ALL CALLS RETURNED, and whatever the device is found as, its tree is that of the history.
pub record IsWholeByThreads (w : WorldView) (pm : List Cell) (history : List Item) : Type 0 where
  pub ran : IsRanByThreads w pm history []
  pub complete : IsComplete w.scripts history
  pub tree : HasTreeOf (record w { history = history }) pm

-- THE POWER WAS LOST: it was for so many steps, which so many calls can take.
pub record IsLostByThreads (w : WorldView) (stop : Option ℕ) (pm : List Cell) (history : List Item) (unfinished : List Unfinished) : Type 0 where
  pub ran : IsRanByThreads w pm history unfinished
  pub steps : ℕ
  pub given : stop ≡ Some steps
  pub afforded : steps ≤ 2 ^ 31 * (length history + 2)

-- HOW A RUN BY THREADS ENDS: whole; or by a loss of the power, which comes only where that was for a number of steps.
abbrev pub IsEndedByThreads : WorldView → Option ℕ → Ended → Type 0
IsEndedByThreads w stop (Ended.Whole pm history) = IsWholeByThreads w pm history.items
IsEndedByThreads w stop (Ended.Lost crashed) = IsLostByThreads w stop crashed.pm crashed.history.items crashed.unfinished.items
