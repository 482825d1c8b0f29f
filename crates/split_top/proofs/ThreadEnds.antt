-- How a run by threads ended, and what was found on the device.
use Rattle.std.proofs.Common.{◌≡◌, ◌⊎◌, ◌*◌, ℕ, List, [], length, Option, sym, subst, inl, inr}
use Rattle.command_line.specs.pm_model.declared.Cell.{Cell}
use Rattle.command_line.specs.layout_model.Places.{Geometry}
use Rattle.command_line.specs.Command.{Options}
use Rattle.command_line.specs.posix_spec.Run.{IsLegal, Unfinished}
use Rattle.command_line.specs.posix_spec.Scripted.{IsComplete, Scripted}
use Rattle.command_line.specs.posix_spec.State.{State}
use Rattle.command_line.specs.posix_spec.Unfinished.{AreUnfinished}
use Rattle.posix_types.specs.declared.call.Mode.{Mode}
use Rattle.posix_types.specs.declared.item.Item.{Item}
use Rattle.posix_types.specs.declared.tree.TreeEntry.{TreeEntry}
use Rattle.posix_types.specs.Scripts.{Scripts}
use Rattle.split_machine.specs.run_laws.Runs as machine
use Rattle.split_machine.specs.crash_spec.Permitted.{Permitted, StronglyPermitted}
use Rattle.split_machine.specs.crash_spec.StrongLaws.{Permitted-Strongly}
use Rattle.split_machine.specs.world_image_laws.Promised.{KeepsPromise}
use Rattle.split_machine.specs.world_image_laws.Starts.{has_setting}
use Rattle.split_machine.specs.world_view_laws.Views.{WorldView}
use Rattle.split_threads.specs.Ends.{IsEndedByThreads, IsFirst, IsLostByThreads, IsRanByThreads}
use Rattle.split_threads.specs.world_parts.declared.outcomes.Ended.{Ended}
use Rattle.split_top.specs.Found.{IsEndedAs, IsLeftAs, IsReadBack}
use Rattle.split_top.specs.Runs.{beginning, IsStoppedByThreads, IsThreadRun, IsWhole, Task}
use Rattle.split_top.specs.Worlds.{IsWorldOn}
use Rattle.split_top.proofs.Endings.{one_tree}

-- nothing has begun
pub first_is : (w : WorldView) → machine.IsFirst w → IsFirst w
first_is w first = record {
  history = first.history;
  claims = first.claims;
  pending = first.pending;
  over = first.over;
  given_up = first.given_up;
  settled = first.settled;
  acts = first.acts;
  lines_out = first.lines_out;
  on = first.on;
  usable = first.usable;
  lines = first.lines;
  threads = first.threads;
}

module _ (g : Geometry) (task : Task) (w : WorldView) (on : IsWorldOn g task w) where
  left_ran : (pm : List Cell) (history : List Item) (unfinished : List Unfinished) → IsRanByThreads w pm history unfinished → IsLeftAs g pm w.start history unfinished
  left_ran pm history unfinished ran = record {
    size = subst (λ (h : Geometry). length pm ≡ 512 * h.blocks) on.geometry ran.size;
    home = ran.home;
    promise = subst (λ (h : Geometry). KeepsPromise h pm w.start history unfinished) on.geometry ran.promise;
  }

  -- WHAT IT LEAVES of the device
  pub thread_left : (stop : Option ℕ) (ended : Ended) → IsEndedByThreads w stop ended → IsEndedAs g w.start ended
  thread_left stop (Ended.Whole pm history) is = left_ran pm history.items [] is.ran
  thread_left stop (Ended.Lost crashed) is = left_ran crashed.pm crashed.history.items crashed.unfinished.items is.ran

  module _ (options : Options) (history : List Item) (unfinished : List Unfinished) (left : List TreeEntry) (permits : StronglyPermitted w.start.mode w.start history unfinished left) where
    same_mode : (beginning task).mode ≡ task.mode
    same_mode = (has_setting task.image task.shape task.mode).1

    strongly : StronglyPermitted task.mode (beginning task) history unfinished left
    strongly =
        subst (λ (m : Mode). StronglyPermitted m (beginning task) history unfinished left) same_mode
        (subst (λ (s : State). StronglyPermitted s.mode s history unfinished left) on.start permits)

    permitted : Permitted task.mode (beginning task) history unfinished left
    permitted = Permitted-Strongly task.mode (beginning task) history unfinished left strongly

    ran_so : (pm : List Cell) → IsRanByThreads w pm history unfinished → IsWhole task history unfinished left ⊎ IsStoppedByThreads options history → IsThreadRun task options history unfinished left
    ran_so pm ran ended = record {
      legal = subst (λ (s : State). IsLegal s history) on.start ran.legal;
      scripted = subst (λ (s : Scripts). Scripted s history) on.scripts_are ran.scripted;
      open_calls = subst (λ (s : Scripts). AreUnfinished s history unfinished) on.scripts_are ran.open_calls;
      permitted = permitted;
      strongly = λ posix. subst (λ (m : Mode). StronglyPermitted m (beginning task) history unfinished left) posix strongly;
      ended = ended;
    }

    whole_so : (pm : List Cell) → unfinished ≡ [] → IsRanByThreads w pm history unfinished → IsComplete w.scripts history → IsThreadRun task options history unfinished left
    whole_so pm none ran complete =
        ran_so pm ran (inl (record {
          complete = subst (λ (s : Scripts). IsComplete s history) on.scripts_are complete;
          none_left = none;
          tree = one_tree task.mode on.mode (beginning task) history left (subst (λ (calls : List Unfinished). Permitted task.mode (beginning task) history calls left) none permitted);
        }))

    lost_so : (pm : List Cell) → IsLostByThreads w options.stop pm history unfinished → IsThreadRun task options history unfinished left
    lost_so pm is = ran_so pm is.ran (inr (record { steps = is.steps; given = is.given; afforded = is.afforded }))

  -- AND A RUN BY THREADS IT IS
  pub thread_ran : (options : Options) (ended : Ended) (history : List Item) (unfinished : List Unfinished) (left : List TreeEntry) → IsEndedByThreads w options.stop ended
      → IsReadBack g ended history unfinished left → IsThreadRun task options history unfinished left
  thread_ran options (Ended.Whole pm told) history unfinished left is back =
      let ran = subst (λ (h : List Item). IsRanByThreads w pm h unfinished) (sym back.calls.0) (subst (λ (calls : List Unfinished). IsRanByThreads w pm told.items calls) (sym back.calls.1) is.ran) in
      let complete = subst (λ (h : List Item). IsComplete w.scripts h) (sym back.calls.0) is.complete in
      let found = thread_left options.stop (Ended.Whole pm told) is in
      let permits = subst (λ (calls : List Unfinished). StronglyPermitted w.start.mode w.start history calls left) (sym back.calls.1) (back.permitted w.start [] found) in
      whole_so options history unfinished left permits pm back.calls.1 ran complete
  thread_ran options (Ended.Lost crashed) history unfinished left is back =
      let lost = subst (λ (h : List Item). IsLostByThreads w options.stop crashed.pm h unfinished) (sym back.calls.0)
      (subst (λ (calls : List Unfinished). IsLostByThreads w options.stop crashed.pm crashed.history.items calls) (sym back.calls.1) is) in
      let found = thread_left options.stop (Ended.Lost crashed) is in
      let permits = subst (λ (calls : List Unfinished). StronglyPermitted w.start.mode w.start history calls left) (sym back.calls.1) (back.permitted w.start crashed.unfinished.items found) in
      lost_so options history unfinished left permits crashed.pm lost
