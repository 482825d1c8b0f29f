-- The end of a run.
use Rattle.std.specs.Prelude.{◌≡◌, ◌≢◌, ◌≤◌, ◌+◌, false, true, List, [], length, Err, Ok, Result, refl}
use Rattle.std.specs.Vec.{vec_capacity}
use Rattle.std.proofs.Common.{arith, ap, inr, sym, subst}
use Rattle.world_parts.specs.pm_model.declared.Cell.{Cell}
use Rattle.world_parts.specs.log_checkpoint.fsync_relink.Publishes.{IsPublishPaid}
use Rattle.world_parts.specs.pm_model.Parts.{Part}
use Rattle.world_parts.specs.pm_model.Powers.{is_on, Supply}
use Rattle.world_parts.specs.layout_model.Places.{Geometry}
use Rattle.world_parts.specs.k_journal.declared.outcomes.Commit.{Commit}
use Rattle.world_parts.specs.k_split_model.View.{View}
use Rattle.posix_types.specs.declared.call.Mode.{Mode}
use Rattle.world_parts.specs.crash_spec.Permitted.{StronglyPermitted}
use Rattle.world_parts.specs.crash_spec.RelationLaws.{Strict-idle, Sync-idle}
use Rattle.world_parts.specs.posix_spec.Run.{Unfinished}
use Rattle.world_parts.specs.posix_spec.Tree.{tree}
use Rattle.world_parts.specs.world_view_laws.Rounds.{IsLeft}
use Rattle.world_parts.specs.world_view_laws.Views.{calls_out, state_of, WorldView}
use Rattle.world_parts.specs.Answers.{HasEmptyLog, HasTreeOf, IsEnded}
use Rattle.world_parts.specs.declared.outcomes.Crashed.{Crashed}
use Rattle.world_parts.specs.declared.outcomes.Ended.{Ended}
use Rattle.world_parts.specs.declared.parts.Parts.{Parts}
use Rattle.world_parts.specs.Seen.{IsKept, seen, unfinished_of}
use Rattle.posix_types.specs.declared.item.Item.{Item}
use Rattle.round_laws.specs.EndsLaws.{EndsRunEmpty, EndsRunWhole, LosesRun}
use Rattle.std.specs.declared.alloc.AllocError.{AllocError}
use Rattle.world_parts.specs.world_view_laws.file_calls.declared.names.outcomes.NoMemory.{NoMemory}
use Rattle.world_rounds.specs.Gathered.{EndsWith, HasGathered}

-- there is room for the calls that had begun
pub calls_room : (p : Parts) → IsKept p → p.lost ≡ false → length p.pending.items + length (unfinished_of p.unfinished) ≤ vec_capacity p.spare
calls_room p kept on =
    let none : length (unfinished_of p.unfinished) ≡ 0 = ap (λ xs. length xs) (kept.world.going on).none_unfinished in
    omega (arith, none, kept.room.calls)

-- what is left, by the device that was taken out
pub left_by : (p : Parts) (m : View) (pm : List Cell) (unfinished : List Unfinished) → pm ≡ m.cells → IsLeft (seen p) m.cells p.history.items unfinished → IsLeft (seen p) pm p.history.items unfinished
left_by p m pm unfinished same left = subst (λ (d : List Cell). IsLeft (seen p) d p.history.items unfinished) (sym same) left

-- and its log
pub empty_by : (g : Geometry) (m : View) (pm : List Cell) → pm ≡ m.cells → HasEmptyLog g m.cells → HasEmptyLog g pm
empty_by g m pm same empty = subst (λ (d : List Cell). HasEmptyLog g d) (sym same) empty

-- Outside POSIX mode the promise with nothing unfinished permits no other tree than that of the history.
pub tree_by : (w : WorldView) (pm : List Cell) → w.start.mode ≢ Mode.Posix → IsLeft w pm w.history [] → HasTreeOf w pm
tree_by w pm other left image is honest shown content_is = by w.start.mode other ((left.promise image is honest).permitted shown content_is) where
  by : (mode : Mode) → mode ≢ Mode.Posix → StronglyPermitted mode w.start w.history [] shown → shown ≡ tree (state_of w)
  by Mode.Strict other permitted = Strict-idle w.start w.history shown permitted
  by Mode.Sync other permitted = Sync-idle w.start w.history shown permitted
  by Mode.Posix other permitted = absurd (other refl)

module _ (whole : EndsRunWhole) (empty : EndsRunEmpty) (loses : LosesRun) (p q : Parts) (lines : List Part) (kept : IsKept p) (on : p.lost ≡ false) (left : Crashed) (pm_is : left.pm ≡ q.k.cells)
    (history_is : left.history.items ≡ p.history.items) where
  -- all is published
  whole_so : (power : Supply) → HasGathered p q lines (Ok Commit.Done) → is_on power ≡ true → IsEnded (seen p) power (Ok (Ended.Whole left.pm left.history))
  whole_so power gathered paid =
      let is_left : IsLeft (seen p) left.pm p.history.items [] =
      left_by p q.k left.pm [] pm_is (whole p.k gathered.home q.k p.tables.tables p.staging q.staging p.files q.files (seen p) lines gathered.ending gathered.gathered)
      in (
        on,
        paid,
        subst (λ (items : List Item). IsLeft (seen p) left.pm items []) (sym history_is) is_left,
        empty_by p.geometry q.k left.pm pm_is (empty p.k gathered.home q.k p.tables.tables p.staging q.staging p.files q.files (seen p) lines gathered.ending gathered.gathered),
        tree_by (seen p) left.pm kept.world.mode is_left,
      )

  -- the power went
  lost_so : (power : Supply) → HasGathered p q lines (Ok Commit.PowerLost) → is_on power ≡ false → left.unfinished.items ≡ calls_out (seen p) → IsEnded (seen p) power (Ok (Ended.Lost left))
  lost_so power gathered paid out = (
    inr paid,
    subst (λ (items : List Item). IsLeft (seen p) left.pm items (calls_out (seen p))) (sym history_is)
        (left_by p q.k left.pm (calls_out (seen p)) pm_is (loses p.k gathered.home q.k p.tables.tables p.staging q.staging p.files q.files (seen p) lines gathered.ending gathered.gathered)),
    out,
  )

  -- THE RUN ENDS with what is left.
  pub run_ends : (commit : Result Commit AllocError) (power : Supply) (answer : Result Ended NoMemory) → HasGathered p q lines commit → IsPublishPaid power commit → left.unfinished.items ≡ calls_out (seen p)
      → EndsWith commit left answer → IsEnded (seen p) power answer
  run_ends (Ok Commit.Done) power answer gathered paid out is = subst (λ (a : Result Ended NoMemory). IsEnded (seen p) power a) (sym is) (whole_so power gathered paid)
  run_ends (Ok Commit.PowerLost) power answer gathered paid out is = subst (λ (a : Result Ended NoMemory). IsEnded (seen p) power a) (sym is) (lost_so power gathered paid out)
  run_ends (Err e) power answer gathered paid out is = subst (λ (a : Result Ended NoMemory). IsEnded (seen p) power a) (sym is.1) (on, paid)
