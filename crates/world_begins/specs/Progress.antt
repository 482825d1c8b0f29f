-- What a Begin that returned has done, what ends a round for want of space beside it, and that rounds go on.
use Rattle.std.specs.Prelude.{◌≡◌, ◌≢◌, ◌⊎◌, ◌<◌, ◌≤◌, ℕ, true, false, List, [], length, Some, None, Ok}
use Rattle.world_parts.specs.world_view_laws.list_laws.Members.{In}
use Rattle.world_parts.specs.world_view_laws.posix_types.declared.call.Call.{Call}
use Rattle.world_parts.specs.world_view_laws.posix_types.declared.call.Mode.{Mode}
use Rattle.world_parts.specs.world_view_laws.posix_types.declared.call.Who.{Who}
use Rattle.world_parts.specs.world_view_laws.posix_types.declared.handle.Handle.{Handle}
use Rattle.world_parts.specs.world_view_laws.posix_types.declared.reply.Reply.{Reply}
use Rattle.world_parts.specs.world_view_laws.posix_types.Scripts.{Scripts}
use Rattle.world_parts.specs.world_view_laws.posix_tables.declared.open.Description.{Description}
use Rattle.world_parts.specs.world_view_laws.posix_tables.Open.{opened, Tables}
use Rattle.world_parts.specs.world_view_laws.posix_spec.Step.{step}
use Rattle.world_parts.specs.world_view_laws.in_flight.layout_model.declared.lines.Draft.{Draft}
use Rattle.world_parts.specs.world_view_laws.in_flight.layout_model.Places.{Geometry}
use Rattle.world_parts.specs.world_view_laws.in_flight.pm_model.Parts.{Part}
use Rattle.world_parts.specs.world_view_laws.in_flight.pm_model.Powers.{is_on, Supply}
use Rattle.world_parts.specs.world_view_laws.in_flight.pm_model.Words.{Words}
use Rattle.world_parts.specs.world_view_laws.in_flight.staging_files.GivesUp.{nothing_staged}
use Rattle.world_parts.specs.world_view_laws.in_flight.staging_files.Keeps.{Staged}
use Rattle.world_parts.specs.world_view_laws.in_flight.write_jobs.Jobs.{JobView}
use Rattle.call_laws.specs.Calls.{AtCall}
use Rattle.world_parts.specs.Answers.{IsBegun}
use Rattle.world_parts.specs.declared.outcomes.Begun.{Begun}
use Rattle.world_parts.specs.k_split_model.View.{View}
use Rattle.world_parts.specs.file_table.Files.{Files}
use Rattle.world_parts.specs.world_view_laws.declared.views.over.Over.{Over}
use Rattle.world_parts.specs.world_view_laws.Begins.{Begins, BeginsJob, EndsRound, IsRoundOver, LacksSpace, Returns, Waits, with_disk}
use Rattle.world_parts.specs.world_view_laws.Rounds.{IsNextRound, IsRoundBegun, MayCheckpoint}
use Rattle.world_parts.specs.world_view_laws.Starts.{BeginsMounted}
use Rattle.world_parts.specs.world_view_laws.Views.{Disk, inode_on, IsWorldOver, next_of, state_of, WorldView}

-- ---- an `fsync`

-- no entry of this lap is left that the file has not applied
abbrev pub HasApplied : WorldView → WorldView → Description → Type 0
HasApplied old new file =
    (slot : ℕ) (d : Draft) → In (slot, d) old.claims → d.ino ≡ file.node → d.generation ≡ (inode_on new.disk file.node).generation
    → d.order ≤ (inode_on new.disk file.node).applied

-- WHERE AN `fsync` ANSWERED OK, its handle stands for a file, which is published.
abbrev pub SyncsPublish : Type 0
SyncsPublish =
    (who : Who) (h : Handle) (old new : WorldView) (before after : Supply) → (returned : Returns who old new before after)
    → returned.call ≡ Call.Fsync h → (step (state_of old) who (Call.Fsync h)).outcome.reply ≡ Reply.Ok
    → (file : Description) × (opened old.disk.tables who h ≡ Some file) × HasApplied old new file

-- ---- the round is over

-- WHERE A CALL RETURNED, space did not lack, in strict and in sync mode, whatever filling its holes leaves.
abbrev pub ReturnsHaveRoom : Type 0
ReturnsHaveRoom =
    (who : Who) (old new : WorldView) (before after : Supply) (filled : Disk) (need left : ℕ) → old.start.mode ≢ Mode.Posix
    → (returned : Returns who old new before after) → ¬ LacksSpace old filled who returned.call need left

-- WHERE IT BECAME A JOB, neither.
abbrev pub JobsHaveRoom : Type 0
JobsHaveRoom =
    (who : Who) (old new : WorldView) (after : Supply) (job : JobView) (need left : ℕ)
    → (begun : BeginsJob who old new after job) → ¬ LacksSpace old begun.middle who begun.call need left

-- AND AN END OF THE ROUND tells one need; and one room, in strict mode, or where it left as many free blocks.
abbrev pub EndsWithOnePair : Type 0
EndsWithOnePair =
    (who : Who) (old new other : WorldView) (after later : Supply) (need left more less : ℕ)
    → old.start.mode ≢ Mode.Posix → EndsRound who old new after need left → EndsRound who old other later more less
    → (need ≡ more) × ((old.start.mode ≡ Mode.Strict) ⊎ (new.disk.free ≡ other.disk.free) → left ≡ less)

-- IN STRICT MODE such an end leaves all below the calls as it was.
abbrev pub StrictEndsLeaveAll : Type 0
StrictEndsLeaveAll =
    (who : Who) (old new : WorldView) (after : Supply) (need left : ℕ) → old.start.mode ≡ Mode.Strict → EndsRound who old new after need left → new.disk ≡ old.disk

-- WHERE A CALL WAITS, it does not begin, whatever else is answered from the same World.
abbrev pub WaitsAlone : Type 0
WaitsAlone =
    (who : Who) (call : Call) (old new : WorldView) (before after : Supply) (ino : ℕ) (holder : Who)
    → Waits who old new before after ino holder → ¬ Begins old who call

-- ---- rounds go on

-- NOTHING HAS BEGUN IN THE LAP YET: no job is out, all that returned is settled, the round is not over, and nothing is staged.
pub record IsAtFirst (w : WorldView) : Type 0 where
  pub none_out : w.pending ≡ []
  pub settled : w.settled ≡ length w.history
  pub going : w.over ≡ None
  pub staging : w.disk.staging ≡ nothing_staged

-- So it is where an image was mounted,
abbrev pub MountsAtFirst : Type 0
MountsAtFirst = (g : Geometry) (image : Words) (mode : Mode) (scripts : Scripts) (w : WorldView) → BeginsMounted g image mode scripts w → IsAtFirst w

-- and behind a checkpoint,
abbrev pub CheckpointsAtFirst : Type 0
CheckpointsAtFirst = (old new : WorldView) (power : Supply) (lines : List Part) → MayCheckpoint old lines → IsNextRound old new power → IsAtFirst new

-- and when a round has begun there.
abbrev pub BeginsAtFirst : Type 0
BeginsAtFirst = (old new : WorldView) (lines : List Part) (base : ℕ) → IsAtFirst old → IsRoundBegun old new lines base → IsAtFirst new

-- THE FIRST CALL neither waits nor ends the round,
abbrev pub FirstCallsGoOn : Type 0
FirstCallsGoOn =
    (who : Who) (old new : WorldView) (before after : Supply) → IsAtFirst old
    → ((ino : ℕ) (holder : Who) → ¬ Waits who old new before after ino holder) × ((over : Over) → ¬ IsRoundOver who old new before after over)

-- for it finds room, also with its holes filled, whatever K-Split then is over which the World stands;
abbrev pub FirstCallsHaveRoom : Type 0
FirstCallsHaveRoom =
    (k l : View) (t : Tables) (staging : Staged) (files : Files) (w : WorldView) (who : Who) (call : Call) (filled : Disk) (need left : ℕ)
    → AtCall k t staging files w who call → IsAtFirst w → IsWorldOver l t staging files (with_disk w filled) → ¬ LacksSpace w filled who call need left

-- so while the power stays it returns, or becomes a job.
abbrev pub FirstCallsBegin : Type 0
FirstCallsBegin =
    (who : Who) (old new : WorldView) (before after : Supply) (begun : Begun) → IsAtFirst old → old.lost ≡ false → next_of old who ≢ None
    → is_on after ≡ true → IsBegun who old new before after (Ok begun) → (begun ≡ Begun.Done) ⊎ ((job : JobView) × (begun ≡ Begun.Job job))

-- AND A ROUND THAT COMES TO ITS CHECKPOINT has a call that returned in it.
abbrev pub RoundsGetFurther : Type 0
RoundsGetFurther =
    (k : View) (t : Tables) (staging : Staged) (files : Files) (w : WorldView) (lines : List Part)
    → IsWorldOver k t staging files w → w.lost ≡ false → MayCheckpoint w lines → w.settled < length w.history
