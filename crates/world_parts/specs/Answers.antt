-- What the calls of a World answer.
use Rattle.std.specs.Prelude.{◌≡◌, ◌≢◌, ◌⊎◌, ℕ, true, false, List, [], None, Result, Ok, Err}
use Rattle.world_view_laws.specs.pm_model.declared.Cell.{Cell}
use Rattle.world_view_laws.specs.pm_model.Cells.{cell}
use Rattle.world_view_laws.specs.pm_model.Images.{IsImage}
use Rattle.world_view_laws.specs.pm_model.Powers.{is_on, Supply}
use Rattle.world_view_laws.specs.pm_model.Words.{Words}
use Rattle.layout_model.specs.Journal.{journaled}
use Rattle.layout_model.specs.Places.{Geometry}
use Rattle.world_view_laws.specs.image_model.Content.{content}
use Rattle.world_view_laws.specs.image_model.Honest.{IsHonest}
use Rattle.world_view_laws.specs.image_model.Volume.{volume}
use Rattle.world_view_laws.specs.list_laws.Members.{In}
use Rattle.posix_types.specs.declared.call.Who.{Who}
use Rattle.posix_types.specs.declared.tree.TreeEntry.{TreeEntry}
use Rattle.world_view_laws.specs.posix_spec.Tree.{tree}
use Rattle.world_view_laws.specs.k_journal.declared.outcomes.Commit.{Commit}
use Rattle.world_view_laws.specs.file_calls.declared.names.outcomes.NoMemory.{NoMemory}
use Rattle.world_view_laws.specs.in_flight.world_image_laws.Images.{HasNoEntry}
use Rattle.world_view_laws.specs.in_flight.live_model.Standing.{JobOut}
use Rattle.world_view_laws.specs.in_flight.world_model.Shown.{IsTreeOfContent}
use Rattle.world_view_laws.specs.write_jobs.Jobs.{FilledView}
use Rattle.world_view_laws.specs.Begins.{BeginsJob, IsFilledOut, IsPowerLost, IsRoundOver, MayBegin, Returns, Waits, WaitsFor, WantsMemory}
use Rattle.world_view_laws.specs.Jobs.{Finishes, LosesFinish}
use Rattle.world_view_laws.specs.Rounds.{IsLeft, IsNextRound, LosesRound}
use Rattle.world_view_laws.specs.Views.{calls_out, HasNone, next_of, state_of, WorldView}
use Rattle.world_parts.specs.declared.outcomes.Begun.{Begun}
use Rattle.world_parts.specs.declared.outcomes.Ended.{Ended}
use Rattle.world_parts.specs.declared.outcomes.Finished.{Finished}
use Rattle.world_parts.specs.declared.outcomes.Ready.{Ready}

-- WHAT `begin` ANSWERS AND LEAVES: the call returned, became a job, waits, or found the round over; the power went; its script has
-- ended; or memory ran out, on the way, which leaves a World only to be dropped, or before anything was done.
abbrev pub IsBegun : Who → WorldView → WorldView → Supply → Supply → Result Begun NoMemory → Type 0
IsBegun who old new before after (Ok Begun.Done) = Returns who old new before after
IsBegun who old new before after (Ok (Begun.Job job)) = BeginsJob who old new after job
IsBegun who old new before after (Ok (Begun.Busy ino holder)) = Waits who old new before after ino holder
IsBegun who old new before after (Ok (Begun.RoundOver over)) = IsRoundOver who old new before after over
IsBegun who old new before after (Ok Begun.PowerLost) = IsPowerLost who old new before after
IsBegun who old new before after (Ok Begun.ScriptEnd) =
    (old.lost ≡ false) × (next_of old who ≡ None) × (new ≡ old) × (after ≡ before) × (is_on after ≡ true)
IsBegun who old new before after (Err e) = WantsMemory old new after ⊎ ((old.lost ≡ false) × (new ≡ old) × (after ≡ before))

-- WHAT `ready` ANSWERS, in this order: the caller has a job out; its script has ended; the round is over; its next call waits, just where
-- a job of another caller is out of its file; or it may begin. Once the power went nothing waits.
abbrev pub IsReady : WorldView → Who → Ready → Type 0
IsReady w who Ready.Out = (p : JobOut) × In p w.pending × (p.who ≡ who)
IsReady w who Ready.ScriptEnd = HasNone w who × (next_of w who ≡ None)
IsReady w who Ready.RoundOver = HasNone w who × (next_of w who ≢ None) × (w.over ≢ None)
IsReady w who (Ready.Busy ino holder) = HasNone w who × (w.over ≡ None) × (w.lost ≡ false) × WaitsFor w who ino holder
IsReady w who Ready.Yes = HasNone w who × (w.over ≡ None) × (next_of w who ≢ None) × ((w.lost ≡ true) ⊎ MayBegin w who)

-- WHAT `finish` ANSWERS AND LEAVES, whichever job of this World it is
abbrev pub IsFinished : FilledView → ℕ → WorldView → WorldView → Supply → Finished → Type 0
IsFinished job slot old new power Finished.Done = (p : JobOut) → IsFilledOut old p job → Finishes slot p old new power
IsFinished job slot old new power Finished.PowerLost = (p : JobOut) → IsFilledOut old p job → LosesFinish slot p old new power

-- WHAT `checkpoint` ANSWERS AND LEAVES. Where memory runs out, the World is only to be dropped.
abbrev pub IsCheckpoint : WorldView → WorldView → Supply → Result Commit NoMemory → Type 0
IsCheckpoint old new power (Ok Commit.Done) = IsNextRound old new power
IsCheckpoint old new power (Ok Commit.PowerLost) = LosesRound old new power
IsCheckpoint old new power (Err e) = WantsMemory old new power

-- ALL IS PUBLISHED: whatever the device is found as, no slot of its log has an entry.
abbrev pub HasEmptyLog : Geometry → List Cell → Type 0
HasEmptyLog g pm = (image : Words) → IsImage pm image → HasNoEntry (volume g (journaled image)) (journaled image)

-- THE TREE IS THAT OF THE HISTORY, in every mode: whatever the device is found as, its content has no other.
abbrev pub HasTreeOf : WorldView → List Cell → Type 0
HasTreeOf w pm =
    (image : Words) → IsImage pm image → IsHonest w.geometry (cell pm) image
    → (left : List TreeEntry) → IsTreeOfContent (content w.geometry image) left → left ≡ tree (state_of w)

-- HOW A RUN ENDS: whole, where the power is on and was not lost, with all published, and with just the tree of the history; else by a loss.
-- Either way this is left.
abbrev pub IsEnded : WorldView → Supply → Result Ended NoMemory → Type 0
IsEnded w power (Ok (Ended.Whole pm history)) = (w.lost ≡ false) × (is_on power ≡ true) × IsLeft w pm history.items [] × HasEmptyLog w.geometry pm × HasTreeOf w pm
IsEnded w power (Ok (Ended.Lost crashed)) =
    ((w.lost ≡ true) ⊎ (is_on power ≡ false)) × IsLeft w crashed.pm crashed.history.items (calls_out w) × (crashed.unfinished.items ≡ calls_out w)
IsEnded w power (Err e) = (w.lost ≡ false) × (is_on power ≡ true)
