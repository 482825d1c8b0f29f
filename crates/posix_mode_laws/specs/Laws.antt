-- The laws of POSIX mode that follow from the three standings, each as one statement; and that there are worlds of this kind.
use Rattle.std.specs.Prelude.{◌≡◌, ℕ, List, [], ◌∷◌, ◌++◌}
use Rattle.world_image_laws.specs.pm_model.declared.Cell.{Cell}
use Rattle.world_image_laws.specs.pm_model.Words.{Words}
use Rattle.world_image_laws.specs.image_model.Content.{found}
use Rattle.world_image_laws.specs.image_model.Live.{live_entries}
use Rattle.world_image_laws.specs.image_model.Uses.{IsUnused}
use Rattle.world_image_laws.specs.image_model.Volume.{Volume}
use Rattle.world_image_laws.specs.posix_types.declared.call.Mode.{Mode}
use Rattle.world_image_laws.specs.posix_types.declared.item.Item.{Item}
use Rattle.world_image_laws.specs.posix_types.declared.tree.TreeEntry.{TreeEntry}
use Rattle.world_image_laws.specs.posix_spec.Run.{Unfinished}
use Rattle.world_image_laws.specs.posix_spec.State.{State}
use Rattle.world_image_laws.specs.crash_spec.Posix.{LastBeforeCut, Overwritten, Posix, StrongPosix}
use Rattle.world_image_laws.specs.world_model.Shown.{IsTreeOfContent}
use Rattle.world_image_laws.specs.world_model.Stands.{IsSane, Stands}
use Rattle.world_image_laws.specs.Images.{IsRunning}
use Rattle.world_image_laws.specs.Promised.{KeepsPromise}
use Rattle.posix_mode_laws.specs.Device.{at_rest, IsAllPublished, PosixRuns}
use Rattle.posix_mode_laws.specs.Example.{batch_b, batch_c, committed_c, committed_d, kept_d, later_a, later_c, later_d, lost_call, lost_words, only_5, open_file, start_a, start_c, start_d, words_p, world_a, world_b, world_c, world_d, world_e}
use Rattle.posix_mode_laws.specs.Sides.{AreSettledOrFresh, IsFresh, LosesInPlace, PosixWorld, Sides, sized, UsesNoFreed}

-- ---- what stands

-- Sizes are no part of what makes a volume sane.
abbrev pub KeepsSane : Type 0
KeepsSane = (lengths : List ℕ) (v : Volume) → IsSane v → IsSane (sized lengths v)

-- What is staged is settled or fresh too.
abbrev pub StagesNoFreed : Type 0
StagesNoFreed = (w : Sides) (f : Words) (s : State) → UsesNoFreed w → Stands (sized w.lengths w.batch) w.staged f w.numbers s → AreSettledOrFresh w w.staged

-- ---- the promise

-- Between two calls, where no entry of the log is live, the tree of the medium is one that the relation permits;
abbrev pub PermitsTreeOfMedium : Type 0
PermitsTreeOfMedium =
    (w : Sides) (f : Words) (start : State) (kept later : List Item) (unfinished : List Unfinished) (left : List TreeEntry)
    → PosixWorld Overwritten w f start kept later → live_entries w.committed f ≡ []
    → IsTreeOfContent (found w.committed (live_entries w.committed f) f) left → Posix start (kept ++ later) unfinished left

-- with the stronger rule for bytes, one that the stronger relation permits.
abbrev pub PermitsTreeStrongly : Type 0
PermitsTreeStrongly =
    (w : Sides) (f : Words) (start : State) (kept later : List Item) (unfinished : List Unfinished) (left : List TreeEntry)
    → PosixWorld LastBeforeCut w f start kept later → live_entries w.committed f ≡ []
    → IsTreeOfContent (found w.committed (live_entries w.committed f) f) left → StrongPosix start (kept ++ later) unfinished left

-- THE PROMISE: each honest image of a device that runs in POSIX mode, by the stronger rule for bytes, is checked, has this geometry and
-- a tree, and each tree of it is permitted, by the stronger relation.
abbrev pub PosixRunsPromised : Type 0
PosixRunsPromised =
    (w : Sides) (d : List Cell) (start : State) (kept later : List Item) (unfinished : List Unfinished)
    → PosixRuns LastBeforeCut w d start kept later → KeepsPromise w.committed.geometry d start (kept ++ later) unfinished

-- ---- the beginning

-- A device on which the World runs with no claim, all lengths being published, runs in POSIX mode, by either rule: as after a
-- mount.
abbrev pub BeginsInPosixMode : Type 0
BeginsInPosixMode =
    (v : Volume) (d : List Cell) (numbers : List ℕ) (s : State) (count : ℕ) → IsRunning v d [] numbers s count → s.mode ≡ Mode.Posix → IsAllPublished s
    → PosixRuns Overwritten (at_rest v numbers) d s [] [] × PosixRuns LastBeforeCut (at_rest v numbers) d s [] []

-- ---- the commit

-- A commit: the batch is the medium, and all of the history is kept;
abbrev pub KeepsCommitted : Type 0
KeepsCommitted =
    (w : Sides) (f : Words) (start : State) (kept later : List Item) → PosixWorld Overwritten w f start kept later
    → PosixWorld Overwritten (record w { committed = w.batch; committed_numbers = w.numbers }) f start (kept ++ later) []

-- by the stronger rule too.
abbrev pub KeepsStrongCommitted : Type 0
KeepsStrongCommitted =
    (w : Sides) (f : Words) (start : State) (kept later : List Item) → PosixWorld LastBeforeCut w f start kept later
    → PosixWorld LastBeforeCut (record w { committed = w.batch; committed_numbers = w.numbers }) f start (kept ++ later) []

-- ---- worked worlds

-- A byte was written in place, over a published one, and two more are staged.
abbrev pub HasWorldWithRun : Type 0
HasWorldWithRun = PosixWorld Overwritten world_a words_p start_a [] later_a

-- In a Checkpoint, before its commit and after it: no run is staged, and the file is longer than its published length.
abbrev pub HasWorldInCheckpoint : Type 0
HasWorldInCheckpoint = PosixWorld Overwritten world_b words_p start_a [] later_a

abbrev pub HasWorldAfterCheckpoint : Type 0
HasWorldAfterCheckpoint = PosixWorld Overwritten (record world_b { committed = batch_b }) words_p start_a later_a []

-- An inode is used again, by a directory. The chain block of the file that it was waits: nothing names it, and it is not fresh.
abbrev pub HasWorldUsedAgain : Type 0
HasWorldUsedAgain = PosixWorld Overwritten world_c words_p start_c [] later_c

abbrev pub HasWaitingBlock : Type 0
HasWaitingBlock = IsUnused batch_c 13 × (IsFresh committed_c 13 → ⊥)

-- Behind a front that is kept the file was cut and written again: the medium has the bytes that were cut off, by the stronger rule.
abbrev pub HasWorldCut : Type 0
HasWorldCut = PosixWorld LastBeforeCut world_d words_p start_d kept_d later_d

-- So it is in a Checkpoint: a byte that was cut off and put again is in no run, and its block is not settled.
abbrev pub HasWorldCutInCheckpoint : Type 0
HasWorldCutInCheckpoint = PosixWorld LastBeforeCut world_e words_p start_d kept_d later_d

-- A write of two bytes in place lost its power after the first.
abbrev pub HasLostWrite : Type 0
HasLostWrite = LosesInPlace committed_d [] (only_5 1) words_p lost_words (open_file (9 ∷ 2 ∷ 3 ∷ []) 3) lost_call 5 1 3
