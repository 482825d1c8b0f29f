-- What a change answers and leaves where changes gather in a batch.
use Rattle.std.specs.Prelude.{All, ◌≡◌, ◌≢◌, ◌⊎◌, ◌≤◌, ◌<◌, ℕ, Bool, true, false, not, ◌&&◌, ◌||◌, List, [], ◌++◌, length, Option, Some, None, Result, Ok, Err}
use Rattle.std.specs.List.{filter}
use Rattle.block_io.specs.pm_model.Frames.{KeepsSingle}
use Rattle.block_io.specs.pm_model.declared.Cell.{Cell}
use Rattle.block_io.specs.pm_model.Images.{IsImage}
use Rattle.block_io.specs.pm_model.Words.{Words}
use Rattle.block_io.specs.layout_model.Journal.{journaled}
use Rattle.block_io.specs.image_model.Reading.{Reads}
use Rattle.block_io.specs.layout_model.Places.{is_journaled_line}
use Rattle.block_io.specs.extent_model.Extents.{disk_at}
use Rattle.block_io.specs.image_model.Volume.{extents, Volume}
use Rattle.k_map_plans.specs.block_pool.FreeSets.{is_among}
use Rattle.k_map_plans.specs.k_journal.declared.outcomes.Commit.{Commit}
use Rattle.k_map_plans.specs.k_plans.Making.{IsMade}
use Rattle.k_map_plans.specs.k_plans.Removing.{IsRemoved, IsUnlinked}
use Rattle.k_map_plans.specs.k_plans.Renaming.{IsRenamed}
use Rattle.k_map_plans.specs.Resets.{reset}
use Rattle.k_map_plans.specs.k_plans.Free.{is_freed}
use Rattle.block_io.specs.k_split_model.declared.map_changes.moves.Move.{Move}
use Rattle.k_tables.specs.k_split_model.ChangesChanges.{dropped}
use Rattle.k_tables.specs.k_split_model.View.{once_committed, View}
use Rattle.posix_types.specs.declared.item.Outcome.{Outcome}
use Rattle.posix_types.specs.declared.reply.Errno.{Errno}
use Rattle.posix_types.specs.declared.reply.Reply.{Reply}
use Rattle.posix_tables.specs.Outcomes.{answer}
use Rattle.k_split.specs.declared.faults.KFault.{KFault}
use Rattle.k_split.specs.Answers.{Changes, IsCut, IsOff}
use Rattle.k_split.specs.Filling.{fill_row, IsFilledInBatch, IsFull}
use Rattle.k_split.specs.MapChanges.{ChangesMaps, is_free_in, IsGivenUpWith, IsMovedWith, IsPreallocatedWith, IsSizedWith}
use Rattle.k_split.specs.Names.{make_row, IsIdle, rename_row, rmdir_row, unlink_row}
use Rattle.k_split.specs.Order.{IsInOrder}

-- the lines of the batch, and behind them those of the change that it does not set yet
abbrev pub joined : List ℕ → List ℕ → List ℕ
joined lines more = lines ++ filter (λ line. not (is_among lines line)) more

-- The lines that a change sets: one to five, all journaled ones.
pub record AreSet (v : Volume) (lines : List ℕ) : Type 0 where
  pub some : 0 < length lines
  pub most : length lines ≤ 5
  pub journaled : (line : ℕ) → is_among lines line ≡ true → is_journaled_line v.geometry line ≡ true

-- No more than 128 lines fit into a batch.
abbrev pub Fits : View → List ℕ → Type 0
Fits old lines = length (joined old.lines lines) ≤ 128

-- What a change makes: of what it answers, of a view with the blocks that it may take, of the new volume, and of the blocks that
-- it writes.
abbrev pub Change : Type 0 → Type 1
Change T = T → View → Volume → List ℕ → Type 0

-- Blocks wait for a commit and are wanted: with the blocks that are free the change cannot be made.
pub record WantsBlocks {T : Type 0} (Makes : Change T) (old : View) : Type 0 where
  pub waits : old.waiting ≢ []
  pub lacks : (t : T) (w : Volume) (blocks : List ℕ) → Makes t old w blocks → ⊥

-- Where a change begins that sets these lines: `seen` has the blocks that it may take, and it goes into the batch of `base`. Either
-- its lines fit into the batch; or they do not, and the batch is committed before; or it wants blocks that wait, and the batch
-- is committed before it is planned.
pub data Begins {T : Type 0} (Makes : Change T) (old : View) (lines : List ℕ) (seen base : View) : Type 0 where
  InBatch : Fits old lines → seen ≡ old → base ≡ old → Begins Makes old lines seen base
  LinesFull : (Fits old lines → ⊥) → seen ≡ old → base ≡ once_committed old → Begins Makes old lines seen base
  BlocksWanted : WantsBlocks Makes old → seen ≡ once_committed old → base ≡ once_committed old → Begins Makes old lines seen base

-- A change to w that goes into the batch: the lines that it sets, and the blocks that it writes.
pub record Joins {T : Type 0} (Makes : Change T) (t : T) (old : View) (w : Volume) : Type 0 where
  pub lines : List ℕ
  pub blocks : List ℕ
  pub seen : View
  pub base : View
  pub set : AreSet old.volume lines
  pub begins : Begins Makes old lines seen base
  pub makes : Makes t seen w blocks

-- It has joined the batch: all is in order. The device stands at the volume that was committed last; each image has it, or the one
-- before, and else is an image before, but for words of the blocks that were written. Blocks that came free wait; the lines of
-- the change are set.
pub record HasJoined (lines blocks : List ℕ) (base old new : View) : Type 0 where
  pub kept_on : new.lost ≡ false
  pub batched : new.batched ≡ true
  pub order : IsInOrder new
  pub committed : new.committed ≡ base.committed
  pub waiting : (b : ℕ) → is_among new.waiting b ≡ (is_among base.waiting b || is_freed base.volume new.volume b)
  pub lines_are : new.lines ≡ joined base.lines lines
  pub changes : ChangesMaps blocks old.committed new.committed old.cells new.cells
  pub singles : KeepsSingle old.cells new.cells

-- The power went while its blocks were written, where the batch was committed before it if it had to be: each image reads as the
-- volume of `base` that is on the device then.
pub record IsJoinCut (blocks : List ℕ) (base old new : View) : Type 0 where
  pub lost : new.lost ≡ true
  pub batched : new.batched ≡ old.batched
  pub changes : ChangesMaps blocks old.committed base.committed old.cells new.cells
  pub reads : (image : Words) → IsImage new.cells image → Reads base.committed.geometry (journaled image) base.committed

-- why the batch is committed within a change: its lines do not fit, or it wants blocks that wait
abbrev pub IsCommitDue : {T : Type 0} → Change T → View → Type 0
IsCommitDue Makes old = ((lines : List ℕ) × AreSet old.volume lines × (Fits old lines → ⊥)) ⊎ WantsBlocks Makes old

-- The batch was committed: the present volume is that of the device, nothing waits, and no line is set.
pub record IsCommitted (old new : View) : Type 0 where
  pub same : new ≡ record (once_committed old) { cells = new.cells }
  pub order : IsInOrder new
  pub changes : Changes old.committed old.volume old.cells new.cells
  pub singles : KeepsSingle old.cells new.cells

-- What a change answers and leaves where changes gather, by the first of its rows that fits: it joined the batch exactly where none
-- fits; it is refused by a row with all as it was; where memory ran out nothing is changed, but that the batch was committed, if
-- blocks were wanted; or the power went, before, in a commit that was due, or while blocks were written.
abbrev pub IsGatherAnswer : {T : Type 0} → Option Outcome → Change T → View → View → Result T KFault → Type 0
IsGatherAnswer {T} refused Makes old new (Ok t) =
    (refused ≡ None) × ((join : Joins Makes t old new.volume) × HasJoined join.lines join.blocks join.base old new)
IsGatherAnswer {T} refused Makes old new (Err (KFault.Refused errno)) = (refused ≡ Some (answer (Reply.Error errno))) × (new ≡ old)
IsGatherAnswer {T} refused Makes old new (Err (KFault.Room room)) =
    (refused ≡ Some (record { reply = Reply.Error Errno.ENOSPC; room = Some room })) × (new ≡ old)
IsGatherAnswer {T} refused Makes old new (Err KFault.NoMemory) =
    (refused ≡ None) × ((new ≡ old) ⊎ (WantsBlocks Makes old × IsCommitted old new))
IsGatherAnswer {T} refused Makes old new (Err KFault.PowerLost) =
    IsOff old new
    ⊎ ((refused ≡ None) × IsCommitDue Makes old × IsCut old.volume old new)
    ⊎ ((refused ≡ None) × ((t : T) × (w : Volume) × (join : Joins Makes t old w) × IsJoinCut join.blocks join.base old new))

-- a change of names: it takes no blocks, and writes none
abbrev pub WritesNone : {T : Type 0} → (T → Volume → Type 0) → Change T
WritesNone Makes t seen w blocks = Makes t w × (blocks ≡ [])

abbrev pub IsGatherMake : Bool → List (List ℕ) → View → View → Result ℕ KFault → Type 0
IsGatherMake directory path old new result =
    IsGatherAnswer (make_row path old) (WritesNone (λ ino w. IsMade directory path old.volume w ino)) old new result

abbrev pub IsGatherRmdir : List (List ℕ) → View → View → Result (Unit {0}) KFault → Type 0
IsGatherRmdir path old new result = IsGatherAnswer (rmdir_row path old) (WritesNone (λ done w. IsRemoved path old.volume w)) old new result

abbrev pub IsGatherUnlink : List (List ℕ) → View → View → Result ℕ KFault → Type 0
IsGatherUnlink path old new result = IsGatherAnswer (unlink_row path old) (WritesNone (λ ino w. IsUnlinked path old.volume w ino)) old new result

abbrev pub IsGatherRename : List (List ℕ) → List (List ℕ) → View → View → Result (Option ℕ) KFault → Type 0
IsGatherRename path to old new (Ok lost) =
    IsIdle (rename_row path to old) old new lost
    ⊎ IsGatherAnswer (rename_row path to old) (WritesNone (λ l w. IsRenamed path to old.volume w l)) old new (Ok lost)
IsGatherRename path to old new (Err fault) =
    IsGatherAnswer (rename_row path to old) (WritesNone (λ (l : Option ℕ) w. IsRenamed path to old.volume w l)) old new (Err fault)

abbrev pub IsGatherDrop : ℕ → View → View → Result (Unit {0}) KFault → Type 0
IsGatherDrop ino old new result = IsGatherAnswer None (WritesNone (λ done w. w ≡ dropped ino old.volume)) old new result

abbrev pub IsGatherReset : ℕ → View → View → Result (Unit {0}) KFault → Type 0
IsGatherReset ino old new result = IsGatherAnswer None (WritesNone (λ done w. w ≡ reset ino old.volume)) old new result

-- a change of maps, which answers nothing and is refused by no row
abbrev pub IsGatherMaps : (View → Volume → List ℕ → Type 0) → View → View → Result (Unit {0}) KFault → Type 0
IsGatherMaps Makes old new result = IsGatherAnswer None (λ done seen w blocks. Makes seen w blocks) old new result

abbrev pub IsGatherSize : ℕ → ℕ → View → View → Result (Unit {0}) KFault → Type 0
IsGatherSize ino size old new result = IsGatherMaps (IsSizedWith ino size) old new result

abbrev pub IsGatherGiveUp : ℕ → View → View → Result (Unit {0}) KFault → Type 0
IsGatherGiveUp staging old new result = IsGatherMaps (IsGivenUpWith staging) old new result

abbrev pub IsGatherPreallocate : ℕ → ℕ → View → View → Result (Unit {0}) KFault → Type 0
IsGatherPreallocate staging count old new result = IsGatherMaps (IsPreallocatedWith staging count) old new result

abbrev pub IsGatherRelink : Move → View → View → Result (Unit {0}) KFault → Type 0
IsGatherRelink m old new result = IsGatherMaps (IsMovedWith m) old new result

-- blocks wait, and are wanted for the new map of a file that is cut, or for those of a move
abbrev pub WantsToResize : ℕ → ℕ → View → Type 0
WantsToResize ino size old = WantsBlocks (λ (done : Unit {0}) seen w blocks. IsSizedWith ino size seen w blocks) old

abbrev pub WantsToRelink : Move → View → Type 0
WantsToRelink m old = WantsBlocks (λ (done : Unit {0}) seen w blocks. IsMovedWith m seen w blocks) old

-- The power went while free blocks were zeroed, before all else; or in a commit that was due, once they were.
pub record IsZeroCut {T : Type 0} (Makes : Change T) (old new : View) : Type 0 where
  pub lost : new.lost ≡ true
  pub batched : new.batched ≡ old.batched
  pub blocks : List ℕ
  pub free : All (λ b. is_free_in old b ≡ true) blocks
  pub at : Volume
  pub commits : (at ≡ old.committed) ⊎ (IsCommitDue Makes old × (at ≡ old.volume))
  pub changes : ChangesMaps blocks old.committed at old.cells new.cells

-- holes get blocks that read zeros in each image of these cells
abbrev pub FillsInBatch : ℕ → ℕ → ℕ → List Cell → Change (Unit {0})
FillsInBatch ino from count d t seen w blocks = IsFilledInBatch ino from count seen d w blocks

-- Holes get blocks; with no hole nothing is done. Where there are holes the row counts the blocks that are free, not those that wait.
abbrev pub IsGatherFill : ℕ → ℕ → ℕ → View → View → Result (Unit {0}) KFault → Type 0
IsGatherFill ino from count old new (Ok done) =
    IsFull (fill_row ino from count old) old new
    ⊎ IsGatherAnswer (fill_row ino from count old) (FillsInBatch ino from count new.cells) old new (Ok done)
IsGatherFill ino from count old new (Err (KFault.Refused errno)) =
    IsGatherAnswer (fill_row ino from count old) (FillsInBatch ino from count new.cells) old new (Err (KFault.Refused errno))
IsGatherFill ino from count old new (Err (KFault.Room room)) =
    IsGatherAnswer (fill_row ino from count old) (FillsInBatch ino from count new.cells) old new (Err (KFault.Room room))
IsGatherFill ino from count old new (Err KFault.NoMemory) =
    IsGatherAnswer (fill_row ino from count old) (FillsInBatch ino from count new.cells) old new (Err KFault.NoMemory)
IsGatherFill ino from count old new (Err KFault.PowerLost) =
    IsGatherAnswer (fill_row ino from count old) (FillsInBatch ino from count new.cells) old new (Err KFault.PowerLost)
    ⊎ ((fill_row ino from count old ≡ None) × IsZeroCut (FillsInBatch ino from count new.cells) old new)

-- committed map and present map of the inode agree on the block
abbrev pub IsSettledAt : ℕ → ℕ → View → Type 0
IsSettledAt ino block k = disk_at (extents k.committed ino) block ≡ disk_at (extents k.volume ino) block

-- a commit of the open batch: done, or the power went before or within
abbrev pub IsCommitOutcome : View → View → Commit → Type 0
IsCommitOutcome old new Commit.Done = IsCommitted old new
IsCommitOutcome old new Commit.PowerLost = IsOff old new ⊎ IsCut old.volume old new
