-- What a change of K-Split answers and leaves.
use Rattle.std.specs.Prelude.{◌≡◌, ◌⊎◌, ℕ, ◌/◌, true, false, List, [], length, Option, Some, None, Result, Ok, Err}
use Rattle.block_io.specs.pm_model.declared.Cell.{Cell}
use Rattle.block_io.specs.pm_model.Cells.{cell, Settles}
use Rattle.block_io.specs.pm_model.Frames.{SameLent, KeepsSingle}
use Rattle.block_io.specs.pm_model.Images.{Follows}
use Rattle.block_io.specs.pm_model.Powers.{is_on, Supply}
use Rattle.block_io.specs.layout_model.Journal.{is_journal_word}
use Rattle.block_io.specs.layout_model.Places.{is_journaled_line}
use Rattle.block_io.specs.image_model.Volume.{Volume}
use Rattle.k_map_plans.specs.k_journal.Commits.{TakesAStep}
use Rattle.k_map_plans.specs.k_journal.declared.outcomes.Commit.{Commit}
use Rattle.k_map_plans.specs.k_plans.Whole.{IsWhole}
use Rattle.k_tables.specs.k_split_model.Stands.{IsOldOrNew}
use Rattle.k_tables.specs.k_split_model.View.{View}
use Rattle.posix_types.specs.declared.item.Outcome.{Outcome}
use Rattle.posix_types.specs.declared.reply.Errno.{Errno}
use Rattle.posix_types.specs.declared.reply.Reply.{Reply}
use Rattle.posix_tables.specs.Outcomes.{answer}
use Rattle.k_split.specs.declared.faults.KFault.{KFault}
use Rattle.k_split.specs.Order.{IsInOrder}

-- What a change from v to w makes of the device, done or cut off: the same words are lent; each image reads as v or as w
-- and else is an image before; and words outside the journal and the journaled lines settle.
pub record Changes (v w : Volume) (old new : List Cell) : Type 0 where
  pub size : length new ≡ length old
  pub lent : SameLent old new
  pub each_image : Follows (IsOldOrNew v.geometry [] v w) old new
  pub others : (i : ℕ) → is_journal_word i ≡ false → is_journaled_line v.geometry (i / 8) ≡ false → Settles (cell old i) (cell new i)

-- A change is done: all is in order at the new volume, which is the committed one, since no changes gather in a batch yet.
pub record IsDone (old new : View) : Type 0 where
  pub kept_on : new.lost ≡ false
  pub batched : new.batched ≡ old.batched
  pub order : IsInOrder new
  pub changes : Changes old.committed new.volume old.cells new.cells
  pub singles : KeepsSingle old.cells new.cells

-- The power went in a change to w, which keeps the rules.
pub record IsCut (w : Volume) (old new : View) : Type 0 where
  pub lost : new.lost ≡ true
  pub batched : new.batched ≡ old.batched
  pub whole : IsWhole w
  pub changes : Changes old.committed w old.cells new.cells

-- the power was off at the call, which did nothing
abbrev pub IsOff : View → View → Type 0
IsOff old new = new ≡ record old { lost = true }

-- What a change answers and leaves, by the first of its rows that fits: done exactly where none fits, where Makes says what it
-- answers of the new volume; refused by a row with all as it was, and so where no row fits where memory runs out; or cut off by
-- the power.
abbrev pub IsAnswer : {T : Type 0} → Option Outcome → (T → Volume → Type 0) → View → View → Result T KFault → Type 0
IsAnswer {T} refused Makes old new (Ok t) = (refused ≡ None) × Makes t new.volume × IsDone old new
IsAnswer {T} refused Makes old new (Err (KFault.Refused errno)) = (refused ≡ Some (answer (Reply.Error errno))) × (new ≡ old)
IsAnswer {T} refused Makes old new (Err (KFault.Room room)) =
    (refused ≡ Some (record { reply = Reply.Error Errno.ENOSPC; room = Some room })) × (new ≡ old)
IsAnswer {T} refused Makes old new (Err KFault.NoMemory) = (refused ≡ None) × (new ≡ old)
IsAnswer {T} refused Makes old new (Err KFault.PowerLost) =
    IsOff old new ⊎ ((refused ≡ None) × ((t : T) × (w : Volume) × Makes t w × IsCut w old new))

-- What a change takes of the power: a step at least where it is done; all that is left exactly where it answers PowerLost;
-- nothing where it is refused or has nothing to do.
abbrev pub IsSpared : Supply → Supply → Type 0
IsSpared old new = (new ≡ old) × (is_on new ≡ true)

abbrev pub IsPaid : {T : Type 0} → Option Outcome → Supply → Supply → Result T KFault → Type 0
IsPaid refused old new (Ok t) =
    (is_on new ≡ true) × (refused ≡ None → TakesAStep old new) × (refused ≡ Some (answer Reply.Ok) → new ≡ old)
IsPaid refused old new (Err (KFault.Refused errno)) = IsSpared old new
IsPaid refused old new (Err (KFault.Room room)) = IsSpared old new
IsPaid refused old new (Err KFault.NoMemory) = IsSpared old new
IsPaid refused old new (Err KFault.PowerLost) = is_on new ≡ false

-- The power after a change where changes gather, which may take no step: it is off exactly where the change answers PowerLost.
abbrev pub IsPowered : {T : Type 0} → Supply → Result T KFault → Type 0
IsPowered new (Ok t) = is_on new ≡ true
IsPowered new (Err (KFault.Refused errno)) = is_on new ≡ true
IsPowered new (Err (KFault.Room room)) = is_on new ≡ true
IsPowered new (Err KFault.NoMemory) = is_on new ≡ true
IsPowered new (Err KFault.PowerLost) = is_on new ≡ false

-- a commit of all that gathers, which is nothing yet
abbrev pub IsCommitAnswer : View → View → Commit → Type 0
IsCommitAnswer old new Commit.Done = (new.volume ≡ old.volume) × IsDone old new
IsCommitAnswer old new Commit.PowerLost = IsOff old new ⊎ IsCut old.volume old new

abbrev pub IsCommitPaid : Supply → Commit → Type 0
IsCommitPaid new Commit.Done = is_on new ≡ true
IsCommitPaid new Commit.PowerLost = is_on new ≡ false
