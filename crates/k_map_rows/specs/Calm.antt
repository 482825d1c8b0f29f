-- When a staging and its K-Split may be asked for runs.
use Rattle.std.specs.Prelude.{◌≡◌, false, Result, Ok, Err}
use Rattle.staging_files.specs.pm_model.Cells.{AllSingle}
use Rattle.std.specs.declared.alloc.AllocError.{AllocError}
use Rattle.staging_files.specs.k_journal.declared.outcomes.Commit.{Commit}
use Rattle.staging_files.specs.k_split_model.View.{View}
use Rattle.staging_files.specs.declared.runs.StageFault.{StageFault}
use Rattle.staging_files.specs.declared.runs.StageRun.{StageRun}
use Rattle.staging_files.specs.Keeps.{Agrees, Staged}

-- the power is on, changes do not gather in a batch, the staging agrees with K-Split, and each word of the device has one candidate
pub record IsCalm (s : Staged) (k : View) : Type 0 where
  pub on : k.lost ≡ false
  pub unbatched : k.batched ≡ false
  pub agrees : Agrees s k
  pub single : AllSingle k.cells

-- so it is after a run and after no room
abbrev pub IsCalmAfter : Staged → View → Result StageRun StageFault → Type 0
IsCalmAfter t l (Ok run) = IsCalm t l
IsCalmAfter t l (Err (StageFault.NoRoom needs has)) = IsCalm t l
IsCalmAfter t l (Err StageFault.PowerLost) = Unit {0}
IsCalmAfter t l (Err StageFault.NoMemory) = Unit {0}

-- and once all is given up
abbrev pub IsCalmDone : Staged → View → Result Commit AllocError → Type 0
IsCalmDone t l (Ok Commit.Done) = IsCalm t l
IsCalmDone t l (Ok Commit.PowerLost) = Unit {0}
IsCalmDone t l (Err e) = Unit {0}
