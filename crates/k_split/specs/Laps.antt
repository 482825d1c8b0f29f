-- A new lap of the log, and a log that begins anew.
use Rattle.std.specs.Prelude.{◌≡◌, ◌⊎◌, ◌+◌, ◌≤◌, ◌^◌, ℕ, true, length, List, None, Result}
use Rattle.block_io.specs.pm_model.declared.Cell.{Cell}
use Rattle.block_io.specs.pm_model.Cells.{cell, is_single, Settles}
use Rattle.block_io.specs.pm_model.Frames.{KeepsSingle, SameLent}
use Rattle.block_io.specs.pm_model.Images.{Follows}
use Rattle.block_io.specs.Overwrites.{AreGoingToZero, AreLinesZeroed, IsInLines, SameBesideLines}
use Rattle.block_io.specs.layout_model.Places.{log_line}
use Rattle.block_io.specs.image_model.Reading.{base_set}
use Rattle.block_io.specs.image_model.Volume.{Volume}
use Rattle.k_map_plans.specs.k_journal.declared.outcomes.Commit.{Commit}
use Rattle.k_tables.specs.k_split_model.View.{View}
use Rattle.k_split.specs.declared.faults.KFault.{KFault}
use Rattle.k_split.specs.Answers.{IsAnswer, IsCut, IsDone, IsOff}

-- the log base is set, and nothing else changes
abbrev pub IsBaseChange : ℕ → View → View → Result (Unit {0}) KFault → Type 0
IsBaseChange base old new result = IsAnswer None (λ done w. w ≡ base_set base old.volume) old new result

abbrev pub IsBaseAnswer : ℕ → View → View → Commit → Type 0
IsBaseAnswer base old new Commit.Done = (new.volume ≡ base_set base old.volume) × IsDone old new
IsBaseAnswer base old new Commit.PowerLost = IsOff old new ⊎ IsCut (base_set base old.volume) old new

-- The log base of the next lap: it rises by the number of log lines, so that no entry of the lap before is valid.
abbrev pub next_base : Volume → ℕ
next_base v = v.base + v.geometry.log

-- the log base of the next lap is in range
abbrev pub HasNextLap : View → Type 0
HasNextLap k = next_base k.volume ≤ 2 ^ 63

-- word i is one of the log
abbrev pub IsLogWord : Volume → ℕ → Type 0
IsLogWord v i = IsInLines (log_line v.geometry 0) v.geometry.log i

-- each word of the log has one candidate
abbrev pub HasSingleLog : View → Type 0
HasSingleLog k = (i : ℕ) → IsLogWord k.volume i → is_single (cell k.cells i) ≡ true

-- Log lines were set to zero, or some of their words: each image is one of those before, but for words of the log, each of which is
-- on its way to zero; or all are zero, and durable.
pub record LosesLog (v : Volume) (old new : List Cell) : Type 0 where
  pub size : length new ≡ length old
  pub lent : SameLent old new
  pub each_image : Follows (SameBesideLines (log_line v.geometry 0) v.geometry.log) old new
  pub others : (i : ℕ) → ¬ IsLogWord v i → Settles (cell old i) (cell new i)
  pub words : AreGoingToZero (log_line v.geometry 0) v.geometry.log old new

-- all of them, and that is durable
pub record ClearsLog (v : Volume) (old new : List Cell) : Type 0 where
  pub loses : LosesLog v old new
  pub zero : Follows (AreLinesZeroed (log_line v.geometry 0) v.geometry.log) old new
  pub singles : KeepsSingle old new

-- The log begins anew: its lines become zero and that is durable; then the log base becomes 1, as one transaction. The
-- power may go before, while lines become zero, or in the transaction.
abbrev pub IsRestartAnswer : View → View → Commit → Type 0
IsRestartAnswer old new Commit.Done =
    (middle : List Cell) × ClearsLog old.volume old.cells middle × IsBaseAnswer 1 (record old { cells = middle }) new Commit.Done
IsRestartAnswer old new Commit.PowerLost =
    IsOff old new
    ⊎ ((new ≡ record old { cells = new.cells; lost = true }) × LosesLog old.volume old.cells new.cells)
    ⊎ ((middle : List Cell) × ClearsLog old.volume old.cells middle × IsCut (base_set 1 old.volume) (record old { cells = middle }) new)
