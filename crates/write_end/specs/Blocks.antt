-- Disk blocks that are out of a device or at home, and loans that come home.
use Rattle.std.specs.Prelude.{◌≡◌, ◌≢◌, ◌/◌, ◌%◌, ℕ, true, false, List, length}
use Rattle.oplog_entry.specs.pm_model.declared.Cell.{Cell}
use Rattle.oplog_entry.specs.pm_model.Cells.{cell, is_lent, unmarked}
use Rattle.oplog_entry.specs.pm_model.Parts.{Part}
use Rattle.oplog_entry.specs.layout_model.declared.lines.Draft.{Draft}
use Rattle.oplog_entry.specs.image_model.Volume.{Volume}
use Rattle.in_place.specs.k_split_laws.list_laws.Members.{In}
use Rattle.in_place.specs.write_plan.eof_laws.log_checkpoint.world_model.Jobs.{IsStagedIn}

-- each word of the blocks is lent; and none is
abbrev pub AreBlocksOut : List ℕ → List Cell → Type 0
AreBlocksOut blocks d = (i : ℕ) → In (i / 512) blocks → is_lent (cell d i) ≡ true

abbrev pub AreBlocksHome : List ℕ → List Cell → Type 0
AreBlocksHome blocks d = (i : ℕ) → In (i / 512) blocks → is_lent (cell d i) ≡ false

-- no word of the blocks of an entry is lent
abbrev pub AreHome : Volume → Draft → List Cell → Type 0
AreHome v draft d = (i : ℕ) → IsStagedIn v draft (i / 512) → is_lent (cell d i) ≡ false

-- THE LOANS CAME HOME, in whatever order: each word of their blocks is the loan's, with its mark ended, and is lent no more; and all
-- else is as before.
pub record ComeHome (loans : List Part) (d e : List Cell) : Type 0 where
  pub size : length e ≡ length d
  pub words : (loan : Part) (i : ℕ) → In loan loans → i / 512 ≡ loan.place → cell e i ≡ unmarked (cell loan.cells (i % 512))
  pub home : (loan : Part) (i : ℕ) → In loan loans → i / 512 ≡ loan.place → is_lent (cell e i) ≡ false
  pub beside : (i : ℕ) → ((loan : Part) → In loan loans → i / 512 ≢ loan.place) → cell e i ≡ cell d i
