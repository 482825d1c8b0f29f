-- The changes of names and nodes, each by its rows and by what it makes of the volume.
use Rattle.std.specs.Prelude.{◌≡◌, ◌⊎◌, ℕ, Bool, List, Option, None, Some, Result, Ok, Err}
use Rattle.k_map_plans.specs.k_plans.Making.{IsMade}
use Rattle.k_map_plans.specs.k_plans.Removing.{IsRemoved, IsUnlinked}
use Rattle.k_map_plans.specs.k_plans.Renaming.{IsRenamed}
use Rattle.k_tables.specs.k_split_model.ChangesChanges.{dropped}
use Rattle.k_tables.specs.k_split_model.Spaces.{volume_space}
use Rattle.k_tables.specs.k_split_model.View.{View}
use Rattle.posix_types.specs.declared.item.Outcome.{Outcome}
use Rattle.posix_types.specs.declared.reply.Reply.{Reply}
use Rattle.posix_tables.specs.NameRows.{mkdir_rows, rename_rows, rmdir_rows, unlink_rows}
use Rattle.posix_tables.specs.Outcomes.{answer, first}
use Rattle.k_split.specs.declared.faults.KFault.{KFault}
use Rattle.k_split.specs.Answers.{IsAnswer}

-- by which row each is refused
abbrev pub make_row : List (List ℕ) → View → Option Outcome
make_row path old = first (mkdir_rows (volume_space old.volume) path)

abbrev pub rmdir_row : List (List ℕ) → View → Option Outcome
rmdir_row path old = first (rmdir_rows (volume_space old.volume) path)

abbrev pub unlink_row : List (List ℕ) → View → Option Outcome
unlink_row path old = first (unlink_rows (volume_space old.volume) path)

abbrev pub rename_row : List (List ℕ) → List (List ℕ) → View → Option Outcome
rename_row path to old = first (rename_rows (volume_space old.volume) path to)

-- what each answers and leaves
abbrev pub IsMakeAnswer : Bool → List (List ℕ) → View → View → Result ℕ KFault → Type 0
IsMakeAnswer directory path old new result = IsAnswer (make_row path old) (λ ino w. IsMade directory path old.volume w ino) old new result

abbrev pub IsRmdirAnswer : List (List ℕ) → View → View → Result (Unit {0}) KFault → Type 0
IsRmdirAnswer path old new result = IsAnswer (rmdir_row path old) (λ done w. IsRemoved path old.volume w) old new result

abbrev pub IsUnlinkAnswer : List (List ℕ) → View → View → Result ℕ KFault → Type 0
IsUnlinkAnswer path old new result = IsAnswer (unlink_row path old) (λ ino w. IsUnlinked path old.volume w ino) old new result

-- both paths of a rename are those of one node: there is nothing to do
pub record IsIdle (row : Option Outcome) (old new : View) (lost : Option ℕ) : Type 0 where
  pub idle : row ≡ Some (answer Reply.Ok)
  pub same : new ≡ old
  pub none_lost : lost ≡ None

abbrev pub IsRenameAnswer : List (List ℕ) → List (List ℕ) → View → View → Result (Option ℕ) KFault → Type 0
IsRenameAnswer path to old new (Ok lost) =
    IsIdle (rename_row path to old) old new lost ⊎ IsAnswer (rename_row path to old) (λ l w. IsRenamed path to old.volume w l) old new (Ok lost)
IsRenameAnswer path to old new (Err fault) =
    IsAnswer (rename_row path to old) (λ (l : Option ℕ) w. IsRenamed path to old.volume w l) old new (Err fault)

-- a file that has no name goes
abbrev pub IsDropAnswer : ℕ → View → View → Result (Unit {0}) KFault → Type 0
IsDropAnswer ino old new result = IsAnswer None (λ done w. w ≡ dropped ino old.volume) old new result
