-- A name that is taken away, of a file or of a directory.
use Rattle.std.specs.Prelude.{◌≡◌, ℕ, List, None, Result, Ok, Err}
use Rattle.k_tables.specs.image_model.Volume.{Volume}
use Rattle.k_journal.specs.declared.batches.Record.{Record}
use Rattle.k_tables.specs.k_split_model.ChangesChanges.{removed, unnamed}
use Rattle.k_tables.specs.k_split_model.Spaces.{volume_space}
use Rattle.k_tables.specs.Found.{IsDirectoryAt, IsFileAt}
use Rattle.k_tables.specs.declared.tables.removing.Entry.{Entry}
use Rattle.k_tables.specs.posix_tables.NameRows.{rmdir_rows, unlink_rows}
use Rattle.k_tables.specs.posix_tables.Outcomes.{first}
use Rattle.k_plans.specs.PlansPlans.{IsPlan, IsNotMade}
use Rattle.k_plans.specs.View.{TablesView}
use Rattle.k_plans.specs.declared.plans.faults.PlanFault.{PlanFault}

-- The name of a path goes; its inode, which is no directory, stays.
pub record IsUnlinked (path : List (List ℕ)) (v w : Volume) (ino : ℕ) : Type 0 where
  pub entry : Entry
  pub is_file : IsFileAt v.inodes v.names path entry
  pub ino_is : ino ≡ entry.child
  pub is_unlinked : w ≡ unnamed entry.line v

-- The name of a path goes, with its inode, a directory without entries.
pub record IsRemoved (path : List (List ℕ)) (v w : Volume) : Type 0 where
  pub entry : Entry
  pub is_directory : IsDirectoryAt v.inodes v.names path entry
  pub is_removed : w ≡ removed entry.line entry.child v

-- what `unlink` answers and leaves
abbrev pub IsUnlinkPlan : List (List ℕ) → TablesView → TablesView → List Record → Result ℕ PlanFault → Type 0
IsUnlinkPlan path old new b (Ok ino) =
    (first (unlink_rows (volume_space old.volume) path) ≡ None) × IsUnlinked path old.volume new.volume ino
    × IsPlan old new b
IsUnlinkPlan path old new b (Err fault) = IsNotMade fault (first (unlink_rows (volume_space old.volume) path)) old new b

-- what `rmdir` answers and leaves
abbrev pub IsRmdirPlan : List (List ℕ) → TablesView → TablesView → List Record → Result (Unit {0}) PlanFault → Type 0
IsRmdirPlan path old new b (Ok done) =
    (first (rmdir_rows (volume_space old.volume) path) ≡ None) × IsRemoved path old.volume new.volume × IsPlan old new b
IsRmdirPlan path old new b (Err fault) = IsNotMade fault (first (rmdir_rows (volume_space old.volume) path)) old new b
