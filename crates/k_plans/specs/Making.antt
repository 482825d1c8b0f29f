-- A node that is made with its name.
use Rattle.std.specs.Prelude.{◌≡◌, ℕ, Bool, List, None, Result, Ok, Err, if◌then◌else◌}
use Rattle.layout_model.specs.declared.lines.Kind.{Kind}
use Rattle.layout_model.specs.declared.lines.Kind.TheVariants.{Directory, File}
use Rattle.k_tables.specs.image_model.Volume.{Volume}
use Rattle.k_journal.specs.declared.batches.Record.{Record}
use Rattle.k_tables.specs.k_split_model.ChangesChanges.{made}
use Rattle.k_tables.specs.k_split_model.Spaces.{volume_space}
use Rattle.k_tables.specs.Found.{IsPlace}
use Rattle.k_tables.specs.declared.tables.making.Place.{Place}
use Rattle.k_tables.specs.posix_tables.NameRows.{mkdir_rows}
use Rattle.k_tables.specs.posix_tables.Outcomes.{first}
use Rattle.volume_change_laws.specs.CallLaws.{row_to}
use Rattle.k_plans.specs.PlansPlans.{IsPlan, IsNotMade}
use Rattle.k_plans.specs.View.{TablesView}
use Rattle.k_plans.specs.declared.plans.faults.PlanFault.{PlanFault}

abbrev pub kind_of : Bool → Kind
kind_of directory = if directory then Directory else File

-- the volume with a node in that place, under the last name of the path
abbrev pub made_at : Bool → List (List ℕ) → Place → Volume → Volume
made_at directory path place v = made (kind_of directory) place.ino place.line (row_to path place.parent place.ino) v

-- The node of this inode is made in the place that was found: the lowest free inode, the lowest free name line.
pub record IsMade (directory : Bool) (path : List (List ℕ)) (v w : Volume) (ino : ℕ) : Type 0 where
  pub place : Place
  pub is_place : IsPlace v.inodes v.names path place
  pub ino_is : ino ≡ place.ino
  pub is_made : w ≡ made_at directory path place v

-- what `make` answers and leaves
abbrev pub IsMakePlan : Bool → List (List ℕ) → TablesView → TablesView → List Record → Result ℕ PlanFault → Type 0
IsMakePlan directory path old new b (Ok ino) =
    (first (mkdir_rows (volume_space old.volume) path) ≡ None) × IsMade directory path old.volume new.volume ino
    × IsPlan old new b
IsMakePlan directory path old new b (Err fault) =
    IsNotMade fault (first (mkdir_rows (volume_space old.volume) path)) old new b
