-- A node that gets another path.
use Rattle.std.specs.Prelude.{◌≡◌, ◌⊎◌, ℕ, List, [], Option, None, Some, Result, Ok, Err, if◌then◌else◌}
use Rattle.layout_model.specs.declared.lines.Inode.{Inode}
use Rattle.layout_model.specs.Lines.{NameRow}
use Rattle.k_tables.specs.image_model.Volume.{Volume}
use Rattle.k_journal.specs.declared.batches.Record.{Record}
use Rattle.k_tables.specs.k_split_model.ChangesChanges.{renamed, renamed_over_directory, renamed_over_file}
use Rattle.k_tables.specs.k_split_model.Spaces.{is_directory_in, volume_space}
use Rattle.k_tables.specs.Found.{IsMoving}
use Rattle.k_tables.specs.declared.tables.removing.Entry.{Entry}
use Rattle.k_tables.specs.declared.tables.renaming.Moving.{Moving}
use Rattle.posix_types.specs.declared.item.Outcome.{Outcome}
use Rattle.posix_types.specs.declared.reply.Reply.{Reply}
use Rattle.k_tables.specs.posix_tables.NameRows.{rename_rows}
use Rattle.k_tables.specs.posix_tables.Outcomes.{answer, first}
use Rattle.volume_change_laws.specs.CallLaws.{row_to}
use Rattle.k_plans.specs.PlansPlans.{IsPlan, IsFaultOf, IsNotMade}
use Rattle.k_plans.specs.View.{TablesView}
use Rattle.k_plans.specs.declared.plans.faults.PlanFault.{PlanFault}

-- A name line gets another row. What stood at the new path loses its name, and is gone where it is a directory.
abbrev pub renamed_over : ℕ → NameRow → Option Entry → Volume → Volume
renamed_over line r None v = renamed line r v
renamed_over line r (Some target) v =
    if is_directory_in v.inodes target.child then renamed_over_directory line r target.line target.child v
    else renamed_over_file line r target.line v

-- the volume in which the node has the path q
abbrev pub renamed_to : List (List ℕ) → Moving → Volume → Volume
renamed_to q moving v = renamed_over moving.entry.line (row_to q moving.parent moving.entry.child) moving.target v

-- the file that loses its name, where one does
abbrev pub file_over : List Inode → Option Entry → Option ℕ
file_over inodes None = None
file_over inodes (Some target) = if is_directory_in inodes target.child then None else Some target.child

-- The node at p gets the path q.
pub record IsRenamed (p q : List (List ℕ)) (v w : Volume) (lost : Option ℕ) : Type 0 where
  pub moving : Moving
  pub is_moving : IsMoving v.inodes v.names p q moving
  pub lost_is : lost ≡ file_over v.inodes moving.target
  pub is_renamed : w ≡ renamed_to q moving v

-- Both paths are those of one node: there is nothing to do.
pub record IsIdle (o : Option Outcome) (old new : TablesView) (b : List Record) (lost : Option ℕ) : Type 0 where
  pub idle : o ≡ Some (answer Reply.Ok)
  pub same : new ≡ old
  pub no_lines : b ≡ []
  pub none_lost : lost ≡ None

-- what `rename` answers and leaves
abbrev pub IsRenamePlan : List (List ℕ) → List (List ℕ) → TablesView → TablesView → List Record
    → Result (Option ℕ) PlanFault → Type 0
IsRenamePlan p q old new b (Ok lost) =
    IsIdle (first (rename_rows (volume_space old.volume) p q)) old new b lost
    ⊎ ((first (rename_rows (volume_space old.volume) p q) ≡ None) × IsRenamed p q old.volume new.volume lost
    × IsPlan old new b)
IsRenamePlan p q old new b (Err fault) = IsNotMade fault (first (rename_rows (volume_space old.volume) p q)) old new b

-- what a rename that is refused answers, by the outcome of its rows
abbrev pub IsUnmoved : Option Outcome → Result (Option ℕ) PlanFault → Type 0
IsUnmoved o (Ok lost) = (o ≡ Some (answer Reply.Ok)) × (lost ≡ None)
IsUnmoved o (Err fault) = IsFaultOf fault o
