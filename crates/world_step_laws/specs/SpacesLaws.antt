-- The laws of the space of a volume that stands for a state, each as one statement.
use Rattle.std.specs.Prelude.{◌≡◌, ℕ, List, Ok, option_map}
use Rattle.world_model.specs.name_laws.pm_model.Words.{Words}
use Rattle.world_model.specs.name_laws.layout_model.declared.lines.Draft.{Draft}
use Rattle.world_model.specs.name_laws.image_model.Volume.{Volume}
use Rattle.world_model.specs.name_laws.k_split_model.Spaces.{volume_space}
use Rattle.world_model.specs.name_laws.posix_tables.Names.{has_entries, height, longest_path, node_at_path, parent_at, walk}
use Rattle.world_model.specs.posix_spec.State.{space, State}
use Rattle.world_model.specs.Stands.{IsUsed, number, Stands}
use Rattle.world_step_laws.specs.Counts.{HasShape}
use Rattle.world_step_laws.specs.Rows.{HaveSameRows}

-- the rows of every call that takes a path are those over the state's space: each call is refused by the same row, with the
-- same words
abbrev pub HasSameReplies : Type 0
HasSameReplies =
    (v : Volume) (live : List Draft) (f : Words) (numbers : List ℕ) (s : State) → Stands v live f numbers s → HasShape v s
    → HaveSameRows (volume_space v) (space s)

-- a path leads to the node of the inode to which it leads in the volume
abbrev pub LeadsToSameNode : Type 0
LeadsToSameNode =
    (v : Volume) (live : List Draft) (f : Words) (numbers : List ℕ) (s : State) (p : List (List ℕ)) → Stands v live f numbers s → HasShape v s
    → option_map (number numbers) (node_at_path (volume_space v) p) ≡ node_at_path (space s) p

-- and so does the walk of its directory
abbrev pub LeadsToSameDirectory : Type 0
LeadsToSameDirectory =
    (v : Volume) (live : List Draft) (f : Words) (numbers : List ℕ) (s : State) (p : List (List ℕ)) (parent : ℕ) → Stands v live f numbers s → HasShape v s
    → walk (volume_space v) p ≡ Ok parent → IsUsed v parent × (walk (space s) p ≡ Ok (number numbers parent)) × (parent_at (space s) p ≡ number numbers parent)

-- as many nodes and as many name lines are left
abbrev pub LeavesAsManyNodes : Type 0
LeavesAsManyNodes =
    (v : Volume) (live : List Draft) (f : Words) (numbers : List ℕ) (s : State) → Stands v live f numbers s → HasShape v s
    → (volume_space v).nodes_left ≡ (space s).nodes_left

abbrev pub LeavesAsManyLines : Type 0
LeavesAsManyLines =
    (v : Volume) (live : List Draft) (f : Words) (numbers : List ℕ) (s : State) → Stands v live f numbers s → HasShape v s
    → (volume_space v).lines_left ≡ (space s).lines_left

-- a node is as high, and has entries where its inode has
abbrev pub IsAsHigh : Type 0
IsAsHigh =
    (v : Volume) (live : List Draft) (f : Words) (numbers : List ℕ) (s : State) (ino : ℕ) → Stands v live f numbers s → HasShape v s → IsUsed v ino
    → height (volume_space v).entries longest_path ino ≡ height s.entries longest_path (number numbers ino)

abbrev pub IsAsFull : Type 0
IsAsFull =
    (v : Volume) (live : List Draft) (f : Words) (numbers : List ℕ) (s : State) (ino : ℕ) → Stands v live f numbers s → HasShape v s → IsUsed v ino
    → has_entries (volume_space v).entries ino ≡ has_entries s.entries (number numbers ino)
