-- The laws of the beginning, each as one statement.
use Rattle.std.specs.Prelude.{◌≡◌, ◌≢◌, ◌≤◌, ◌+◌, ℕ, List, [], Some}
use Rattle.world_step_laws.specs.pm_model.Words.{Words}
use Rattle.world_step_laws.specs.layout_model.Places.{data_blocks, Geometry, IsGeometry, reserve}
use Rattle.world_step_laws.specs.layout_model.declared.lines.Draft.{Draft}
use Rattle.world_step_laws.specs.layout_model.declared.lines.Kind.TheVariants.{File}
use Rattle.world_step_laws.specs.layout_model.Names.{names_of, walk}
use Rattle.world_step_laws.specs.image_model.Content.{found}
use Rattle.world_step_laws.specs.image_model.Kept.{AreKept}
use Rattle.world_step_laws.specs.image_model.Reading.{Reads}
use Rattle.world_step_laws.specs.image_model.Room.{held_after_recovery}
use Rattle.world_step_laws.specs.image_model.Volume.{inode, Volume}
use Rattle.world_step_laws.specs.k_split_model.Spaces.{volume_space}
use Rattle.world_step_laws.specs.posix_types.declared.call.Mode.{Mode}
use Rattle.world_step_laws.specs.posix_types.declared.reply.Shape.{Shape}
use Rattle.world_step_laws.specs.posix_types.declared.tree.TreeEntry.{TreeEntry}
use Rattle.world_step_laws.specs.posix_spec.State.{space, State}
use Rattle.world_step_laws.specs.posix_spec.Tree.{start, tree}
use Rattle.world_step_laws.specs.posix_laws.Begins.{IsTree}
use Rattle.world_step_laws.specs.world_model.Shown.{IsTreeOfContent}
use Rattle.world_step_laws.specs.Worlds.{IsWorld}
use Rattle.world_image_laws.specs.Begun.{numbers_of}
use Rattle.world_step_laws.specs.world_model.Stands.{IsUsed}
use Rattle.world_image_laws.specs.FirstPaths.{first_path, IsFirstPath}
use Rattle.world_image_laws.specs.Mounted.{IsMounted}

-- A shape has the numbers of a geometry: its data blocks, a node for each inode but those of the four staging files, and its
-- name lines.
pub record IsShapeOf (g : Geometry) (shape : Shape) : Type 0 where
  pub blocks : shape.data_blocks ≡ data_blocks g
  pub nodes : shape.nodes + 4 ≡ g.inodes
  pub names : shape.names ≡ g.names

-- What stands once an image is mounted: the World, with nothing claimed and no job, for a state that has the tree; and as many
-- nodes and name lines are left in the one as in the other.
pub record Begins (v : Volume) (f : Words) (t : List TreeEntry) (s : State) : Type 0 where
  pub world : IsWorld v [] [] f (numbers_of v t) s 0
  pub tree_is : tree s ≡ t
  pub nodes_left : (volume_space v).nodes_left ≡ (space s).nodes_left
  pub lines_left : (volume_space v).lines_left ≡ (space s).lines_left

-- A mounted volume, in which each file has a name and nothing is live, begins as the tree of its content.
abbrev pub BeginsMounted : Type 0
BeginsMounted =
    (v : Volume) (f : Words) (t : List TreeEntry) (shape : Shape) (mode : Mode) → IsMounted v → IsGeometry v.geometry
    → IsShapeOf v.geometry shape → IsTreeOfContent (found v [] f) t
    → held_after_recovery v [] + reserve v.geometry ≤ data_blocks v.geometry
    → Begins v f t (start t shape mode)

-- the list of its content is a tree, whatever is live
abbrev pub HasTreeMounted : Type 0
HasTreeMounted =
    (v : Volume) (live : List Draft) (f : Words) (t : List TreeEntry) → IsMounted v → IsTreeOfContent (found v live f) t
    → IsTree t

-- words that read as a volume that keeps the rules are mounted, once each file has a name
abbrev pub MountsReads : Type 0
MountsReads =
    (g : Geometry) (j : Words) (v : Volume) → Reads g j v → AreKept v → IsGeometry g
    → ((ino : ℕ) → (inode v ino).kind ≡ File → 1 ≤ names_of v.names ino)
    → IsMounted v

-- each inode in use but the root has a first path: no path that leads there is printed before it
abbrev pub HasFirstPath : Type 0
HasFirstPath =
    (v : Volume) → IsMounted v → (ino : ℕ) → IsUsed v ino → ino ≢ 0
    → (p : List (List ℕ)) × (first_path v.names ino ≡ Some p) × IsFirstPath v.names ino p

-- where an inode has one name it is the path that leads there
abbrev pub HasOwnFirstPath : Type 0
HasOwnFirstPath =
    (v : Volume) → IsMounted v → (ino : ℕ) → IsUsed v ino → ino ≢ 0 → names_of v.names ino ≤ 1 → (q : List (List ℕ))
    → walk v.names 0 q ≡ Some ino → first_path v.names ino ≡ Some q
