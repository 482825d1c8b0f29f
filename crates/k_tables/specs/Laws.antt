-- When tables and a device have a tree, and what a tree tells, each as one statement.
use Rattle.std.specs.Prelude.{◌≡◌, ℕ, ◌*◌, List, length, Option}
use Rattle.pm_lines.specs.pm_model.declared.Cell.{Cell}
use Rattle.pm_lines.specs.pm_model.Cells.{AllHome}
use Rattle.pm_lines.specs.pm_model.Words.{Words}
use Rattle.layout_model.specs.Places.{Geometry, IsGeometry}
use Rattle.name_laws.specs.image_model.Content.{Node}
use Rattle.name_laws.specs.image_model.Kept.{AreKept}
use Rattle.name_laws.specs.image_model.Reading.{Reads}
use Rattle.name_laws.specs.image_model.Volume.{Volume}
use Rattle.posix_types.specs.declared.tree.TreeEntry.{TreeEntry}
use Rattle.posix_laws.specs.TreeOf.{IsTreeOf}
use Rattle.k_tables.specs.ContentsTrees.{HasTree, tree_content}

-- where words read as a volume that keeps the rules, and nothing is lent, its tables have a tree
abbrev pub HaveTrees : Type 0
HaveTrees =
    (g : Geometry) (f : Words) (v : Volume) (d : List Cell) → IsGeometry g → Reads g f v → AreKept v → length d ≡ 512 * g.blocks → AllHome d
    → HasTree v.inodes v.names v.maps d

-- contents with one tree are one content, and one content has one tree
abbrev pub TellContents : Type 0
TellContents =
    (a b : List (List ℕ) → Option Node) (tree : List TreeEntry) → IsTreeOf (tree_content a) tree → IsTreeOf (tree_content b) tree
    → (path : List (List ℕ)) → a path ≡ b path

abbrev pub HasOneTree : Type 0
HasOneTree =
    (a : List (List ℕ) → Option Node) (tree other : List TreeEntry) → IsTreeOf (tree_content a) tree → IsTreeOf (tree_content a) other → tree ≡ other
