-- What the rules of a checked image ask of a volume alone, whatever words it is read from.
use Rattle.std.specs.Prelude.{◌≡◌, ℕ, ◌<◌, All, true, Option, Some, None}
use Rattle.layout_model.specs.Places.{is_data_block}
use Rattle.layout_model.specs.Lines.{NameRow}
use Rattle.layout_model.specs.Names.{row}
use Rattle.image_model.specs.Rules.{IsKindAt, IsNamed, file_blocks_of, IsInData, IsNamedOnce, IsRowPlaced, AreDirectoriesNamed, HasOneName}
use Rattle.image_model.specs.Volume.{Volume, inode, extents}

-- the child and the parent of a row, where there is one
abbrev pub IsNamedRow : Volume → Option NameRow → Type 0
IsNamedRow v None = Unit {0}
IsNamedRow v (Some r) = IsNamed v r

-- The volume keeps the rules: each inode's kind may stand at its number (of rule 5); each row names a directory or a
-- file of an inode in range (of 6); extents lie in data blocks (of 7); no data block is named twice (8); the names
-- are a tree (9); no node has two names (10).
pub record AreKept (v : Volume) : Type 0 where
  pub kinds : (ino : ℕ) → ino < v.geometry.inodes → IsKindAt ino (inode v ino).kind
  pub named : (k : ℕ) → k < v.geometry.names → IsNamedRow v (row v.names k)
  pub in_data : (ino : ℕ) → ino < v.geometry.inodes → All (IsInData v.geometry (file_blocks_of (inode v ino).kind)) (extents v ino)
  pub once : (b : ℕ) → is_data_block v.geometry b ≡ true → IsNamedOnce v b
  pub placed : (k : ℕ) → k < v.geometry.names → IsRowPlaced v k (row v.names k)
  pub directories : AreDirectoriesNamed v
  pub one_name : (ino : ℕ) → ino < v.geometry.inodes → HasOneName v ino
