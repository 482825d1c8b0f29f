-- What each change of names and nodes asks for, so that it keeps the rules.
use Rattle.std.specs.Prelude.{◌≡◌, ◌≢◌, ◌⊎◌, ℕ, ◌+◌, ◌<◌, length, true, false, Some, None}
use Rattle.name_laws.specs.volume_laws.layout_model.declared.lines.Kind.{Kind}
use Rattle.name_laws.specs.volume_laws.layout_model.declared.lines.Kind.TheVariants.{Free, Directory, File}
use Rattle.name_laws.specs.volume_laws.layout_model.Lines.{NameRow}
use Rattle.name_laws.specs.volume_laws.layout_model.Names.{row, is_entry, names_of, has_entries, up}
use Rattle.name_laws.specs.volume_laws.image_model.Live.{is_directory}
use Rattle.name_laws.specs.volume_laws.image_model.Volume.{Volume, inode}
use Rattle.volume_change_laws.specs.Sane.{HasWayUp}

-- `made kind ino line r`: the inode and the line are free, the name is new, and its parent is a directory from which
-- going up comes to the root in less than 16 steps.
pub record MayMake (kind : Kind) (ino line : ℕ) (r : NameRow) (v : Volume) : Type 0 where
  pub kind_is : (kind ≡ Directory) ⊎ (kind ≡ File)
  pub ino_below : ino < length v.inodes
  pub ino_free : (inode v ino).kind ≡ Free
  pub line_below : line < length v.names
  pub line_free : row v.names line ≡ None
  pub child_is : r.child ≡ ino
  pub is_new : (k : ℕ) → is_entry r.parent r.name (row v.names k) ≡ false
  pub parent : is_directory (inode v r.parent).kind ≡ true
  pub way : HasWayUp v.names r.parent

-- `unnamed line`: the line names what is no directory
pub record MayUnname (line : ℕ) (r : NameRow) (v : Volume) : Type 0 where
  pub is : row v.names line ≡ Some r
  pub no_directory : is_directory (inode v r.child).kind ≡ false

-- `removed line ino`: the line names the inode, a directory without entries
pub record MayRemove (line ino : ℕ) (r : NameRow) (v : Volume) : Type 0 where
  pub is : row v.names line ≡ Some r
  pub child_is : r.child ≡ ino
  pub directory : is_directory (inode v ino).kind ≡ true
  pub empty : has_entries v.names ino ≡ false

-- The child of r may have the row s: its parent is a directory, `high` steps below the root, and not the child or below
-- it; and each directory m steps below the child is less than 16 steps below the root afterwards.
pub record HasPlace (r s : NameRow) (high : ℕ) (v : Volume) : Type 0 where
  pub same : s.child ≡ r.child
  pub parent : is_directory (inode v s.parent).kind ≡ true
  pub way : up v.names high s.parent ≡ Some 0
  pub short : high < 16
  pub outside : (m : ℕ) → up v.names m s.parent ≢ Some r.child
  pub deep : (k m : ℕ) (t : NameRow) → row v.names k ≡ Some t → up v.names m t.parent ≡ Some r.child → high + 1 + m < 16

-- `renamed line s`: the name is new, or the line's own
pub record MayRename (line : ℕ) (r s : NameRow) (high : ℕ) (v : Volume) : Type 0 where
  pub is : row v.names line ≡ Some r
  pub is_new : (k : ℕ) → is_entry s.parent s.name (row v.names k) ≡ true → k ≡ line
  pub place : HasPlace r s high v

-- a line of another child has the parent and the name already
pub record MayRenameOver (line : ℕ) (r s : NameRow) (high target : ℕ) (t : NameRow) (v : Volume) : Type 0 where
  pub is : row v.names line ≡ Some r
  pub target_is : row v.names target ≡ Some t
  pub apart : t.child ≢ r.child
  pub same_parent : t.parent ≡ s.parent
  pub same_name : t.name ≡ s.name
  pub place : HasPlace r s high v

-- `renamed_over_file line s target`: the other child is no directory
pub record MayRenameOverFile (line : ℕ) (r s : NameRow) (high target : ℕ) (t : NameRow) (v : Volume) : Type 0 where
  pub over : MayRenameOver line r s high target t v
  pub no_directory : is_directory (inode v t.child).kind ≡ false

-- `renamed_over_directory line s target ino`: it is an empty directory
pub record MayRenameOverDirectory (line : ℕ) (r s : NameRow) (high target ino : ℕ) (t : NameRow) (v : Volume) : Type 0 where
  pub over : MayRenameOver line r s high target t v
  pub child_is : t.child ≡ ino
  pub directory : is_directory (inode v ino).kind ≡ true
  pub empty : has_entries v.names ino ≡ false

-- `dropped ino`: a file without a name
pub record MayDrop (ino : ℕ) (v : Volume) : Type 0 where
  pub below : ino < length v.inodes
  pub file : (inode v ino).kind ≡ File
  pub unnamed : names_of v.names ino ≡ 0
