-- What the calls on names find in the tables.
use Rattle.std.specs.Prelude.{◌≡◌, ℕ, ◌<◌, true, false, List, length, position, Option, Some, None}
use Rattle.layout_model.specs.declared.lines.Inode.{Inode}
use Rattle.layout_model.specs.Names.{Rows, find_name, free_line}
use Rattle.k_names.specs.Finding.{IsRow}
use Rattle.name_laws.specs.k_split_model.Spaces.{entries_of, is_directory_in, is_free, space_of}
use Rattle.posix_tables.specs.Names.{child_of, has_entries, last_name}
use Rattle.name_laws.specs.Paths.{HasDirectory, IsAt, IsNewAt}
use Rattle.k_tables.specs.declared.tables.making.Place.{Place}
use Rattle.k_tables.specs.declared.tables.removing.Entry.{Entry}
use Rattle.k_tables.specs.declared.tables.renaming.Moving.{Moving}

-- the lowest free inode and the lowest free name line
pub record HasRoomAt (inodes : List Inode) (rows : Rows) (place : Place) : Type 0 where
  pub ino : position (λ (x : Inode). is_free x.kind) inodes ≡ Some place.ino
  pub ino_within : place.ino < length inodes
  pub line : free_line rows ≡ Some place.line
  pub line_within : place.line < length rows

-- the directory of the path, which has no such name, and room for a node with a name
pub record IsPlace (inodes : List Inode) (rows : Rows) (path : List (List ℕ)) (place : Place) : Type 0 where
  pub is_new : IsNewAt (space_of inodes rows) path place.parent
  pub room : HasRoomAt inodes rows place

-- the line of a path's last name in its directory, and the inode that it leads to
pub record IsEntryAt (inodes : List Inode) (rows : Rows) (path : List (List ℕ)) (entry : Entry) : Type 0 where
  pub is_at : IsAt (space_of inodes rows) path entry.parent entry.child
  pub line : find_name rows entry.parent (last_name path) ≡ Some (entry.line, entry.child)
  pub within : entry.line < length rows
  pub is_row : IsRow rows entry.parent (last_name path) entry.line entry.child

-- likewise of what is no directory, and of a directory without entries
pub record IsFileAt (inodes : List Inode) (rows : Rows) (path : List (List ℕ)) (entry : Entry) : Type 0 where
  pub is_entry : IsEntryAt inodes rows path entry
  pub is_file : is_directory_in inodes entry.child ≡ false

pub record IsDirectoryAt (inodes : List Inode) (rows : Rows) (path : List (List ℕ)) (entry : Entry) : Type 0 where
  pub is_entry : IsEntryAt inodes rows path entry
  pub is_directory : is_directory_in inodes entry.child ≡ true
  pub is_empty : has_entries (entries_of rows) entry.child ≡ false

-- what stands at a path whose directory is there: an entry, or none
abbrev pub IsTargetAt : List Inode → Rows → List (List ℕ) → ℕ → Option Entry → Type 0
IsTargetAt inodes rows path parent None = child_of (entries_of rows) parent (last_name path) ≡ None
IsTargetAt inodes rows path parent (Some entry) = (entry.parent ≡ parent) × IsEntryAt inodes rows path entry

-- both entries of a rename from p to q
pub record IsMoving (inodes : List Inode) (rows : Rows) (p q : List (List ℕ)) (moving : Moving) : Type 0 where
  pub is_entry : IsEntryAt inodes rows p moving.entry
  pub directory : HasDirectory (space_of inodes rows) q moving.parent
  pub is_target : IsTargetAt inodes rows q moving.parent moving.target
