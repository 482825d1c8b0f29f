-- A volume as the rules of names look at it.
use Rattle.std.specs.Prelude.{ℕ, List, count_by, Option, Some, None, slice_index_or, Bool, true, false}
use Rattle.std.specs.List.{filter_map}
use Rattle.image_model.specs.layout_model.declared.lines.Inode.{Inode}
use Rattle.image_model.specs.layout_model.declared.lines.Kind.{Kind}
use Rattle.image_model.specs.layout_model.declared.lines.Kind.TheVariants.{Free, Directory, File, Staging}
use Rattle.image_model.specs.layout_model.Lines.{NameRow}
use Rattle.image_model.specs.layout_model.Names.{is_free_row, Rows}
use Rattle.image_model.specs.Live.{is_directory}
use Rattle.image_model.specs.Volume.{free_inode, Volume}
use Rattle.posix_tables.specs.declared.nodes.DirEntry.{DirEntry}
use Rattle.posix_tables.specs.Names.{Space}

-- the entry that a name line is
abbrev pub entry_of : Option NameRow → Option DirEntry
entry_of None = None
entry_of (Some r) = Some (record { parent = r.parent; name = r.name; child = r.child })

abbrev pub entries_of : Rows → List DirEntry
entries_of rows = filter_map entry_of rows

abbrev pub is_free : Kind → Bool
is_free Free = true
is_free Directory = false
is_free File = false
is_free Staging = false

abbrev pub is_directory_in : List Inode → ℕ → Bool
is_directory_in inodes ino = is_directory (slice_index_or inodes ino free_inode).kind

-- a file system with these inodes and these names: the free inode lines are the nodes that are left
abbrev pub space_of : List Inode → Rows → Space
space_of inodes rows =
    record {
      directory = is_directory_in inodes;
      entries = entries_of rows;
      nodes_left = count_by (λ (x : Inode). is_free x.kind) inodes;
      lines_left = count_by is_free_row rows;
      longest = 48;
    }

abbrev pub volume_space : Volume → Space
volume_space v = space_of v.inodes v.names
