-- The state of a file system that the calls see, and what changes it.
use Rattle.std.specs.Prelude.{ℕ, ◌+◌, ◌-◌, ◌≤◌, Bool, false, ◌||◌, List, [], ◌∷◌, ◌++◌, length, count_by, sum_by, if◌then◌else◌, slice_set}
use Rattle.posix_types.specs.declared.call.Mode.{Mode}
use Rattle.posix_types.specs.declared.reply.Shape.{Shape}
use Rattle.posix_tables.specs.declared.nodes.Node.{Node}
use Rattle.posix_tables.specs.declared.nodes.DirEntry.{DirEntry}
use Rattle.posix_tables.specs.block_counts.Counts.{reserve_for}
use Rattle.posix_tables.specs.Room.{held}
use Rattle.posix_tables.specs.Open.{is_open, Tables}
use Rattle.posix_tables.specs.Names.{is_named, last_name, lines_taken, longest_name, parent_at, Space, with_entry, without_entry}
use Rattle.posix_tables.specs.Nodes.{is_directory, is_live, node_at, published_node}

-- Nodes stand by their numbers, so the next number is their count; one that went leaves `Gone`. Entries stand in one order.
pub record State : Type 0 where
  pub nodes : List Node
  pub entries : List DirEntry
  pub tables : Tables
  pub shape : Shape
  pub mode : Mode

-- what the rules of names look at
abbrev pub space : State → Space
space s = record {
  directory = is_directory s.nodes;
  entries = s.entries;
  nodes_left = s.shape.nodes - count_by is_live s.nodes;
  lines_left = s.shape.names - sum_by (λ entry. lines_taken entry.name) s.entries;
  longest = longest_name s.shape;
}

-- the data blocks that are left
abbrev pub room : State → ℕ
room s = s.shape.data_blocks - reserve_for s.shape.data_blocks - held s.nodes

-- What the files hold leaves the reserve. The room stops at 0, and does not say so.
abbrev pub Fits : State → Type 0
Fits s = held s.nodes + reserve_for s.shape.data_blocks ≤ s.shape.data_blocks

-- Where several instances stand over one file system, each with tables and a mode of its own, a step asks this about the
-- instance of its caller: whether another one has a node open, and whether a write publishes the length of the file.
pub record Instance : Type 0 where
  pub open_elsewhere : ℕ → Bool
  pub write_publishes : Bool

-- the instance of a file system that has no other
abbrev pub alone : Instance
alone = record { open_elsewhere = λ n. false; write_publishes = false }

-- Changes.

-- another node with a number
abbrev pub with_node : State → ℕ → Node → State
with_node s n node = record s { nodes = slice_set s.nodes n node }

-- the file with a number has these bytes and this published length
unfoldable pub with_file : State → ℕ → List ℕ → ℕ → State
with_file s n bytes published = with_node s n (Node.File (record { bytes = bytes; published = published }))

-- its length is published
unfoldable pub with_published : State → ℕ → State
with_published s n = with_node s n (published_node (node_at s.nodes n))

-- a new node at a path
unfoldable pub made : State → List (List ℕ) → Node → State
made s path node =
    record s {
      nodes = s.nodes ++ node ∷ [];
      entries = with_entry s.entries (record { parent = parent_at (space s) path; name = last_name path; child = length s.nodes });
    }

-- the name of a path is gone
unfoldable pub unnamed : State → List (List ℕ) → State
unnamed s path = record s { entries = without_entry s.entries (parent_at (space s) path) (last_name path) }

-- a file without a name and without a description of any instance goes
unfoldable pub swept : Instance → State → ℕ → State
swept i s n = if i.open_elsewhere n || (is_named s.entries n || is_open s.tables n) then s else with_node s n Node.Gone
