-- What a call puts into a file, and what it leaves.
use Rattle.std.specs.Prelude.{◌≡◌, ℕ, List, Some, slice_set}
use Rattle.posix_spec.specs.posix_types.declared.call.Call.{Call}
use Rattle.posix_spec.specs.posix_types.declared.call.Who.{Who}
use Rattle.posix_spec.specs.posix_tables.declared.nodes.Node.{Node}
use Rattle.posix_spec.specs.posix_tables.Bytes.{overwritten}
use Rattle.posix_spec.specs.posix_tables.Nodes.{bytes_of, node_at, published_of}
use Rattle.posix_spec.specs.Put.{Put, put_by}
use Rattle.posix_spec.specs.State.{State}

-- the bytes of a node's file after a put
abbrev pub put_bytes : State → Put → List ℕ
put_bytes s p = overwritten (bytes_of (node_at s.nodes p.node)) p.place p.bytes

-- the call puts these whole bytes into this node
pub record PutsWhole (s : State) (who : Who) (call : Call) (node : ℕ) (whole : List ℕ) : Type 0 where
  pub put : Put
  pub is : put_by s who call ≡ Some put
  pub node_is : put.node ≡ node
  pub whole_is : put_bytes s put ≡ whole

-- a file with these bytes, whose published length stays
abbrev pub with_whole : State → ℕ → List ℕ → Node
with_whole s node whole = Node.File (record { bytes = whole; published = published_of (node_at s.nodes node) })

-- What such a call leaves: entries, shape and mode as they were, and the nodes with that file.
pub record LeavesWhole (s new : State) (node : ℕ) (whole : List ℕ) : Type 0 where
  pub entries : new.entries ≡ s.entries
  pub shape : new.shape ≡ s.shape
  pub mode : new.mode ≡ s.mode
  pub nodes : new.nodes ≡ slice_set s.nodes node (with_whole s node whole)
