-- Whether a call shortens a file. Files go by node numbers, which never change for a file.
use Rattle.std.specs.Prelude.{ℕ, Bool, false, ◌&&◌, nat_lt, nat_le, length}
use Rattle.posix_spec.specs.posix_tables.declared.nodes.Node.{Node}
use Rattle.posix_spec.specs.posix_tables.Nodes.{bytes_of, node_at}
use Rattle.posix_spec.specs.Run.{after_call, Unfinished}
use Rattle.posix_spec.specs.State.{State}

-- a file that is there has no byte i
abbrev pub ends_before : Node → ℕ → Bool
ends_before Node.Gone i = false
ends_before Node.Directory i = false
ends_before (Node.File file) i = nat_le (length file.bytes) i

-- a call shortens the file to i bytes or less
abbrev pub shortens : State → Unfinished → ℕ → ℕ → Bool
shortens s c n i = nat_lt i (length (bytes_of (node_at s.nodes n))) && ends_before (node_at (after_call s c).nodes n) i
