-- The sync crash relation: which trees a power loss may leave in sync mode. It is the strict one, but that an
-- unfinished write may be there in part: bytes below the old length are written in place, and each of them may or may
-- not have reached the medium.
use Rattle.std.specs.Prelude.{◌≡◌, ◌⊎◌, ℕ, ◌<◌, List, [], ◌∷◌, length, Some, slice_index}
use Rattle.posix_laws.specs.posix_types.declared.item.Item.{Item}
use Rattle.posix_laws.specs.posix_types.declared.tree.TreeEntry.{TreeEntry}
use Rattle.posix_laws.specs.posix_tables.Nodes.{bytes_of, node_at, published_of}
use Rattle.posix_laws.specs.posix_spec.Put.{Put, put_by}
use Rattle.posix_laws.specs.posix_spec.Run.{after_call, Unfinished, run}
use Rattle.posix_laws.specs.posix_spec.State.{State, with_file}
use Rattle.posix_laws.specs.posix_spec.Tree.{tree}

-- The bytes of a file after a write that was done in part: as many as after the whole write. Each is as the whole
-- write makes it, or, below the old length, as it was. So a write within the old length leaves the length, and one past
-- it has the new length, with its bytes at or past the old length as they are to be.
pub record IsPartOf (old whole bytes : List ℕ) : Type 0 where
  pub size : length bytes ≡ length whole
  pub each : (i : ℕ) → i < length bytes → (slice_index bytes i ≡ slice_index whole i) ⊎ ((i < length old) × (slice_index bytes i ≡ slice_index old i))

-- the bytes of a node's file
abbrev pub file_bytes : State → ℕ → List ℕ
file_bytes s n = bytes_of (node_at s.nodes n)

-- the state with other bytes in a file, and the same published length
abbrev pub with_bytes : State → ℕ → List ℕ → State
with_bytes s n bytes = with_file s n bytes (published_of (node_at s.nodes n))

-- The call is a write of at least one byte that is accepted in this state, and the next state is that after it, the
-- offset included, but for the bytes of the file: those are written in part.
pub record ActsInPart (s : State) (c : Unfinished) (next : State) : Type 0 where
  pub put : Put
  pub bytes : List ℕ
  pub is_write : put_by s c.0 c.1 ≡ Some put
  pub part : IsPartOf (file_bytes s put.node) (file_bytes (after_call s c) put.node) bytes
  pub next_is : next ≡ with_bytes (after_call s c) put.node bytes

-- the tree is that of a state reached by some of the unfinished calls, in order: each acts whole, in part, or not at all
abbrev pub SyncFrom : State → List Unfinished → List TreeEntry → Type 0
SyncFrom s [] left = left ≡ tree s
SyncFrom s (c ∷ unfinished) left =
    SyncFrom (after_call s c) unfinished left
    ⊎ ((next : State) × ActsInPart s c next × SyncFrom next unfinished left)
    ⊎ SyncFrom s unfinished left

-- all calls of the history have acted, and then some of the unfinished ones
abbrev pub Sync : State → List Item → List Unfinished → List TreeEntry → Type 0
Sync s history unfinished left = SyncFrom (run s history) unfinished left
