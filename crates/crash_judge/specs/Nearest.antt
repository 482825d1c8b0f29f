-- What may be left of a state that is nearest to a tree: each byte is as the tree wants it, if it may be.
use Rattle.std.specs.Prelude.{◌≡◌, ℕ, ◌<◌, List, length, take, slice_index, if◌then◌else◌}
use Rattle.crash_spec.specs.posix_types.declared.tree.TreeEntry.{TreeEntry}
use Rattle.posix_tables.specs.declared.nodes.File.{File}
use Rattle.posix_tables.specs.declared.nodes.Node.{Node}
use Rattle.posix_tables.specs.Nodes.{node_at}
use Rattle.crash_judge.specs.declared.judge_bytes.effects.Effect.{Effect}
use Rattle.crash_judge.specs.Effects.{may_be, newest}
use Rattle.crash_judge.specs.Wanted.{wanted}

-- the wanted value, if it may be; else the newest
abbrev pub nearest : List Effect → List Effect → ℕ → ℕ → ℕ → ℕ → ℕ
nearest effects extra n i v x = if may_be effects extra n i v x then x else newest effects n i v

-- the file is cut to its published length
pub record IsNearest (effects extra : List Effect) (n : ℕ) (want : List ℕ) (file : File) (bytes : List ℕ) : Type 0 where
  pub size : length bytes ≡ length (take file.published file.bytes)
  pub each : (i : ℕ) → i < length bytes → slice_index bytes i ≡ nearest effects extra n i (slice_index file.bytes i) (slice_index want i)

abbrev pub IsNearestNode : List Effect → List Effect → ℕ → List ℕ → Node → Node → Type 0
IsNearestNode effects extra n want (Node.File file) (Node.File left) = IsNearest effects extra n want file left.bytes
IsNearestNode effects extra n want (Node.File file) Node.Gone = ⊥
IsNearestNode effects extra n want (Node.File file) Node.Directory = ⊥
IsNearestNode effects extra n want Node.Gone left = left ≡ Node.Gone
IsNearestNode effects extra n want Node.Directory left = left ≡ Node.Directory

pub record AreNearest (effects extra : List Effect) (numbers : List ℕ) (left : List TreeEntry) (nodes new : List Node) : Type 0 where
  pub size : length new ≡ length nodes
  pub each : (n : ℕ) → n < length nodes → IsNearestNode effects extra n (wanted numbers left n) (node_at nodes n) (node_at new n)
