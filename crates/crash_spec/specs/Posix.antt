-- The POSIX crash relation: which trees a power loss may leave in POSIX mode.
--
-- A prefix of the changes is kept, and each `fsync` that returned ok is in it: names and lengths are those of the
-- prefix, each file cut to the length that it had published by then. Bytes below that length are written in place, so
-- that later writes may be seen in them: the last one, or, where the file was shortened since to that byte or less, any
-- of them (its block may have been given up and the old one be found again). Unmounting publishes all at once.
use Rattle.std.specs.Prelude.{◌≡◌, ◌⊎◌, ℕ, ◌<◌, Bool, true, false, ◌&&◌, List, [], ◌∷◌, ◌++◌, length, map, take, slice_index}
use Rattle.std.specs.List.{list_any}
use Rattle.posix_laws.specs.posix_types.declared.call.Call.{Call}
use Rattle.posix_laws.specs.posix_types.declared.reply.Reply.{Reply}
use Rattle.posix_laws.specs.posix_types.declared.item.Item.{Item}
use Rattle.posix_laws.specs.posix_types.declared.tree.TreeEntry.{TreeEntry}
use Rattle.posix_laws.specs.posix_tables.declared.nodes.File.{File}
use Rattle.posix_laws.specs.posix_tables.declared.nodes.Node.{Node}
use Rattle.posix_laws.specs.posix_tables.Nodes.{node_at}
use Rattle.posix_laws.specs.posix_spec.Run.{after_calls, Unfinished, begun, run}
use Rattle.posix_laws.specs.posix_spec.State.{State}
use Rattle.posix_laws.specs.posix_spec.Tree.{tree}
use Rattle.crash_spec.specs.Values.{is_shortened, IsOneOf, last_of, value_before_cut, values_put}

-- A rule for bytes: of byte i of node n, which had value v, whether x may be found there.
abbrev pub ByteRule : Type 1
ByteRule = (n i v x : ℕ) → Type 0

-- and which rule the calls give that came later than a state
abbrev pub LaterRule : Type 1
LaterRule = State → List Unfinished → ByteRule

-- the last of v and the later values, or any of them where the file was shortened
abbrev pub IsLastOrAny : Bool → ℕ → List ℕ → ℕ → Type 0
IsLastOrAny true v values x = IsOneOf (v ∷ values) x
IsLastOrAny false v values x = x ≡ last_of v values

-- THE RULE: the last value that was put there; where a later call shortened the file to i bytes or less, any of them
abbrev pub Overwritten : LaterRule
Overwritten s later n i v x = IsLastOrAny (is_shortened s later n i) v (values_put s later n i) x

-- The stronger rule, which stands beside it: the last value that was put there before the file was first shortened to
-- i bytes or less.
abbrev pub LastBeforeCut : LaterRule
LastBeforeCut s later n i v x = x ≡ value_before_cut s later n i v

-- either rule, or a value that unfinished calls put there, which run after the history
abbrev pub OrUnfinished : ByteRule → State → List Unfinished → ByteRule
OrUnfinished rule s unfinished n i v x = rule n i v x ⊎ IsOneOf (values_put s unfinished n i) x

-- a file is cut to its published length, and its bytes are by the rule
pub record FileLeft (rule : ByteRule) (n : ℕ) (file : File) (bytes : List ℕ) : Type 0 where
  pub size : length bytes ≡ length (take file.published file.bytes)
  pub each : (i : ℕ) → i < length bytes → rule n i (slice_index file.bytes i) (slice_index bytes i)

abbrev pub NodeLeft : ByteRule → ℕ → Node → Node → Type 0
NodeLeft rule n (Node.File file) (Node.File left) = FileLeft rule n file left.bytes
NodeLeft rule n (Node.File file) Node.Gone = ⊥
NodeLeft rule n (Node.File file) Node.Directory = ⊥
NodeLeft rule n Node.Gone left = left ≡ Node.Gone
NodeLeft rule n Node.Directory left = left ≡ Node.Directory

-- names are the same, and each node is left by the rule
pub record IsLeft (rule : ByteRule) (s left : State) : Type 0 where
  pub entries : left.entries ≡ s.entries
  pub count : length left.nodes ≡ length s.nodes
  pub each : (n : ℕ) → NodeLeft rule n (node_at s.nodes n) (node_at left.nodes n)

abbrev pub TreeLeft : ByteRule → State → List TreeEntry → Type 0
TreeLeft rule s left = (m : State) × IsLeft rule s m × (left ≡ tree m)

-- an `fsync` that returned ok
abbrev pub is_fsync : Call → Bool
is_fsync (Call.Fsync h) = true
is_fsync call = false

abbrev pub is_ok : Reply → Bool
is_ok Reply.Ok = true
is_ok reply = false

abbrev pub syncs : Item → Bool
syncs item = is_fsync item.call && is_ok item.reply

-- by their marks, the calls of a list that act, and the others, both in order; calls without a mark do not act
abbrev pub acting : List Bool → List Unfinished → List Unfinished
acting [] calls = []
acting (mark ∷ marks) [] = []
acting (true ∷ marks) (c ∷ calls) = c ∷ acting marks calls
acting (false ∷ marks) (c ∷ calls) = acting marks calls

abbrev pub others : List Bool → List Unfinished → List Unfinished
others [] calls = calls
others (mark ∷ marks) [] = []
others (true ∷ marks) (c ∷ calls) = others marks calls
others (false ∷ marks) (c ∷ calls) = c ∷ others marks calls

-- A front of the history is kept, with each `fsync` that returned ok. The later writes of the history and the writes of
-- unfinished calls may be seen in its bytes.
pub record KeepsFront (rule : LaterRule) (s : State) (history : List Item) (unfinished : List Unfinished) (left : List TreeEntry) : Type 0 where
  pub kept : List Item
  pub later : List Item
  pub is : history ≡ kept ++ later
  pub fsyncs : list_any syncs later ≡ false
  pub tree_left : TreeLeft (OrUnfinished (rule (run s kept) (map begun later)) (run s history) unfinished) (run s kept) left

-- All of the history is kept, and some of the unfinished calls, in order. The writes of the others may be seen in its
-- bytes.
pub record KeepsAll (rule : LaterRule) (s : State) (history : List Item) (unfinished : List Unfinished) (left : List TreeEntry) : Type 0 where
  pub marks : List Bool
  pub tree_left :
      TreeLeft (OrUnfinished (rule (after_calls (run s history) (acting marks unfinished)) []) (run s history) (others marks unfinished))
      (after_calls (run s history) (acting marks unfinished)) left

-- or the tree is that of the whole history, as unmount publishes it, in one commit
abbrev pub PosixBy : LaterRule → State → List Item → List Unfinished → List TreeEntry → Type 0
PosixBy rule s history unfinished left =
    KeepsFront rule s history unfinished left ⊎ KeepsAll rule s history unfinished left ⊎ (left ≡ tree (run s history))

abbrev pub Posix : State → List Item → List Unfinished → List TreeEntry → Type 0
Posix s history unfinished left = PosixBy Overwritten s history unfinished left

-- with the stronger rule for bytes
abbrev pub StrongPosix : State → List Item → List Unfinished → List TreeEntry → Type 0
StrongPosix s history unfinished left = PosixBy LastBeforeCut s history unfinished left
