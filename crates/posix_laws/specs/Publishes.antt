-- What is so of each state that calls lead to, of open files and of published lengths.
use Rattle.std.specs.Prelude.{◌≡◌, ◌≢◌, ◌⊎◌, ◌<◌, ◌≤◌, ℕ, List, true, false, length}
use Rattle.posix_spec.specs.posix_types.declared.call.Call.{Call}
use Rattle.posix_spec.specs.posix_types.declared.call.Who.{Who}
use Rattle.posix_spec.specs.posix_tables.declared.nodes.File.{File}
use Rattle.posix_spec.specs.posix_tables.declared.nodes.Node.{Node}
use Rattle.posix_spec.specs.posix_tables.Names.{exists_at, number_at}
use Rattle.posix_spec.specs.posix_tables.Nodes.{bytes_of, node_at, published_of}
use Rattle.posix_spec.specs.posix_tables.Open.{is_open, nothing_open}
use Rattle.posix_spec.specs.Run.{after_call, Unfinished}
use Rattle.posix_spec.specs.State.{space, State}
use Rattle.posix_spec.specs.Step.{step}
use Rattle.posix_laws.specs.Shortens.{shortens}

-- WHAT IS SO BETWEEN CALLS, from a state in which nothing is open and all is published: what is open is a file; a published length
-- is at most the length; and of a file that nobody has open all is published.
pub record IsPublishing (s : State) : Type 0 where
  pub open_files : (n : ℕ) → is_open s.tables n ≡ true → (file : File) × (node_at s.nodes n ≡ Node.File file)
  pub within : (n : ℕ) → published_of (node_at s.nodes n) ≤ length (bytes_of (node_at s.nodes n))
  pub closed : (n : ℕ) → is_open s.tables n ≡ false → published_of (node_at s.nodes n) ≡ length (bytes_of (node_at s.nodes n))

-- What stands at a path is there. (A name that led to a node that is gone would be opened, and would come back with `t`.)
abbrev pub PathsLeadToNodes : State → Type 0
PathsLeadToNodes s = (p : List (List ℕ)) → exists_at (space s) p ≡ true → node_at s.nodes (number_at (space s) p) ≢ Node.Gone

-- Byte i of a node is one of its file, and published.
pub record HasPublished (node : Node) (i : ℕ) : Type 0 where
  pub below : i < published_of node
  pub there : i < length (bytes_of node)

-- so it is of a state in which nothing is open and all is published
abbrev pub BeginsPublishing : Type 0
BeginsPublishing =
    (s : State) → s.tables ≡ nothing_open → ((n : ℕ) → published_of (node_at s.nodes n) ≡ length (bytes_of (node_at s.nodes n))) → IsPublishing s

-- and behind each call
abbrev pub KeepsPublishing : Type 0
KeepsPublishing = (s : State) (who : Who) (call : Call) → IsPublishing s → PathsLeadToNodes s → IsPublishing (step s who call).state

-- What is gone stays gone: a node number is never used again.
abbrev pub KeepsGone : Type 0
KeepsGone =
    (s : State) (c : Unfinished) (n : ℕ) → IsPublishing s → PathsLeadToNodes s → n < length s.nodes → node_at s.nodes n ≡ Node.Gone
    → node_at (after_call s c).nodes n ≡ Node.Gone

-- A published byte stays published, or its file goes, or this call shortens it.
abbrev pub KeepsPublished : Type 0
KeepsPublished =
    (s : State) (c : Unfinished) (n i : ℕ) → IsPublishing s → HasPublished (node_at s.nodes n) i → shortens s c n i ≡ false
    → HasPublished (node_at (after_call s c).nodes n) i ⊎ (node_at (after_call s c).nodes n ≡ Node.Gone)
