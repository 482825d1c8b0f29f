-- The tree of a state that shows the same.
use Rattle.std.specs.Prelude.{◌≡◌, ℕ, zero, suc, List, [], ◌∷◌, map, slice_set, refl}
use Rattle.std.proofs.Common.{ap, ◌∙◌, sym}
use Rattle.open_files.specs.posix_tables.declared.nodes.Node.{Node}
use Rattle.open_files.specs.posix_tables.Nodes.{node_at, published_node}
use Rattle.open_files.specs.posix_tables.Places.{places, tree_node}
use Rattle.open_files.specs.posix_spec.State.{State, with_published}
use Rattle.open_files.specs.posix_spec.Tree.{tree}
use Rattle.posix_types.specs.declared.tree.TreeEntry.{TreeEntry}
use Rattle.live_step_laws.specs.world_step_laws.OtherCalls.{SameShown}
use Rattle.live_step_laws.specs.world_step_laws.Steps.{shown_node}

-- an entry shows a node as it is shown
of_shown : (x : Node) → tree_node (shown_node x) ≡ tree_node x
of_shown Node.Gone = refl
of_shown Node.Directory = refl
of_shown (Node.File file) = refl

-- names and places are the same, and each node is shown alike
of_nodes : (s : State) (nodes : List Node) → ((n : ℕ) → tree_node (node_at nodes n) ≡ tree_node (node_at s.nodes n)) → tree (record s { nodes = nodes }) ≡ tree s
of_nodes s nodes same = λ i. map (λ z. (let entry : TreeEntry = record { path = z.path; node = same z.node i } in entry)) (places s.entries)

pub tree_shown : (s new : State) → SameShown s new → tree new ≡ tree s
tree_shown s new same =
    (λ i. tree (record new { entries = same.entries i }))
    ∙ of_nodes s new.nodes (λ n. sym (of_shown (node_at new.nodes n)) ∙ (ap tree_node (same.nodes n) ∙ of_shown (node_at s.nodes n)))

-- names and nodes are the same
pub tree_still : (s new : State) → new.nodes ≡ s.nodes → new.entries ≡ s.entries → tree new ≡ tree s
tree_still s new nodes entries = λ i. tree (record new { nodes = nodes i; entries = entries i })

-- a published length is in no tree
published_shown : (nodes : List Node) (n k : ℕ) → tree_node (node_at (slice_set nodes n (published_node (node_at nodes n))) k) ≡ tree_node (node_at nodes k)
published_shown [] n k = refl
published_shown (x ∷ xs) zero zero = own x where
  own : (node : Node) → tree_node (published_node node) ≡ tree_node node
  own Node.Gone = refl
  own Node.Directory = refl
  own (Node.File file) = refl
published_shown (x ∷ xs) zero (suc k) = refl
published_shown (x ∷ xs) (suc n) zero = refl
published_shown (x ∷ xs) (suc n) (suc k) = published_shown xs n k

pub tree_published : (s : State) (n : ℕ) → tree (with_published s n) ≡ tree s
unfolding with_published
tree_published s n = of_nodes s (slice_set s.nodes n (published_node (node_at s.nodes n))) (published_shown s.nodes n)
