-- How many calls of a history changed the tree.
use Rattle.std.specs.Prelude.{◌≡◌, ◌⊎◌, ◌+◌, ℕ, List, [], ◌∷◌}
use Rattle.world_view_laws.specs.posix_types.declared.item.Item.{Item}
use Rattle.world_view_laws.specs.posix_spec.State.{State}
use Rattle.world_view_laws.specs.posix_spec.Step.{step}
use Rattle.world_view_laws.specs.posix_spec.Tree.{tree}

-- the state after the call of an item
abbrev pub after_item : State → Item → State
after_item s item = (step s item.who item.call).state

-- AT MOST n CALLS of the history changed the tree: each of the others leaves it as it is.
abbrev pub ChangesTreeAtMost : State → List Item → ℕ → Type 0
ChangesTreeAtMost s [] n = Unit {0}
ChangesTreeAtMost s (item ∷ items) n =
    ((tree (after_item s item) ≡ tree s) × ChangesTreeAtMost (after_item s item) items n)
    ⊎ ((m : ℕ) × (n ≡ m + 1) × ChangesTreeAtMost (after_item s item) items m)
