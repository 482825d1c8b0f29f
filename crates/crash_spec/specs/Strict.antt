-- The strict crash relation: which trees a power loss may leave in strict mode.
use Rattle.std.specs.Prelude.{◌≡◌, ◌⊎◌, List, [], ◌∷◌, refl}
use Rattle.std.proofs.Common.{inl, inr}
use Rattle.posix_laws.specs.posix_types.declared.item.Item.{Item}
use Rattle.posix_laws.specs.posix_types.declared.tree.TreeEntry.{TreeEntry}
use Rattle.posix_laws.specs.posix_spec.Tree.{tree}
use Rattle.posix_laws.specs.posix_spec.State.{State}
use Rattle.posix_laws.specs.posix_spec.Run.{after_call, Unfinished, run}

-- the tree is that of the state after some of the unfinished calls, in order: each acts whole, or not at all
abbrev pub StrictFrom : State → List Unfinished → List TreeEntry → Type 0
StrictFrom s [] left = left ≡ tree s
StrictFrom s (c ∷ unfinished) left = StrictFrom (after_call s c) unfinished left ⊎ StrictFrom s unfinished left

-- all calls of the history have acted, and then some of the unfinished ones
abbrev pub Strict : State → List Item → List Unfinished → List TreeEntry → Type 0
Strict s history unfinished left = StrictFrom (run s history) unfinished left

StrictFrom-none : (s : State) (unfinished : List Unfinished) → StrictFrom s unfinished (tree s)
StrictFrom-none s [] = refl
StrictFrom-none s (c ∷ unfinished) = inr (StrictFrom-none s unfinished)

-- the tree after the history is permitted, and with one unfinished call also the tree after that call
pub Strict-none : (s : State) (history : List Item) (unfinished : List Unfinished) → Strict s history unfinished (tree (run s history))
Strict-none s history unfinished = StrictFrom-none (run s history) unfinished

pub Strict-one : (s : State) (history : List Item) (c : Unfinished) → Strict s history (c ∷ []) (tree (after_call (run s history) c))
Strict-one s history c = inl refl
