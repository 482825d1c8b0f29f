-- The two ways in which POSIX mode keeps a part of what was done, each as one walk over the calls.
use Rattle.std.specs.Prelude.{◌≡◌, ◌⊎◌, false, List, [], ◌∷◌, ◌++◌, map}
use Rattle.std.specs.List.{list_any}
use Rattle.posix_laws.specs.posix_types.declared.item.Item.{Item}
use Rattle.posix_laws.specs.posix_types.declared.tree.TreeEntry.{TreeEntry}
use Rattle.posix_laws.specs.posix_spec.Run.{after_call, Unfinished, begun, run}
use Rattle.posix_laws.specs.posix_spec.State.{State}
use Rattle.posix_laws.specs.posix_spec.Step.{step}
use Rattle.crash_spec.specs.Posix.{OrUnfinished, Overwritten, syncs, TreeLeft}

-- what was done up to a state is kept, and none of the later items is an `fsync` that returned ok
abbrev pub KeptHere : State → List Item → List Unfinished → List TreeEntry → Type 0
KeptHere s later unfinished left = (list_any syncs later ≡ false) × TreeLeft (OrUnfinished (Overwritten s (map begun later)) (run s later) unfinished) s left

-- it is kept up to this state, or to a later one
abbrev pub KeptFrom : State → List Item → List Unfinished → List TreeEntry → Type 0
KeptFrom s [] unfinished left = KeptHere s [] unfinished left
KeptFrom s (item ∷ later) unfinished left = KeptHere s (item ∷ later) unfinished left ⊎ KeptFrom (step s item.who item.call).state later unfinished left

-- All of a history is kept, which led to a state; of the unfinished calls some act, and the values of the others may be
-- there, which run after the history.
abbrev pub ActsOrNot : State → State → List Unfinished → List Unfinished → List TreeEntry → Type 0
ActsOrNot history acting idle [] left = TreeLeft (OrUnfinished (Overwritten acting []) history idle) acting left
ActsOrNot history acting idle (c ∷ unfinished) left =
    ActsOrNot history (after_call acting c) idle unfinished left ⊎ ActsOrNot history acting (idle ++ c ∷ []) unfinished left
