-- Some of the unfinished calls, in their order: those that acted.
use Rattle.std.specs.Prelude.{◌≡◌, ◌≢◌, ◌⊎◌, List, [], ◌∷◌}
use Rattle.world_view_laws.specs.posix_types.declared.call.Mode.{Mode}
use Rattle.world_view_laws.specs.posix_types.declared.item.Item.{Item}
use Rattle.world_view_laws.specs.posix_types.declared.tree.TreeEntry.{TreeEntry}
use Rattle.world_view_laws.specs.posix_spec.Run.{Unfinished}
use Rattle.world_view_laws.specs.posix_spec.State.{State}
use Rattle.world_view_laws.specs.crash_spec.Permitted.{Permitted}

-- THESE ARE SOME OF THE CALLS, in their order: each call is left out, or is the next of them.
abbrev pub AreSomeOf : List Unfinished → List Unfinished → Type 0
AreSomeOf acted [] = acted ≡ []
AreSomeOf acted (c ∷ calls) = AreSomeOf acted calls ⊎ ((rest : List Unfinished) × (acted ≡ c ∷ rest) × AreSomeOf rest calls)

-- A TREE THAT IS PERMITTED WITH SOME OF THE CALLS UNFINISHED is permitted with all of them: a call that is unfinished need not have acted.
abbrev pub PermitsAsMuch : Type 0
PermitsAsMuch =
    (mode : Mode) (s : State) (history : List Item) (acted calls : List Unfinished) (left : List TreeEntry) → mode ≢ Mode.Posix
    → AreSomeOf acted calls → Permitted mode s history acted left → Permitted mode s history calls left
