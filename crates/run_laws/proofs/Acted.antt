-- Some of the unfinished calls, and what they permit.
use Rattle.std.specs.Prelude.{List, [], ◌∷◌, refl}
use Rattle.std.proofs.Common.{subst, inl, inr}
use Rattle.world_view_laws.specs.posix_types.declared.call.Mode.{Mode}
use Rattle.world_view_laws.specs.posix_types.declared.tree.TreeEntry.{TreeEntry}
use Rattle.world_view_laws.specs.posix_spec.Run.{after_call, run, Unfinished}
use Rattle.world_view_laws.specs.posix_spec.State.{State}
use Rattle.world_view_laws.specs.crash_spec.Strict.{StrictFrom}
use Rattle.world_view_laws.specs.crash_spec.Sync.{SyncFrom}
use Rattle.run_laws.specs.Acted.{AreSomeOf, PermitsAsMuch}

-- all of them are some
pub all_of : (calls : List Unfinished) → AreSomeOf calls calls
all_of [] = refl
all_of (c ∷ calls) = inr (calls, refl, all_of calls)

strict_more : (s : State) (acted calls : List Unfinished) (left : List TreeEntry) → AreSomeOf acted calls → StrictFrom s acted left → StrictFrom s calls left
strict_more s acted [] left some is = subst (λ (cs : List Unfinished). StrictFrom s cs left) some is
strict_more s acted (c ∷ calls) left (inl out) is = inr (strict_more s acted calls left out is)
strict_more s acted (c ∷ calls) left (inr one) is = by (λ t. strict_more t one.0 calls left one.2) (subst (λ (cs : List Unfinished). StrictFrom s cs left) one.1 is) where
  by : ((t : State) → StrictFrom t one.0 left → StrictFrom t calls left) → StrictFrom s (c ∷ one.0) left → StrictFrom s (c ∷ calls) left
  by rest (inl acts) = inl (rest (after_call s c) acts)
  by rest (inr idle) = inr (rest s idle)

sync_more : (s : State) (acted calls : List Unfinished) (left : List TreeEntry) → AreSomeOf acted calls → SyncFrom s acted left → SyncFrom s calls left
sync_more s acted [] left some is = subst (λ (cs : List Unfinished). SyncFrom s cs left) some is
sync_more s acted (c ∷ calls) left (inl out) is = inr (inr (sync_more s acted calls left out is))
sync_more s acted (c ∷ calls) left (inr one) is = by (λ t. sync_more t one.0 calls left one.2) (subst (λ (cs : List Unfinished). SyncFrom s cs left) one.1 is) where
  by : ((t : State) → SyncFrom t one.0 left → SyncFrom t calls left) → SyncFrom s (c ∷ one.0) left → SyncFrom s (c ∷ calls) left
  by rest (inl whole) = inl (rest (after_call s c) whole)
  by rest (inr (inl part)) = inr (inl (part.0, part.1, rest part.0 part.2))
  by rest (inr (inr idle)) = inr (inr (rest s idle))

pub permits_as_much : PermitsAsMuch
permits_as_much Mode.Strict s history acted calls left other some is = strict_more (run s history) acted calls left some is
permits_as_much Mode.Sync s history acted calls left other some is = sync_more (run s history) acted calls left some is
permits_as_much Mode.Posix s history acted calls left other some is = absurd (other refl)
