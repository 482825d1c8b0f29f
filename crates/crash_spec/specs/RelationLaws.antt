-- The tree of the history is permitted in each mode; what strict mode permits, sync mode permits; a write may be there
-- whole.
use Rattle.std.specs.Prelude.{◌≡◌, ℕ, List, [], ◌∷◌, length, refl}
use Rattle.std.proofs.Common.{inl, inr, sym}
use Rattle.posix_laws.specs.posix_types.declared.call.Mode.{Mode}
use Rattle.posix_laws.specs.posix_types.declared.item.Item.{Item}
use Rattle.posix_laws.specs.posix_types.declared.tree.TreeEntry.{TreeEntry}
use Rattle.posix_laws.specs.posix_spec.Run.{after_call, Unfinished, run}
use Rattle.posix_laws.specs.posix_spec.State.{State}
use Rattle.posix_laws.specs.posix_spec.Tree.{tree}
use Rattle.crash_spec.specs.Permitted.{StronglyPermitted}
use Rattle.crash_spec.specs.Strict.{Strict, StrictFrom, Strict-none, Strict-one}
use Rattle.crash_spec.specs.Sync.{IsPartOf, Sync, SyncFrom}

-- what strict mode permits, sync mode permits
SyncFrom-StrictFrom : (s : State) (unfinished : List Unfinished) (left : List TreeEntry) → StrictFrom s unfinished left → SyncFrom s unfinished left
SyncFrom-StrictFrom s [] left h = h
SyncFrom-StrictFrom s (c ∷ unfinished) left h = elim h [
  | inl acts ↦ inl (SyncFrom-StrictFrom (after_call s c) unfinished left acts)
  | inr does_not ↦ inr (inr (SyncFrom-StrictFrom s unfinished left does_not))
]

pub Sync-Strict : (s : State) (history : List Item) (unfinished : List Unfinished) (left : List TreeEntry) → Strict s history unfinished left → Sync s history unfinished left
Sync-Strict s history unfinished left h = SyncFrom-StrictFrom (run s history) unfinished left h

-- the tree of the history is permitted in each mode
pub StronglyPermitted-none : (mode : Mode) (s : State) (history : List Item) (unfinished : List Unfinished) → StronglyPermitted mode s history unfinished (tree (run s history))
StronglyPermitted-none Mode.Strict s history unfinished = Strict-none s history unfinished
StronglyPermitted-none Mode.Sync s history unfinished = Sync-Strict s history unfinished (tree (run s history)) (Strict-none s history unfinished)
StronglyPermitted-none Mode.Posix s history unfinished = inr (inr refl)

-- in strict and sync mode the tree after the one unfinished call, too
pub Sync-one : (s : State) (history : List Item) (c : Unfinished) → Sync s history (c ∷ []) (tree (after_call (run s history) c))
Sync-one s history c = Sync-Strict s history (c ∷ []) (tree (after_call (run s history) c)) (Strict-one s history c)

-- a write that is done in part may be there whole, and within the old length not at all
pub IsPartOf-whole : (old whole : List ℕ) → IsPartOf old whole whole
IsPartOf-whole old whole = record { size = refl; each = λ i below. inl refl }

pub IsPartOf-none : (old whole : List ℕ) → length whole ≡ length old → IsPartOf old whole old
IsPartOf-none old whole same = record { size = sym same; each = λ i below. inr (below, refl) }

-- no unfinished call: one tree
pub Strict-idle : (s : State) (history : List Item) (left : List TreeEntry) → Strict s history [] left → left ≡ tree (run s history)
Strict-idle s history left is = is

pub Sync-idle : (s : State) (history : List Item) (left : List TreeEntry) → Sync s history [] left → left ≡ tree (run s history)
Sync-idle s history left is = is
