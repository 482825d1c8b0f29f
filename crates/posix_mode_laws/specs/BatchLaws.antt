-- The laws of the three standings until the batch is committed, each as one statement: the state that would be committed, what a
-- change or a call leaves, and what is permitted where the power goes.
use Rattle.std.specs.Prelude.{◌≡◌, ℕ, false, List, [], ◌∷◌, ◌++◌}
use Rattle.world_image_laws.specs.pm_model.Words.{Words}
use Rattle.world_image_laws.specs.layout_model.declared.lines.Draft.{Draft}
use Rattle.world_image_laws.specs.image_model.Volume.{Volume}
use Rattle.world_image_laws.specs.posix_types.declared.item.Item.{Item}
use Rattle.world_image_laws.specs.posix_types.declared.tree.TreeEntry.{TreeEntry}
use Rattle.world_image_laws.specs.posix_spec.Run.{after_call, Unfinished, begun, run}
use Rattle.world_image_laws.specs.posix_spec.State.{Fits, State}
use Rattle.world_image_laws.specs.posix_spec.Tree.{tree}
use Rattle.world_image_laws.specs.posix_laws.Cuts.{cut_of}
use Rattle.world_image_laws.specs.posix_laws.Publishes.{IsPublishing, PathsLeadToNodes}
use Rattle.world_image_laws.specs.crash_spec.Posix.{ByteRule, IsLeft, LastBeforeCut, StrongPosix, syncs}
use Rattle.world_image_laws.specs.world_model.Stands.{Stands}
use Rattle.posix_mode_laws.specs.Batch.{AddsQuietly, IsBatch, KeepsShown, ShowsTree, WritesPublished}
use Rattle.posix_mode_laws.specs.Sides.{AreLengths, BatchStands, LosesInPlace, PosixWorld, Same, Sides, sized}

-- ---- the state that would be committed

-- It is one of the states that may be left, and the only one that is cut to published lengths with no byte changed: what stands
-- asks for no published length and no table.
abbrev pub CutIsLeft : Type 0
CutIsLeft = (s : State) → IsLeft Same s (cut_of s)

abbrev pub CutIsOne : Type 0
CutIsOne =
    (w : Sides) (f : Words) (s : State)
    → (BatchStands w f s → Stands w.batch [] f w.numbers (cut_of s)) × (Stands w.batch [] f w.numbers (cut_of s) → BatchStands w f s)

-- What is left of a state that leaves the reserve leaves it, whatever the bytes are.
abbrev pub AnyByte : ByteRule
AnyByte n i v x = Unit {0}

abbrev pub FitsLeft : Type 0
FitsLeft = (s m : State) → IsLeft AnyByte s m → m.shape ≡ s.shape → Fits s → Fits m

-- Where a volume stands for a state, each path of the state leads to a node that is there.
abbrev pub PathsLead : Type 0
PathsLead = (v : Volume) (live : List Draft) (f : Words) (numbers : List ℕ) (s : State) → Stands v live f numbers s → PathsLeadToNodes s

-- ---- steps

-- THE BATCH BECOMES THE MEDIUM: all of the history is kept, whatever ended it.
abbrev pub CommitsBatch : Type 0
CommitsBatch =
    (x : Sides) (f : Words) (start : State) (history : List Item) → BatchStands x f (run start history)
    → Stands (sized x.lengths x.batch) x.staged f x.numbers (run start history) → AreLengths x (run start history)
    → PosixWorld LastBeforeCut (record x { committed = x.batch; committed_numbers = x.numbers }) f start history []

-- A CHANGE OR A CALL THAT WRITES NOTHING THAT THE MEDIUM SHOWS: names, lengths, staged blocks, relinks, holes, a cleaned tail; reads
-- and refusals too.
abbrev pub StepsBatch : Type 0
StepsBatch =
    (w x : Sides) (f h : Words) (start : State) (front later more : List Item) → (world : PosixWorld LastBeforeCut w f start front later)
    → IsPublishing (run start (front ++ later)) → x.committed ≡ w.committed → x.committed_numbers ≡ w.committed_numbers → KeepsShown w.committed f h
    → AddsQuietly start front later world.medium.state more → IsBatch x h start front (later ++ more) → PosixWorld LastBeforeCut x h start front (later ++ more)

-- A WRITE THAT RETURNED, below the published length too.
abbrev pub StepsWritten : Type 0
StepsWritten =
    (w x : Sides) (f h : Words) (start : State) (front later : List Item) (item : Item) (ino first last : ℕ) → PosixWorld LastBeforeCut w f start front later
    → IsPublishing (run start (front ++ later)) → x.committed ≡ w.committed → x.committed_numbers ≡ w.committed_numbers → syncs item ≡ false
    → WritesPublished w f h (run start (front ++ later)) (begun item) ino first last → IsBatch x h start front (later ++ item ∷ [])
    → PosixWorld LastBeforeCut x h start front (later ++ item ∷ [])

-- ---- the promise where the power goes

-- NOTHING THAT THE MEDIUM SHOWS DIFFERS: the front is kept, with the rule alone, whatever is unfinished.
abbrev pub PermitsShown : Type 0
PermitsShown =
    (w : Sides) (f g : Words) (start : State) (front later : List Item) (unfinished : List Unfinished) (left : List TreeEntry)
    → PosixWorld LastBeforeCut w f start front later → KeepsShown w.committed f g → ShowsTree w.committed g left → StrongPosix start (front ++ later) unfinished left

-- CUT OFF IN PLACE, in a file of the medium: each byte is old, or one that the call puts.
abbrev pub PermitsLost : Type 0
PermitsLost =
    (w : Sides) (f g : Words) (start : State) (front later : List Item) (c : Unfinished) (ino first last : ℕ) (left : List TreeEntry)
    → PosixWorld LastBeforeCut w f start front later
    → LosesInPlace w.committed [] w.committed_numbers f g (run start (front ++ later)) c ino first last → ShowsTree w.committed g left
    → StrongPosix start (front ++ later) (c ∷ []) left

-- THE CALL ACTED and did not return: the batch with it was committed.
abbrev pub PermitsActed : Type 0
PermitsActed =
    (v : Volume) (g : Words) (numbers : List ℕ) (start : State) (history : List Item) (c : Unfinished) (left : List TreeEntry)
    → Stands v [] g numbers (cut_of (after_call (run start history) c)) → ShowsTree v g left → StrongPosix start history (c ∷ []) left

-- ALL LENGTHS ARE PUBLISHED, by an unmount: the tree is that of the history.
abbrev pub PermitsUnmounted : Type 0
PermitsUnmounted =
    (v : Volume) (g : Words) (numbers : List ℕ) (start : State) (history : List Item) (left : List TreeEntry)
    → Stands v [] g numbers (run start history) → ShowsTree v g left → (left ≡ tree (run start history)) × StrongPosix start history [] left
