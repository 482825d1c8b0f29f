-- The chief laws of what may be left, each as one statement.
use Rattle.std.specs.Prelude.{◌≡◌, ℕ, ◌≤◌, true, false, List, [], ◌∷◌, ◌++◌, length, map}
use Rattle.posix_laws.specs.posix_types.declared.call.Call.{Call}
use Rattle.posix_laws.specs.posix_types.declared.call.Mode.{Mode}
use Rattle.posix_laws.specs.posix_types.declared.call.Who.{Who}
use Rattle.posix_laws.specs.posix_types.declared.item.Item.{Item}
use Rattle.posix_laws.specs.posix_types.declared.tree.TreeEntry.{TreeEntry}
use Rattle.posix_laws.specs.posix_types.Scripts.{Scripts}
use Rattle.posix_laws.specs.posix_tables.declared.nodes.Node.{Node}
use Rattle.posix_laws.specs.posix_tables.Nodes.{node_at}
use Rattle.posix_laws.specs.posix_spec.Run.{after_call, Unfinished, IsAnswered, IsLegal, run}
use Rattle.posix_laws.specs.posix_spec.Scripted.{Scripted}
use Rattle.posix_laws.specs.posix_spec.State.{State}
use Rattle.posix_laws.specs.posix_spec.Tree.{tree}
use Rattle.posix_laws.specs.posix_spec.Unfinished.{AreUnfinished}
use Rattle.crash_spec.specs.Busy.{is_busy}
use Rattle.crash_spec.specs.Machine.{Begins, Checkpoint, Goes, Machine, outs, Setting, state_of}
use Rattle.crash_spec.specs.Orders.{Order}
use Rattle.crash_spec.specs.Permitted.{Permitted, StronglyPermitted}
use Rattle.crash_spec.specs.Posix.{Posix, syncs}
use Rattle.crash_spec.specs.Schedules.{Course, Reaches, Scheduled}
use Rattle.crash_spec.specs.Strict.{Strict}
use Rattle.crash_spec.specs.Sync.{IsPartOf, Sync}

-- the tree of the history is permitted in each mode, whatever is unfinished, by the stronger rule for bytes too
abbrev pub HistoryIsPermitted : Type 0
HistoryIsPermitted = (mode : Mode) (s : State) (history : List Item) (unfinished : List Unfinished) → StronglyPermitted mode s history unfinished (tree (run s history))

-- in strict and in sync mode, the tree after the one unfinished call, too
abbrev pub OneMoreIsStrict : Type 0
OneMoreIsStrict = (s : State) (history : List Item) (c : Unfinished) → Strict s history (c ∷ []) (tree (after_call (run s history) c))

abbrev pub OneMoreIsSync : Type 0
OneMoreIsSync = (s : State) (history : List Item) (c : Unfinished) → Sync s history (c ∷ []) (tree (after_call (run s history) c))

-- where no call is unfinished, strict and sync mode leave one tree
abbrev pub StrictIsOneTree : Type 0
StrictIsOneTree = (s : State) (history : List Item) (left : List TreeEntry) → Strict s history [] left → left ≡ tree (run s history)

abbrev pub SyncIsOneTree : Type 0
SyncIsOneTree = (s : State) (history : List Item) (left : List TreeEntry) → Sync s history [] left → left ≡ tree (run s history)

-- what strict mode permits, sync mode permits
abbrev pub StrictIsSync : Type 0
StrictIsSync = (s : State) (history : List Item) (unfinished : List Unfinished) (left : List TreeEntry) → Strict s history unfinished left → Sync s history unfinished left

-- a write that is done in part may be there whole; one that does not lengthen the file may not be there at all
abbrev pub WholeIsPart : Type 0
WholeIsPart = (old whole : List ℕ) → IsPartOf old whole whole

abbrev pub NoneIsPart : Type 0
NoneIsPart = (old whole : List ℕ) → length whole ≡ length old → IsPartOf old whole old

-- by the stronger rule for bytes no more is permitted
abbrev pub StrongIsPermitted : Type 0
StrongIsPermitted =
    (mode : Mode) (s : State) (history : List Item) (unfinished : List Unfinished) (left : List TreeEntry) → StronglyPermitted mode s history unfinished left → Permitted mode s history unfinished left

-- a file is published whole
abbrev pub IsPublished : Node → Type 0
IsPublished Node.Gone = Unit {0}
IsPublished Node.Directory = Unit {0}
IsPublished (Node.File file) = length file.bytes ≤ file.published

-- each file of a state is
abbrev pub AllPublished : State → Type 0
AllPublished s = (n : ℕ) → IsPublished (node_at s.nodes n)

-- in POSIX mode, a history that ends with an `fsync`, after which every file is published whole, leaves one tree where no
-- call is unfinished
abbrev pub SyncedIsOneTree : Type 0
SyncedIsOneTree =
    (s : State) (front : List Item) (item : Item) (left : List TreeEntry) → syncs item ≡ true → AllPublished (run s (front ++ item ∷ []))
    → Posix s (front ++ item ∷ []) [] left → left ≡ tree (run s (front ++ item ∷ []))

-- a legal history stays legal with one more item that is answered
abbrev pub StaysLegal : Type 0
StaysLegal = (s : State) (history : List Item) (item : Item) → IsLegal s history → IsAnswered (run s history) item → IsLegal s (history ++ item ∷ [])

-- the history is legal and follows the scripts, and the unfinished calls are the next of their callers, one each
pub record Follows (g : Setting) (history : List Item) (unfinished : List Unfinished) : Type 0 where
  pub scripted : Scripted g.scripts history
  pub legal : IsLegal g.start history
  pub open_calls : AreUnfinished g.scripts history unfinished

-- every schedule leaves a legal history that follows the scripts, and unfinished calls that are the next of their callers,
-- one each
abbrev pub SchedulesFollow : Type 0
SchedulesFollow = (g : Setting) (order : Order) (events : ℕ) (history : List Item) (unfinished : List Unfinished) → Scheduled g order events history unfinished → Follows g history unfinished

-- one thread, without a set-up
abbrev pub one_script : List Call → Scripts
one_script calls = record { setup = []; threads = calls ∷ [] }

abbrev pub on_one_thread : State → List Call → ℕ → Setting
on_one_thread start calls lines = record { start = start; scripts = one_script calls; lines = lines }

-- a schedule of one thread that runs to its end gives the calls of its script, in their order
abbrev pub OneThreadInOrder : Type 0
OneThreadInOrder =
    (start : State) (calls : List Call) (lines : ℕ) (order : Order) (events : ℕ) (history : List Item) (unfinished : List Unfinished)
    → Scheduled (on_one_thread start calls lines) order events history unfinished → length history ≡ length calls → map (λ (item : Item). item.call) history ≡ calls

-- a lap never has more claims than the log has lines
abbrev pub ClaimsFit : Type 0
ClaimsFit = (g : Setting) (order : Order) (events : ℕ) (c : Course) → Reaches g order events c → c.machine.claims ≤ g.lines

-- a call that waits for another's does not begin
abbrev pub BusyCallsWait : Type 0
BusyCallsWait = (g : Setting) (m : Machine) (who : Who) (call : Call) → Begins g m who call → is_busy (state_of g m) (outs m) (who, call) ≡ false

-- a Checkpoint comes where the round is over and no call is out
abbrev pub CheckpointsFindNoJob : Type 0
CheckpointsFindNoJob = (g : Setting) (m next : Machine) → Goes g m Checkpoint next → (m.over ≡ true) × (m.jobs ≡ [])
