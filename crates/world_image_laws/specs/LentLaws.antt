-- What the World promises while lines and blocks are out, each promise as one statement.
use Rattle.std.specs.Prelude.{◌≡◌, ◌≢◌, ◌≤◌, ◌+◌, ℕ, List, [], ◌∷◌, ◌++◌, Option}
use Rattle.image_laws.specs.pm_model.declared.Cell.{Cell}
use Rattle.image_laws.specs.pm_model.Words.{Words}
use Rattle.image_laws.specs.layout_model.declared.lines.Draft.{Draft}
use Rattle.image_laws.specs.image_model.Volume.{Volume}
use Rattle.world_step_laws.specs.commute_laws.posix_types.declared.call.Mode.{Mode}
use Rattle.world_step_laws.specs.commute_laws.posix_types.declared.item.Item.{Item}
use Rattle.world_step_laws.specs.commute_laws.posix_types.declared.tree.TreeEntry.{TreeEntry}
use Rattle.world_step_laws.specs.commute_laws.posix_spec.Run.{after_call, Unfinished, run}
use Rattle.world_step_laws.specs.commute_laws.posix_spec.State.{room, State}
use Rattle.world_step_laws.specs.commute_laws.crash_spec.Strict.{StrictFrom}
use Rattle.world_step_laws.specs.commute_laws.crash_spec.Sync.{SyncFrom}
use Rattle.world_step_laws.specs.commute_laws.Needs.{needs}
use Rattle.world_step_laws.specs.commute_laws.Commutes.{takes}
use Rattle.world_step_laws.specs.commute_laws.Orders.{AreTwoEach}
use Rattle.world_step_laws.specs.world_model.Jobs.{Job, staged_block}
use Rattle.world_step_laws.specs.world_model.Promised.{AreWhole}
use Rattle.world_step_laws.specs.Steps.{flights_of, LetsJobsBe}
use Rattle.world_step_laws.specs.Worlds.{IsWorld}
use Rattle.world_image_laws.specs.Images.{HasRoom, IsChange, StandsFor}
use Rattle.world_image_laws.specs.ImagesLaws.{Takes}
use Rattle.world_image_laws.specs.Back.{calls_in_log, IsKeptBack}

-- in strict mode all bytes of each job are found
abbrev pub AreFound : State → List Job → Type 0
AreFound start jobs = start.mode ≡ Mode.Strict → AreWhole jobs

-- THE PROMISE while writes are in flight, in strict and in sync mode.
abbrev pub KeepsPromiseInFlight : Type 0
KeepsPromiseInFlight =
    (v : Volume) (d : List Cell) (claims : List (ℕ × Draft)) (jobs : List Job) (numbers : List ℕ) (start : State) (history : List Item) (count : ℕ) (first : Words)
    → start.mode ≢ Mode.Posix → AreFound start jobs → StandsFor v d claims jobs numbers (run start history) count → IsKeptBack v d first claims jobs start history []

-- So it is with one more call, which lost its power before it changed anything.
abbrev pub KeepsPromiseAtBegin : Type 0
KeepsPromiseAtBegin =
    (v : Volume) (d : List Cell) (claims : List (ℕ × Draft)) (jobs : List Job) (numbers : List ℕ) (start : State) (history : List Item) (count : ℕ) (first : Words) (c : Unfinished)
    → start.mode ≢ Mode.Posix → AreFound start jobs → StandsFor v d claims jobs numbers (run start history) count → IsKeptBack v d first claims jobs start history (c ∷ [])

-- Each job is of another caller and another file than the others; the call lets them be, and finds room beside them.
pub record GoesBeside (s : State) (c : Unfinished) (numbers : List ℕ) (jobs : List Job) : Type 0 where
  pub two : AreTwoEach (flights_of numbers jobs)
  pub lets : LetsJobsBe s c numbers jobs
  pub fits : takes s c + needs s (flights_of numbers jobs) ≤ room s

-- the blocks of the jobs are the same in both volumes
abbrev pub SameBlocks : Volume → Volume → List Job → Type 0
SameBlocks v w [] = Unit {0}
SameBlocks v w (j ∷ jobs) = ((k : ℕ) → staged_block w j.draft k ≡ staged_block v j.draft k) × SameBlocks v w jobs

-- which trees unfinished calls may leave from this state, in strict and in sync mode; POSIX mode has rules of its own
abbrev pub UnfinishedFrom : Mode → State → List Unfinished → List TreeEntry → Type 0
UnfinishedFrom Mode.Strict s unfinished left = StrictFrom s unfinished left
UnfinishedFrom Mode.Sync s unfinished left = SyncFrom s unfinished left
UnfinishedFrom Mode.Posix s unfinished left = Unit {0}

-- Whatever trees those of the jobs leave from this state whose entry may stand in the log, they are trees of the history's state,
-- with the call as the last of the unfinished ones.
abbrev pub LeadsTo : State → List Item → Unfinished → List Job → State → Type 0
LeadsTo start history c jobs s =
    (slots : List (Option ℕ)) (left : List TreeEntry) → UnfinishedFrom start.mode s (calls_in_log slots jobs) left
    → UnfinishedFrom start.mode (run start history) (calls_in_log slots jobs ++ c ∷ []) left

-- So it is of the state before the call, and of that after it, where it goes beside the jobs.
abbrev pub LeadsBefore : Type 0
LeadsBefore = (start : State) (history : List Item) (c : Unfinished) (jobs : List Job) → LeadsTo start history c jobs (run start history)

abbrev pub LeadsAfter : Type 0
LeadsAfter =
    (v : Volume) (claims : List (ℕ × Draft)) (jobs : List Job) (f : Words) (numbers : List ℕ) (start : State) (history : List Item) (count : ℕ) (c : Unfinished)
    → IsWorld v claims jobs f numbers (run start history) count → GoesBeside (run start history) c numbers jobs → LeadsTo start history c jobs (after_call (run start history) c)

-- And so it is within a change of a call of another caller, the first or a later one: whether the change is on
-- the medium or not, the call may stand as the last of the unfinished ones.
abbrev pub KeepsPromiseBeside : Type 0
KeepsPromiseBeside =
    (v w : Volume) (d e : List Cell) (claims : List (ℕ × Draft)) (jobs : List Job) (numbers after : List ℕ) (s new : State) (start : State) (history : List Item) (count later : ℕ) (first : Words) (c : Unfinished)
    → start.mode ≢ Mode.Posix → AreFound start jobs → StandsFor v d claims jobs numbers s count → LeadsTo start history c jobs s → LeadsTo start history c jobs new
    → IsChange v w d e → SameBlocks v w jobs → HasRoom w claims jobs new → Takes v w claims jobs numbers after s new count later
    → IsKeptBack v e first claims jobs start history (c ∷ [])

-- Between two changes of a call it is so too, where the trees that the jobs may leave are trees of the history's state.
abbrev pub KeepsPromiseBetween : Type 0
KeepsPromiseBetween =
    (v : Volume) (d : List Cell) (claims : List (ℕ × Draft)) (jobs : List Job) (numbers : List ℕ) (s start : State) (history : List Item) (count : ℕ) (first : Words) (c : Unfinished)
    → start.mode ≢ Mode.Posix → AreFound start jobs → StandsFor v d claims jobs numbers s count → LeadsTo start history c jobs s
    → IsKeptBack v d first claims jobs start history (c ∷ [])
