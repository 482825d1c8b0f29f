-- Which file a call waits for, and which job keeps it waiting.
use Rattle.std.specs.Prelude.{◌≡◌, ◌≢◌, ℕ, true, false, List, map, Option, Some, None, Result, Ok, Err, unwrap_or}
use Rattle.live_model.specs.layout_model.Places.{Geometry}
use Rattle.live_model.specs.k_split_model.View.{View}
use Rattle.live_model.specs.commute_laws.list_laws.Members.{In}
use Rattle.posix_types.specs.declared.call.Call.{Call}
use Rattle.posix_types.specs.declared.call.Who.{Who}
use Rattle.posix_types.specs.declared.reply.Errno.{Errno}
use Rattle.live_model.specs.commute_laws.posix_tables.Open.{Tables}
use Rattle.live_model.specs.commute_laws.posix_spec.State.{State}
use Rattle.live_model.specs.commute_laws.crash_spec.Busy.{is_busy, Out, waits_for}
use Rattle.live_model.specs.world_model.Stands.{IsUsed, number}
use Rattle.live_model.specs.Standing.{Kept, JobOut, StandsAt}

-- the files of the jobs that are out, with their callers, as calls wait for them
abbrev pub file_out : State → JobOut → Out
file_out s p = (p.who, unwrap_or (waits_for s (p.who, p.call)) 0)

abbrev pub files_by : State → List JobOut → List Out
files_by s pending = map (file_out s) pending

-- the inode that a path was found at
abbrev pub found_ino : Result ℕ Errno → Option ℕ
found_ino (Ok ino) = Some ino
found_ino (Err errno) = None

-- the node of this inode, which is in use; or none
abbrev pub IsNodeOf : List ℕ → View → Option ℕ → Option ℕ → Type 0
IsNodeOf numbers k None node = node ≡ None
IsNodeOf numbers k (Some ino) node = (node ≡ Some (number numbers ino)) × IsUsed k.volume ino

-- In whatever state they stand together, the call waits for the node of this inode, or for none.
abbrev pub WaitsForFile : Who → Call → View → Tables → Option ℕ → Type 0
WaitsForFile who call k t found =
    (g : Geometry) (kept : Kept) (n : ℕ) (s : State) → (stands : StandsAt g k t kept true n s) → IsNodeOf stands.numbers k found (waits_for s (who, call))

-- a job of another caller is out of the file, and this is its caller; or none is
abbrev pub HoldsFile : List JobOut → ℕ → Who → Option Who → Type 0
HoldsFile pending ino who None = (p : JobOut) → In p pending → p.draft.ino ≡ ino → p.who ≡ who
HoldsFile pending ino who (Some holder) = (p : JobOut) × In p pending × (p.draft.ino ≡ ino) × (p.who ≡ holder) × (p.who ≢ who)

-- A JOB OF THIS CALLER, which is out of the file with this inode, KEEPS THE CALL WAITING.
pub record IsKeeping (s : State) (pending : List JobOut) (who : Who) (call : Call) (ino : ℕ) (holder : Who) : Type 0 where
  pub job : JobOut
  pub out : In job pending
  pub holder_is : job.who ≡ holder
  pub other : holder ≢ who
  pub file : job.draft.ino ≡ ino
  pub waits : waits_for s (who, call) ≡ waits_for s (job.who, job.call)
  pub busy : is_busy s (files_by s pending) (who, call) ≡ true

-- whether one does, in whatever state they stand together
abbrev pub IsKept : Who → Call → View → Tables → List JobOut → Option (ℕ × Who) → Type 0
IsKept who call k t pending None =
    (g : Geometry) (kept : Kept) (n : ℕ) (s : State) → StandsAt g k t kept true n s → kept.pending ≡ pending → is_busy s (files_by s pending) (who, call) ≡ false
IsKept who call k t pending (Some found) =
    (g : Geometry) (kept : Kept) (n : ℕ) (s : State) → StandsAt g k t kept true n s → kept.pending ≡ pending → IsKeeping s pending who call found.0 found.1
