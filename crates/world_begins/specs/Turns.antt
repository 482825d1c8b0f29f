-- How a call of the parts of a World begins, as its private functions say it.
use Rattle.std.specs.Prelude.{◌≡◌, ◌≢◌, ◌⊎◌, ℕ, Bool, true, false, List, [], sum_by, Option, Some, None, Result, Ok, Err}
use Rattle.world_parts.specs.file_table.Files.{Files, runs_in}
use Rattle.posix_types.specs.declared.call.Call.{Call}
use Rattle.posix_types.specs.declared.call.Mode.{Mode}
use Rattle.posix_types.specs.declared.call.Who.{Who}
use Rattle.world_parts.specs.pm_model.Powers.{is_on, Supply}
use Rattle.world_parts.specs.posix_tables.Open.{Tables}
use Rattle.call_laws.specs.Calls.{AtCall}
use Rattle.world_parts.specs.in_flight.Busy.{WaitsForFile}
use Rattle.call_laws.specs.file_truncate.Truncates.{HasNothingStaged}
use Rattle.world_parts.specs.in_flight.Counters.{AreCounts}
use Rattle.world_parts.specs.in_flight.live_model.Standing.{JobOut}
use Rattle.call_laws.specs.write_begin.Needs.{need_by}
use Rattle.world_parts.specs.world_view_laws.Begins.{LosesCall, OthersStay, Publishes, WantsMemory}
use Rattle.world_parts.specs.world_view_laws.file_calls.Built.{CutsNothing}
use Rattle.world_parts.specs.world_view_laws.file_calls.declared.names.outcomes.NoMemory.{NoMemory}
use Rattle.world_parts.specs.Seen.{HasRoomForOne, IsKept, seen}
use Rattle.world_parts.specs.declared.parts.Parts.{Parts}

-- how many blocks the jobs that are out need together
abbrev pub needs_by : Mode → Tables → Files → List JobOut → ℕ
needs_by mode t files pending = sum_by (λ (p : JobOut). need_by mode t files p.who p.call) pending

-- ---- what is published before a call

-- whether what is staged of the file of a call has to be published before it: of an `fsync`, of a `truncate`, of an `open` that cuts
abbrev pub publishes_by : Call → Bool
publishes_by (Call.Fsync h) = true
publishes_by (Call.Truncate h size) = true
publishes_by (Call.Open h path flags) = flags.truncate
publishes_by call = false

-- THE CALL MAY BEGIN: nothing keeps it waiting, all is kept, and there is room for one job more.
pub record IsTurn (p : Parts) (who : Who) (call : Call) : Type 0 where
  pub calls : AtCall p.k p.tables.tables p.staging p.files (seen p) who call
  pub counts : AreCounts p.counters.setup p.counters.threads p.history.items
  pub empty : p.spare.items ≡ []
  pub room : HasRoomForOne p
  pub usable : p.usable ≡ true

-- nothing is staged of the file that a `truncate` gives a size
abbrev pub IsBareFor : Who → Call → Parts → Type 0
IsBareFor who (Call.Truncate h size) p = HasNothingStaged who h p.tables.tables p.files
IsBareFor who call p = Unit {0}

-- WHAT IS STAGED OF ITS FILE IS PUBLISHED, where the call wants that: the World is at the call still, and what it cuts, gives a size or
-- publishes has nothing staged. The open files and what the staging keeps are as before.
pub record IsPublished (who : Who) (call : Call) (old new : Parts) (after : Supply) : Type 0 where
  pub turn : IsTurn new who call
  pub tables : new.tables.tables ≡ old.tables.tables
  pub staging : new.staging ≡ old.staging
  pub view_is : seen new ≡ record (seen old) { disk = (seen new).disk }
  pub stay : OthersStay (seen old) (seen new) who
  pub cuts : CutsNothing call new.k new.files
  pub bare : IsBareFor who call new
  pub published : Publishes who call (seen old) (seen new)
  pub on : is_on after ≡ true

abbrev pub IsPublishedFirst : Who → Call → Parts → Parts → Supply → Result (Option Call) NoMemory → Type 0
IsPublishedFirst who call old new after (Ok (Some same)) = (same ≡ call) × IsPublished who call old new after
IsPublishedFirst who call old new after (Ok None) = IsKept new × LosesCall who (seen old) (seen new) after
IsPublishedFirst who call old new after (Err e) = WantsMemory (seen old) (seen new) after

-- nothing is staged of it
abbrev pub IsBareLine : Option ℕ → Files → Type 0
IsBareLine None files = Unit {0}
IsBareLine (Some ino) files = runs_in files ino ≡ []

-- The file of which something is to be published before the call: it waits for that file, of which something is staged. Or there is none.
abbrev pub IsToPublish : Who → Call → Parts → Option ℕ → Type 0
IsToPublish who call p None = (publishes_by call ≡ false) ⊎ ((found : Option ℕ) × WaitsForFile who call p.k p.tables.tables found × IsBareLine found p.files)
IsToPublish who call p (Some ino) = (publishes_by call ≡ true) × WaitsForFile who call p.k p.tables.tables (Some ino) × (runs_in p.files ino ≢ [])
