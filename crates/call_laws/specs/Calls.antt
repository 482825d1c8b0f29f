-- A World at its next call.
use Rattle.std.specs.Prelude.{◌≡◌, ℕ, Bool, true, [], length, Some}
use Rattle.world_view_laws.specs.eof_laws.crash_spec.Busy.{waits_for}
use Rattle.world_view_laws.specs.eof_laws.layout_model.Places.{Geometry}
use Rattle.world_view_laws.specs.eof_laws.file_table.Files.{Files, runs_in}
use Rattle.world_view_laws.specs.eof_laws.k_split_model.View.{View}
use Rattle.world_view_laws.specs.eof_laws.posix_types.declared.call.Call.{Call}
use Rattle.world_view_laws.specs.eof_laws.posix_types.declared.call.Who.{Who}
use Rattle.world_view_laws.specs.eof_laws.posix_tables.Open.{Tables}
use Rattle.world_view_laws.specs.eof_laws.posix_spec.Scripted.{IsSetUp}
use Rattle.world_view_laws.specs.eof_laws.posix_spec.State.{State}
use Rattle.world_view_laws.specs.in_flight.staging_files.Keeps.{Staged}
use Rattle.world_view_laws.specs.in_flight.world_model.Stands.{IsUsed, number}
use Rattle.world_view_laws.specs.in_flight.live_model.Standing.{Kept, StandsAt}
use Rattle.world_view_laws.specs.Begins.{Begins}
use Rattle.world_view_laws.specs.Views.{HasNone, IsWorldOver, kept_of, state_of, WorldView}

-- A WORLD AT ITS NEXT CALL: the log's lines are out; the call is the caller's next one, the round is not over, and no job keeps it
-- waiting; the caller may begin, and has no job out.
pub record AtCall (k : View) (t : Tables) (staging : Staged) (files : Files) (w : WorldView) (who : Who) (call : Call) : Type 0 where
  pub world : IsWorldOver k t staging files w
  pub out : w.lines_out ≡ true
  pub begins : Begins w who call
  pub up : IsSetUp w.scripts w.history who
  pub none : HasNone w who

-- NOTHING IS STAGED of the file that the call waits for,
abbrev pub IsBare : (g : Geometry) (k : View) (t : Tables) (kept : Kept) (lines : Bool) (n : ℕ) (s : State) → StandsAt g k t kept lines n s → Who → Call → Type 0
IsBare g k t kept lines n s stands who call = (ino : ℕ) → waits_for s (who, call) ≡ Some (number stands.numbers ino) → IsUsed k.volume ino → runs_in kept.files ino ≡ []

-- by some way in which the World stands together.
pub record HasBareFile (k : View) (t : Tables) (staging : Staged) (files : Files) (w : WorldView) (who : Who) (call : Call) : Type 0 where
  pub stands : StandsAt w.geometry k t (kept_of w staging files) true (length w.history) (state_of w)
  pub bare : IsBare w.geometry k t (kept_of w staging files) true (length w.history) (state_of w) stands who call
