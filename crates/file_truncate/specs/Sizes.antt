-- A file gets another size, each law as one statement.
use Rattle.std.specs.Prelude.{◌≡◌, ◌≤◌, ◌<◌, ◌+◌, ◌/◌, ℕ, Bool, List, [], ◌∷◌, length, None, Some, Ok}
use Rattle.file_calls.specs.live_step_laws.pm_model.Images.{IsImage}
use Rattle.file_calls.specs.live_step_laws.pm_model.Words.{Words}
use Rattle.file_calls.specs.live_step_laws.layout_model.declared.lines.Kind.TheVariants.{File}
use Rattle.file_calls.specs.live_step_laws.layout_model.Journal.{journaled}
use Rattle.file_calls.specs.live_step_laws.layout_model.Places.{Geometry}
use Rattle.file_calls.specs.eof_laws.image_model.Content.{byte_in}
use Rattle.file_calls.specs.eof_laws.image_model.Volume.{extents, inode, Volume}
use Rattle.file_calls.specs.live_step_laws.extent_model.Extents.{disk_at}
use Rattle.file_calls.specs.eof_laws.Ends.{FilesEnd}
use Rattle.file_calls.specs.eof_laws.file_table.Files.{ChangesFile, Files, runs_in, size_in, spare_in}
use Rattle.file_calls.specs.eof_laws.k_split_model.View.{View}
use Rattle.file_calls.specs.live_step_laws.live_model.k_split.Bytes.{IsOverwriteDone, tail_zeros}
use Rattle.file_calls.specs.live_step_laws.live_model.k_split.MapChanges.{IsMapCut, IsSizeAnswer, IsSizedWith}
use Rattle.file_calls.specs.live_step_laws.posix_types.declared.call.Call.{Call}
use Rattle.file_calls.specs.live_step_laws.posix_types.declared.call.Who.{Who}
use Rattle.file_calls.specs.live_step_laws.posix_types.declared.handle.Handle.{Handle}
use Rattle.file_calls.specs.live_step_laws.posix_types.declared.item.Item.{Item}
use Rattle.file_calls.specs.live_step_laws.posix_tables.Open.{Tables}
use Rattle.file_calls.specs.live_step_laws.posix_tables.Outcomes.{first}
use Rattle.file_calls.specs.live_step_laws.posix_tables.Room.{growth}
use Rattle.file_calls.specs.live_step_laws.posix_spec.FileRows.{content, truncate_rows}
use Rattle.file_calls.specs.live_step_laws.posix_spec.Run.{after_call, run}
use Rattle.file_calls.specs.live_step_laws.posix_spec.State.{room, State}
use Rattle.file_calls.specs.live_step_laws.crash_spec.Busy.{waits_for}
use Rattle.file_calls.specs.live_step_laws.live_model.world_model.Jobs.{Job}
use Rattle.file_calls.specs.live_step_laws.live_model.world_model.Stands.{number}
use Rattle.file_calls.specs.live_step_laws.live_model.world_model.JobLaws.{needs}
use Rattle.file_calls.specs.live_step_laws.live_model.world_step_laws.Steps.{flights_of, LetsJobsBe}
use Rattle.file_calls.specs.live_step_laws.commute_laws.Orders.{AreTwoEach}
use Rattle.file_calls.specs.live_step_laws.live_model.Losses.{KeepsWhenLost}
use Rattle.file_calls.specs.live_step_laws.live_model.Standing.{Kept, StandsAt}

-- by these words the bytes of the map of a file are zero, from one place on and before another
abbrev pub AreZeros : Volume → ℕ → ℕ → ℕ → Words → Type 0
AreZeros v ino from to f = (i : ℕ) → from ≤ i → i < to → byte_in f (disk_at (extents v ino) (i / 4096)) i ≡ 0

-- The end of a file of which nothing is staged is cleaned, while no block lies past it: each image has zeros from there on.
abbrev pub CleansBehind : Type 0
CleansBehind =
    (g : Geometry) (k l : View) (t : Tables) (kept : Kept) (lines : Bool) (n : ℕ) (s : State) (ino to : ℕ)
    → StandsAt g k t kept lines n s → (inode k.volume ino).kind ≡ File → FilesEnd k.volume kept.files
    → IsOverwriteDone ino (size_in kept.files ino) (tail_zeros k.volume ino (size_in kept.files ino)) k l
    → (image : Words) → IsImage l.cells image → AreZeros l.volume ino (size_in kept.files ino) to (journaled image)

-- A `truncate` THAT MAY GIVE THE FILE THIS SIZE: no row refuses it; the inode is that of the handle's file; nothing is staged of
-- it; the jobs that are out are of other callers and other files, and what it takes fits beside what they need; and where it
-- grows, each image has zeros behind its end.
pub record MaySize (k : View) (kept : Kept) (jobs : List Job) (numbers : List ℕ) (s : State) (who : Who) (h : Handle)
    (size ino : ℕ) : Type 0 where
  pub file : (inode k.volume ino).kind ≡ File
  pub accepted : first (truncate_rows s who h size) ≡ None
  pub waits : waits_for s (who, Call.Truncate h size) ≡ Some (number numbers ino)
  pub bare : runs_in kept.files ino ≡ []
  pub beside : LetsJobsBe s (who, Call.Truncate h size) numbers jobs
  pub fits : growth (length (content s who h)) size + needs s jobs ≤ room s
  pub zeros : (image : Words) → IsImage k.cells image → AreZeros k.volume ino (size_in kept.files ino) size (journaled image)

-- IT HAS THE SIZE: they stand together in the next state.
abbrev pub StandsSized : Type 0
StandsSized =
    (g : Geometry) (k l : View) (t : Tables) (kept : Kept) (files : Files) (lines : Bool) (n m : ℕ) (s : State) (who : Who)
    (h : Handle) (size ino : ℕ) → n ≤ m
    → (stands : StandsAt g k t kept lines n s) → MaySize k kept stands.jobs stands.numbers s who h size ino
    → IsSizeAnswer ino size k l (Ok tt) → ChangesFile ino [] size kept.files files
    → spare_in kept.files ino ≤ spare_in files ino
    → (now : StandsAt g l t (record kept { files = files }) lines m (after_call s (who, Call.Truncate h size)))
    × (now.jobs ≡ stands.jobs) × (now.numbers ≡ stands.numbers)

-- THE POWER WENT in it, while the jobs that are out are of two threads and two files each.
abbrev pub KeepsSized : Type 0
KeepsSized =
    (g : Geometry) (k l : View) (t : Tables) (kept : Kept) (lines : Bool) (n : ℕ) (start : State) (history : List Item)
    (who : Who) (h : Handle) (size ino : ℕ)
    → (stands : StandsAt g k t kept lines n (run start history))
    → AreTwoEach (flights_of stands.numbers stands.jobs)
    → MaySize k kept stands.jobs stands.numbers (run start history) who h size ino
    → (w : Volume) (blocks : List ℕ) → IsSizedWith ino size k w blocks → IsMapCut blocks w k l
    → KeepsWhenLost k.volume l.cells kept stands.jobs start history ((who, Call.Truncate h size) ∷ [])
