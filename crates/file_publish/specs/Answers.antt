-- What the publishing of a file answers and leaves of a World with writes in flight.
use Rattle.std.specs.Prelude.{◌≡◌, ℕ, Bool, List, [], Result, Ok, Err}
use Rattle.std.specs.declared.alloc.AllocError.{AllocError}
use Rattle.live_step_laws.specs.layout_model.Places.{Geometry}
use Rattle.live_step_laws.specs.live_model.file_table.Files.{ChangesFile, Files, runs_in, size_in}
use Rattle.log_checkpoint.specs.fsync_relink.Publishes.{IsPublishDone, IsPublishStopped}
use Rattle.log_checkpoint.specs.fsync_relink.k_journal.declared.outcomes.Commit.{Commit}
use Rattle.live_step_laws.specs.k_split_model.View.{View}
use Rattle.log_checkpoint.specs.fsync_relink.k_split.declared.faults.KFault.{KFault}
use Rattle.live_step_laws.specs.posix_types.declared.item.Item.{Item}
use Rattle.live_step_laws.specs.posix_tables.Open.{Tables}
use Rattle.live_step_laws.specs.posix_spec.Run.{run}
use Rattle.live_step_laws.specs.posix_spec.State.{State}
use Rattle.live_step_laws.specs.world_step_laws.Steps.{AreBeside}
use Rattle.live_step_laws.specs.world_step_laws.Touched.{only}
use Rattle.live_step_laws.specs.live_model.Losses.{KeepsWhenLost}
use Rattle.live_step_laws.specs.live_model.Standing.{Kept, StandsAt}
use Rattle.file_publish.specs.RelinksLaws.{StandsThen}

-- what the World keeps, with these files
abbrev pub with_files : Kept → Files → Kept
with_files x files = record x { files = files }

-- THE FILE IS PUBLISHED: in whatever state they stood together, while no job of the file was out, they stand together
-- behind it in the same state.
abbrev pub PublishesFile : ℕ → View → Files → View → Files → Type 0
PublishesFile ino k f l u =
    (g : Geometry) (t : Tables) (x : Kept) (lines : Bool) (n : ℕ) (s : State)
    → (stands : StandsAt g k t (with_files x f) lines n s) → AreBeside (only ino) stands.jobs
    → StandsThen g k l t (with_files x f) (with_files x u) lines n s stands

-- THE POWER WENT in it, or before: the promise is kept with the calls of the jobs unfinished.
abbrev pub LosesFile : ℕ → View → Files → View → Type 0
LosesFile ino k f l =
    (g : Geometry) (t : Tables) (x : Kept) (lines : Bool) (n : ℕ) (start : State) (history : List Item)
    → (stands : StandsAt g k t (with_files x f) lines n (run start history)) → AreBeside (only ino) stands.jobs
    → KeepsWhenLost k.volume l.cells x stands.jobs start history []

-- WHAT `publish_file` ANSWERS AND LEAVES, from the table f and k to u and l. Done: nothing is kept of the file but its
-- size. Else the table is as it was: the power went, or memory ran out on the way.
abbrev pub IsFilePublished : ℕ → Files → View → Files → View → Result Commit AllocError → Type 0
IsFilePublished ino f k u l (Ok Commit.Done) =
    IsPublishDone ino (size_in f ino) (runs_in f ino) k l × ChangesFile ino [] (size_in f ino) f u
    × PublishesFile ino k f l u
IsFilePublished ino f k u l (Ok Commit.PowerLost) =
    (u ≡ f) × IsPublishStopped KFault.PowerLost ino (size_in f ino) (runs_in f ino) k l × LosesFile ino k f l
IsFilePublished ino f k u l (Err e) = u ≡ f
