-- What a World that stands gives, each as one statement.
use Rattle.std.specs.Prelude.{◌≤◌, ◌^◌, ℕ, Bool, All}
use Rattle.log_checkpoint.specs.layout_model.block_counts.declared.TheConstants.{LONGEST_FILE}
use Rattle.log_checkpoint.specs.layout_model.Places.{Geometry}
use Rattle.log_checkpoint.specs.file_table.Files.{runs_in, size_in}
use Rattle.log_checkpoint.specs.fsync_relink.Publishes.{MayPublish}
use Rattle.log_checkpoint.specs.k_map_plans.Plans.{IsLiveFile}
use Rattle.log_checkpoint.specs.k_split_model.View.{View}
use Rattle.log_checkpoint.specs.Gathers.{MayGather}
use Rattle.log_checkpoint.specs.posix_tables.Open.{Tables}
use Rattle.log_checkpoint.specs.posix_spec.State.{State}
use Rattle.live_step_laws.specs.live_model.Standing.{Kept, StandsAt}

-- WHAT IS STAGED OF A FILE MAY BE PUBLISHED, whatever is in flight.
abbrev pub StandsToPublish : Type 0
StandsToPublish =
    (g : Geometry) (k : View) (t : Tables) (kept : Kept) (lines : Bool) (n : ℕ) (s : State) (ino : ℕ)
    → StandsAt g k t kept lines n s → n ≤ 2 ^ 62 → IsLiveFile ino k.volume → size_in kept.files ino ≤ LONGEST_FILE
    → MayPublish ino (size_in kept.files ino) (runs_in kept.files ino) k

-- WHAT IS STAGED OF ALL FILES MAY BE GATHERED, of a table of sizes that files may have.
abbrev pub StandsToGather : Type 0
StandsToGather =
    (g : Geometry) (k : View) (t : Tables) (kept : Kept) (lines : Bool) (n : ℕ) (s : State)
    → StandsAt g k t kept lines n s → n ≤ 2 ^ 62
    → All (λ size. size ≤ LONGEST_FILE) kept.files.sizes
    → MayGather kept.files k
