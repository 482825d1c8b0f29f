-- The two Worlds in which the batch is seen, and the runs that are staged, each law as one statement.
use Rattle.std.specs.Prelude.{◌≡◌, ℕ, List, []}
use Rattle.eof_laws.specs.live_model.pm_model.Images.{IsImage}
use Rattle.eof_laws.specs.live_model.pm_model.Words.{Words}
use Rattle.eof_laws.specs.live_model.layout_model.Journal.{journaled}
use Rattle.eof_laws.specs.live_model.layout_model.Places.{Geometry}
use Rattle.eof_laws.specs.live_model.file_table.Files.{Files}
use Rattle.eof_laws.specs.live_model.k_split_model.View.{View}
use Rattle.eof_laws.specs.live_model.commute_laws.posix_types.declared.item.Item.{Item}
use Rattle.eof_laws.specs.live_model.posix_spec.Run.{run}
use Rattle.eof_laws.specs.live_model.posix_spec.State.{State}
use Rattle.eof_laws.specs.live_model.posix_laws.Cuts.{cut_of}
use Rattle.eof_laws.specs.live_model.world_model.Jobs.{live_claims}
use Rattle.eof_laws.specs.live_model.world_step_laws.Worlds.{IsWorld}
use Rattle.eof_laws.specs.live_model.Flying.{AreOverlays}
use Rattle.eof_laws.specs.live_model.Standing.{file_state}
use Rattle.posix_mode_laws.specs.Sides.{sized}
use Rattle.batch_laws.specs.Standing.{as_claims, PosixGoing, staged_of}

-- What the calls see: the batch with the lengths in memory, and the staged runs as claims, all live. It is a World without a job, of
-- whatever image.
abbrev pub LiveIsWorld : Type 0
LiveIsWorld =
    (g : Geometry) (k : View) (files : Files) (count : ℕ) (numbers : List ℕ) (start : State) (history : List Item) (image : Words)
    → PosixGoing g k files count numbers start history → IsImage k.cells image
    → IsWorld (sized files.sizes k.volume) (as_claims (staged_of k.volume files)) [] (journaled image) numbers (run start history) count
    × (live_claims (sized files.sizes k.volume) (as_claims (staged_of k.volume files)) ≡ staged_of k.volume files)

-- The batch as it would be committed, with no claim: one of the state that is cut to published lengths.
abbrev pub CutIsWorld : Type 0
CutIsWorld =
    (g : Geometry) (k : View) (files : Files) (count : ℕ) (numbers : List ℕ) (start : State) (history : List Item) (image : Words)
    → PosixGoing g k files count numbers start history → IsImage k.cells image → IsWorld k.volume [] [] (journaled image) numbers (cut_of (run start history)) count

-- The overlays that are kept are the staged runs.
abbrev pub StagedIsOverlay : Type 0
StagedIsOverlay =
    (g : Geometry) (k : View) (files : Files) (count : ℕ) (numbers : List ℕ) (start : State) (history : List Item)
    → PosixGoing g k files count numbers start history → AreOverlays (sized files.sizes k.volume) (staged_of k.volume files) (file_state files)
