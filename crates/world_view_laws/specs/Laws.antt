-- What jobs leave that end after the power went, as one statement.
use Rattle.std.specs.Prelude.{◌≢◌, ℕ}
use Rattle.file_calls.specs.eof_laws.pm_model.Powers.{Supply}
use Rattle.file_calls.specs.eof_laws.list_laws.Members.{In}
use Rattle.in_flight.specs.live_model.Standing.{JobOut}
use Rattle.write_end.specs.Blocks.{AreBlocksHome}
use Rattle.world_view_laws.specs.Jobs.{LosesFinish}
use Rattle.world_view_laws.specs.Views.{WorldView}

-- TWO JOBS ENDED, one behind the other: the blocks of both are at home, as a crash asks.
abbrev pub BothAreHome : Type 0
BothAreHome =
    (slot next : ℕ) (p q : JobOut) (old middle new : WorldView) (power later : Supply) → p.who ≢ q.who → In p old.pending
    → LosesFinish slot p old middle power → LosesFinish next q middle new later
    → AreBlocksHome p.blocks new.disk.cells × AreBlocksHome q.blocks new.disk.cells
