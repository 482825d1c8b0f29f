-- The power after a change that gathers.
use Rattle.std.specs.Prelude.{◌≡◌, true, false, List, Result, Ok, Err}
use Rattle.block_io.specs.pm_model.declared.Cell.{Cell}
use Rattle.block_io.specs.pm_model.Powers.{Supply}
use Rattle.block_io.specs.image_model.Volume.{Volume}
use Rattle.k_map_plans.specs.k_journal.declared.batches.Record.{Record}
use Rattle.k_map_plans.specs.k_plans.LandingsPlans.{NewChain}
use Rattle.k_map_plans.specs.k_plans.View.{TablesView}
use Rattle.k_split.specs.declared.faults.KFault.{KFault}
use Rattle.k_split.specs.Answers.{IsPowered}
use Rattle.k_split.specs.Landed.{IsLandedJoin}

pub fault-powered : (T : Type 0) (u : Volume) (t p h : TablesView) (maps : List NewChain) (a b c : List Record) (d e : List Cell) (after : Supply) (fault : KFault) → IsLandedJoin u t p h maps a b c d e after (Err fault)
    → (let r : Result T KFault = Err fault in IsPowered after r)
fault-powered T u t p h maps a b c d e after KFault.PowerLost joined = joined.1
fault-powered T u t p h maps a b c d e after (KFault.Refused errno) joined = absurd joined
fault-powered T u t p h maps a b c d e after (KFault.Room room) joined = absurd joined
fault-powered T u t p h maps a b c d e after KFault.NoMemory joined = absurd joined

pub landed-powered : (u : Volume) (t p h : TablesView) (maps : List NewChain) (a b c : List Record) (d e : List Cell) (after : Supply) (r : Result (Unit {0}) KFault) → IsLandedJoin u t p h maps a b c d e after r → IsPowered after r
landed-powered u t p h maps a b c d e after (Ok done) joined = joined.1
landed-powered u t p h maps a b c d e after (Err fault) joined = fault-powered (Unit {0}) u t p h maps a b c d e after fault joined
