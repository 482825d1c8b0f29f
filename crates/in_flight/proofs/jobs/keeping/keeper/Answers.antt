use Rattle.std.proofs.Common.{subst}
use Rattle.in_flight.specs.Busy.{HoldsFile, WaitsForFile}
use Rattle.in_flight.proofs.Looks.{kept_by, kept_by_none, kept_none}
use Rattle.in_flight.proofs.jobs.keeping.keeper.Goals as goal

pub returns-in-None : goal.returns-in-None
returns-in-None c =
    kept_none c.args.k.now c.args.tables.now.tables c.args.who c.args.call.now c.args.pending.now
    (subst (WaitsForFile c.args.who c.args.call.now c.args.k.now c.args.tables.now.tables) c.in-None.is c.waits_for.ensures)

pub returns-in-None-holder_of : goal.returns-in-None-holder_of
returns-in-None-holder_of c =
    kept_by_none c.args.k.now c.args.tables.now.tables c.args.who c.args.call.now c.args.pending.now c.in-Some.ino
    (subst (WaitsForFile c.args.who c.args.call.now c.args.k.now c.args.tables.now.tables) c.in-Some.is c.waits_for.ensures)
    (subst (HoldsFile c.args.pending.now c.in-Some.ino c.args.who) c.in-None-holder_of.is c.holder_of.ensures)

pub returns-in-Some-holder_of : goal.returns-in-Some-holder_of
returns-in-Some-holder_of c =
    kept_by c.args.k.now c.args.tables.now.tables c.args.who c.args.call.now c.args.pending.now c.in-Some.ino c.in-Some-holder_of.holder
    (subst (WaitsForFile c.args.who c.args.call.now c.args.k.now c.args.tables.now.tables) c.in-Some.is c.waits_for.ensures)
    (subst (HoldsFile c.args.pending.now c.in-Some.ino c.args.who) c.in-Some-holder_of.is c.holder_of.ensures)
