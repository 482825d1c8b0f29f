use Rattle.std.proofs.Common.{subst, sym}
use Rattle.run_laws.specs.world_view_laws.Rounds.{MayUnmount}
use Rattle.split_machine.specs.Events.{seen}
use Rattle.split_machine.specs.Runs.{CanEnd}
use Rattle.split_machine.proofs.runs.end_run.Goals as goal

pub unmount-requires : goal.unmount-requires
unmount-requires c =
    let can = subst (CanEnd c.args.world (seen c.args.out)) c.in-All.is c.requires in
    record { usable = can.0; may = subst (MayUnmount c.args.world) (sym c.lines_of.ensures) can.1 }
