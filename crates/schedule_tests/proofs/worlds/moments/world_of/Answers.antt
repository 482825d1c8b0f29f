use Rattle.std.proofs.Common.{subst, sym}
use Rattle.split_machine.specs.world_view_laws.Starts.{AreInLimits}
use Rattle.split_tables.proofs.split_top_proofs.Runnable.{scripts_are_runnable}
use Rattle.schedule_tests.proofs.worlds.moments.world_of.Goals as goal

pub begun-requires-clause-limits : goal.begun-requires-clause-limits
begun-requires-clause-limits c =
    subst AreInLimits (sym c.in-Ok.ensures.ok)
    (scripts_are_runnable c.scripts_are_spelled.ensures c.scripts_are_within_limits.ensures c.args.script.now c.in-Ok.ensures.sound)
