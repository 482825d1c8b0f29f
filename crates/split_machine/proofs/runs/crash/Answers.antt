use Rattle.std.specs.Prelude.{refl}
use Rattle.split_machine.specs.Events.{seen}
use Rattle.split_machine.proofs.Ends.{crash_acted, crash_may}
use Rattle.split_machine.proofs.runs.crash.Goals as goal

pub crash-requires : goal.crash-requires
crash-requires c = record {
  usable = c.requires.usable;
  may = crash_may c.args.world (seen c.args.out) _ _ _ c.requires c.lines_of.ensures c.in_ok-jobs.ensures.began c.in_ok-jobs.ensures.filled;
}

pub returns : goal.returns
returns c = (
  c.crash.ensures.left,
  refl,
  crash_acted c.args.world (seen c.args.out) _ _ _ c.lines_of.ensures c.in_ok-jobs.ensures.filled c.crash.ensures.acted,
)
