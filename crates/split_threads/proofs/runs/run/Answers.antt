use Rattle.std.proofs.Common.{subst, sym}
use Rattle.thread_laws.specs.world_view_laws.pm_model.Powers.{Supply}
use Rattle.split_threads.specs.Rounds.{IsBetweenRounds, IsRoundDone}
use Rattle.split_threads.specs.declared.closes.Turned.{Turned}
use Rattle.split_threads.proofs.Turned.{first_between}
use Rattle.split_threads.proofs.runs.run.Goals as goal

pub loop-init : goal.loop-init
loop-init g c = subst (λ (p : Supply). IsBetweenRounds c.args.world c.args.stop c.args.world p) (sym c.power_for-power.ensures) (first_between c.args.world c.args.stop c.requires.first)

pub round-requires-clause-between : goal.round-requires-clause-between
round-requires-clause-between g c κs within = (c.args.world, c.loop.invariant)

pub loop-preserved : goal.loop-preserved
loop-preserved g c = subst (λ (t : Turned). IsRoundDone c.args.world c.args.stop t) c.in-Next.is (c.in_ok-turned.ensures c.args.world c.loop.invariant)

pub returns-in-Ended : goal.returns-in-Ended
returns-in-Ended g c = subst (λ (t : Turned). IsRoundDone c.args.world c.args.stop t) c.in-Ended.is (c.in_ok-turned.ensures c.args.world c.loop.invariant)
