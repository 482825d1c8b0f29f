use Rattle.std.specs.Prelude.{◌*◌, ◌^◌, refl}
use Rattle.std.proofs.Common.{arith}
use Rattle.run_laws.proofs.Longer.{Steps-more}
use Rattle.split_machine.specs.Works as works
use Rattle.split_machine.proofs.work.fill_event.Goals as goal

pub returns-in-Ready : goal.returns-in-Ready
returns-in-Ready c w log =
    works.Fills c.args.job c.in-Ready.job refl refl
    (Steps-more (577 * c.args.job.draft.count) (2 ^ 15) c.args.power.now c.fill.new.power (omega (arith, c.draft-draft.ensures.entry.few)) c.in-Ready.ensures.steps) c.in-Ready.ensures.filled

pub returns-in-PowerLost : goal.returns-in-PowerLost
returns-in-PowerLost c w log =
    works.FillLoses c.args.job c.in-PowerLost.job refl refl
    (Steps-more (577 * c.args.job.draft.count) (2 ^ 15) c.args.power.now c.fill.new.power (omega (arith, c.draft-draft.ensures.entry.few)) c.in-PowerLost.ensures.steps) c.in-PowerLost.ensures.filled
