use Rattle.std.specs.Prelude.{Bool, true, false}
use Rattle.std.proofs.Common.{subst, refl}
use Rattle.thread_laws.specs.Works.{HasTold}
use Rattle.thread_laws.specs.declared.works.Worked.{Worked}
use Rattle.split_threads.proofs.OneWorker.{begun_some, fill_bounded, fill_lost, fill_ready}
use Rattle.split_threads.proofs.working.run_job.Goals as goal

pub append_job-requires : goal.append_job-requires
append_job-requires g c = (
  c.requires.begun.0,
  c.requires.begun.1,
  c.requires.begun.2,
  fill_ready c.args.shared.now.turn c.args.shared.now.log c.requires.begun.0 c.requires.begun.1 c.requires.begun.2 c.args.own.now c.args.job c.requires.begun.3 c.fill.new.power c.args.job.draft.count c.draft-draft.ensures.entry.few c.fill.ensures.steps
      c.each_answer_may_be_left.ensures.fills c.in-Ready.job c.in-Ready.ensures.filled,
)

pub returns-in-Ready-clause-goes : goal.returns-in-Ready-clause-goes
returns-in-Ready-clause-goes g c i first seat far =
    c.append_job.ensures.goes i first seat
    (fill_ready c.args.shared.now.turn c.args.shared.now.log i first seat c.args.own.now c.args.job far c.fill.new.power c.args.job.draft.count c.draft-draft.ensures.entry.few c.fill.ensures.steps c.each_answer_may_be_left.ensures.fills c.in-Ready.job c.in-Ready.ensures.filled)

pub tell_loss-requires : goal.tell_loss-requires
tell_loss-requires g c =
    let far = c.requires.begun.3 in
    let off = c.in-PowerLost.ensures.filled in
    let bound = fill_bounded c.args.shared.now.turn c.args.shared.now.log c.requires.begun.0 c.requires.begun.1 c.requires.begun.2 c.args.own.now c.args.job far c.fill.new.power c.args.job.draft.count c.draft-draft.ensures.entry.few c.fill.ensures.steps c.a_worker_goes_on.ensures.bound off.off in (
      c.requires.begun.0,
      far.view,
      far.worker.pass,
      begun_some far.view far.has.then far.has.begun,
      (bound.0, bound.1, bound.2),
    )

pub returns-then-tell_loss-clause-goes : goal.returns-then-tell_loss-clause-goes
returns-then-tell_loss-clause-goes g c i first seat far =
    let off = c.in-PowerLost.ensures.filled in
    let bound = fill_bounded c.args.shared.now.turn c.args.shared.now.log i first seat c.args.own.now c.args.job far c.fill.new.power c.args.job.draft.count c.draft-draft.ensures.entry.few c.fill.ensures.steps c.a_worker_goes_on.ensures.bound off.off in
    let told = c.tell_loss.ensures i far.view bound.0 far.worker.pass (begun_some far.view far.has.then far.has.begun) bound.1 bound.2 in
    let is = subst (λ (b : Bool). HasTold far.view told.0 b) c.if-tell_loss.true told.2 in
    fill_lost c.args.shared.now.turn c.args.shared.now.log i first seat c.args.own.now c.args.job far c.fill.new.power c.args.job.draft.count c.draft-draft.ensures.entry.few c.fill.ensures.steps c.a_worker_goes_on.ensures.unfilled c.each_answer_may_be_left.ensures.cut
    c.in-PowerLost.job true c.tell_loss.new.pass off (told.0, told.1, is) (Worked.Job c.in-PowerLost.job) (λ yes. refl) (λ never. cc)

pub returns-else-tell_loss-clause-goes : goal.returns-else-tell_loss-clause-goes
returns-else-tell_loss-clause-goes g c i first seat far =
    let off = c.in-PowerLost.ensures.filled in
    let bound = fill_bounded c.args.shared.now.turn c.args.shared.now.log i first seat c.args.own.now c.args.job far c.fill.new.power c.args.job.draft.count c.draft-draft.ensures.entry.few c.fill.ensures.steps c.a_worker_goes_on.ensures.bound off.off in
    let told = c.tell_loss.ensures i far.view bound.0 far.worker.pass (begun_some far.view far.has.then far.has.begun) bound.1 bound.2 in
    let is = subst (λ (b : Bool). HasTold far.view told.0 b) c.if-tell_loss.false told.2 in
    fill_lost c.args.shared.now.turn c.args.shared.now.log i first seat c.args.own.now c.args.job far c.fill.new.power c.args.job.draft.count c.draft-draft.ensures.entry.few c.fill.ensures.steps c.a_worker_goes_on.ensures.unfilled c.each_answer_may_be_left.ensures.cut
    c.in-PowerLost.job false c.tell_loss.new.pass off (told.0, told.1, is) Worked.Ended (λ never. cc) (λ yes. refl)
