use Rattle.std.specs.Prelude.{Option}
use Rattle.std.proofs.Common.{◌∙◌, subst, refl}
use Rattle.thread_laws.specs.declared.works.Worked.{Worked}
use Rattle.split_threads.specs.Workers.{GoesOnOrEnds}
use Rattle.split_threads.proofs.OneWorker.{come_first, look_begins, look_on, look_over, look_waits, own_looks}
use Rattle.split_threads.proofs.working.work.Goals as goal

pub loop-init : goal.loop-init
loop-init g c = record { who = refl; far = λ i v is may. come_first c.args.shared.now.turn c.args.shared.now.log i c.a_worker_goes_on.ensures.first v c.args.own.now is may }

pub begin_next-requires : goal.begin_next-requires
begin_next-requires g c =
    let far = c.loop.invariant.far c.requires.0 c.requires.1 c.requires.2 c.requires.3 in
    (c.requires.0, far.view, far.worker.pass, own_looks c.args.shared.now.turn c.args.shared.now.log c.requires.0 c.requires.1 c.args.own.now.seat c.loop.own far)

pub loop-preserved-in-On : goal.loop-preserved-in-On
loop-preserved-in-On g c = record {
  who = c.loop.invariant.who;
  far = λ i v is may.
      let far = c.loop.invariant.far i v is may in
      let looked = c.begin_next.ensures i far.view far.worker.pass (own_looks c.args.shared.now.turn c.args.shared.now.log i v c.args.own.now.seat c.loop.own far) in
      look_on c.args.shared.now.turn c.args.shared.now.log i v c.args.own.now.seat c.loop.own far c.begin_next.new.pass c.begin_next.result looked c.a_worker_goes_on.ensures.look c.in-On.is;
}

pub loop-preserved-in-Wait : goal.loop-preserved-in-Wait
loop-preserved-in-Wait g c = record {
  who = c.loop.invariant.who;
  far = λ i v is may.
      let far = c.loop.invariant.far i v is may in
      let looked = c.begin_next.ensures i far.view far.worker.pass (own_looks c.args.shared.now.turn c.args.shared.now.log i v c.args.own.now.seat c.loop.own far) in
      look_waits c.args.shared.now.turn c.args.shared.now.log i v c.args.own.now.seat c.loop.own far c.begin_next.new.pass c.begin_next.result looked c.a_worker_goes_on.ensures.look c.in-Wait.is;
}

pub returns-in-Over-clause-worked : goal.returns-in-Over-clause-worked
returns-in-Over-clause-worked g c i v is may =
    let far = c.loop.invariant.far i v is may in
    let looked = c.begin_next.ensures i far.view far.worker.pass (own_looks c.args.shared.now.turn c.args.shared.now.log i v c.args.own.now.seat c.loop.own far) in
    let ended = look_over c.args.shared.now.turn c.args.shared.now.log i v c.args.own.now.seat c.loop.own far c.begin_next.new.pass c.begin_next.result looked c.a_worker_goes_on.ensures.ends c.in-Over.is in
    (ended.view, ended.worker, ended.did)

pub run_job-requires-clause-fresh : goal.run_job-requires-clause-fresh
run_job-requires-clause-fresh g c =
    let i = c.requires.0 in
    let v = c.requires.1 in
    let far = c.loop.invariant.far i v c.requires.2 c.requires.3 in
    let looked = c.begin_next.ensures i far.view far.worker.pass (own_looks c.args.shared.now.turn c.args.shared.now.log i v c.args.own.now.seat c.loop.own far) in
    (look_begins c.args.shared.now.turn c.args.shared.now.log i v c.args.own.now.seat c.loop.own far c.begin_next.new.pass c.begin_next.result looked c.a_worker_goes_on.ensures.look c.in-Job.job c.in-Job.is).1

pub run_job-requires-clause-begun : goal.run_job-requires-clause-begun
run_job-requires-clause-begun g c =
    let i = c.requires.0 in
    let v = c.requires.1 in
    let far = c.loop.invariant.far i v c.requires.2 c.requires.3 in
    let looked = c.begin_next.ensures i far.view far.worker.pass (own_looks c.args.shared.now.turn c.args.shared.now.log i v c.args.own.now.seat c.loop.own far) in
    (i, v, c.args.own.now.seat, (look_begins c.args.shared.now.turn c.args.shared.now.log i v c.args.own.now.seat c.loop.own far c.begin_next.new.pass c.begin_next.result looked c.a_worker_goes_on.ensures.look c.in-Job.job c.in-Job.is).0)

pub returns-in-Some-run_job-clause-worked : goal.returns-in-Some-run_job-clause-worked
returns-in-Some-run_job-clause-worked g c i v is may =
    let far = c.loop.invariant.far i v is may in
    let looked = c.begin_next.ensures i far.view far.worker.pass (own_looks c.args.shared.now.turn c.args.shared.now.log i v c.args.own.now.seat c.loop.own far) in
    let begun = (look_begins c.args.shared.now.turn c.args.shared.now.log i v c.args.own.now.seat c.loop.own far c.begin_next.new.pass c.begin_next.result looked c.a_worker_goes_on.ensures.look c.in-Job.job c.in-Job.is).0 in
    let goes = c.run_job.ensures.goes i v c.args.own.now.seat begun in
    let ended = subst (λ (o : Option Worked). GoesOnOrEnds c.args.shared.now.turn c.args.shared.now.log v c.args.own.now.seat i c.run_job.new.own o) c.in-Some-run_job.is goes in
    (ended.view, ended.worker, ended.did)

pub loop-preserved : goal.loop-preserved
loop-preserved g c = record {
  who = c.run_job.ensures.who ∙ c.loop.invariant.who;
  far = λ i v is may.
      let far = c.loop.invariant.far i v is may in
      let looked = c.begin_next.ensures i far.view far.worker.pass (own_looks c.args.shared.now.turn c.args.shared.now.log i v c.args.own.now.seat c.loop.own far) in
      let begun = (look_begins c.args.shared.now.turn c.args.shared.now.log i v c.args.own.now.seat c.loop.own far c.begin_next.new.pass c.begin_next.result looked c.a_worker_goes_on.ensures.look c.in-Job.job c.in-Job.is).0 in
      let goes = c.run_job.ensures.goes i v c.args.own.now.seat begun in
      subst (λ (o : Option Worked). GoesOnOrEnds c.args.shared.now.turn c.args.shared.now.log v c.args.own.now.seat i c.run_job.new.own o) c.in_default.is goes;
}
