use Rattle.std.specs.Prelude.{Bool, true, false, ℕ}
use Rattle.std.proofs.Common.{arith, ◌∙◌, subst, sym, refl}
use Rattle.oplog_tail.specs.Answers.{Answers}
use Rattle.oplog_tail.specs.Logs.{capacity}
use Rattle.oplog_tail.specs.declared.appends.Appended.{Appended}
use Rattle.thread_laws.specs.world_view_laws.oplog_entry.layout_model.declared.lines.Draft.{Draft}
use Rattle.thread_laws.specs.Works.{HasEnded, HasTold}
use Rattle.thread_laws.specs.declared.works.Worked.{Worked}
use Rattle.split_threads.specs.Workers.{HasEndedWith}
use Rattle.split_threads.specs.declared.working.Own.{Own}
use Rattle.split_threads.proofs.OneWorker.{append_bounded, append_finished, append_full, append_lost, append_returned, begun_some, slot_within}
use Rattle.split_threads.proofs.working.append_job.Goals as goal

pub returns-then-end_job-clause-goes : goal.returns-then-end_job-clause-goes
returns-then-end_job-clause-goes g c i first seat far =
    let log = c.args.shared.now.log in
    let receipt = c.in-Done.receipt in
    let answers = subst (λ (d : Draft). Answers (capacity log) d c.args.own.now.seat c.args.own.now.power c.append.new.seat c.append.new.power (Appended.Done receipt)) c.draft.ensures.draft c.in-Done.ensures.answer in
    let slot = slot_within c.args.shared.now.turn c.args.shared.now.log i c.args.own.now far.view c.slot.result far.worker (omega (arith, c.slot.ensures, answers.1)) in
    let ended = c.end_job.ensures i far.view far.worker.pass far.has slot in
    let is = subst (λ (s : ℕ). HasEnded far.view ended.0 s c.args.job.draft true) c.slot.ensures (subst (λ (b : Bool). HasEnded far.view ended.0 c.slot.result c.args.job.draft b) c.if-end_job.true ended.2) in
    append_returned c.args.shared.now.turn c.args.shared.now.log i first seat c.args.own.now c.args.job far c.append.new.seat c.append.new.power c.append.ensures.steps c.append.ensures.log c.a_worker_goes_on.ensures.job receipt c.end_job.new.pass answers (ended.0, ended.1, is)

pub returns-else-end_job-clause-goes : goal.returns-else-end_job-clause-goes
returns-else-end_job-clause-goes g c i first seat far =
    let log = c.args.shared.now.log in
    let receipt = c.in-Done.receipt in
    let answers = subst (λ (d : Draft). Answers (capacity log) d c.args.own.now.seat c.args.own.now.power c.append.new.seat c.append.new.power (Appended.Done receipt)) c.draft.ensures.draft c.in-Done.ensures.answer in
    let slot = slot_within c.args.shared.now.turn c.args.shared.now.log i c.args.own.now far.view c.slot.result far.worker (omega (arith, c.slot.ensures, answers.1)) in
    let ended = c.end_job.ensures i far.view far.worker.pass far.has slot in
    let is = subst (λ (s : ℕ). HasEnded far.view ended.0 s c.args.job.draft false) c.slot.ensures (subst (λ (b : Bool). HasEnded far.view ended.0 c.slot.result c.args.job.draft b) c.if-end_job.false ended.2) in
    append_finished c.args.shared.now.turn c.args.shared.now.log i first seat c.args.own.now c.args.job far c.append.new.seat c.append.new.power c.append.ensures.steps c.append.ensures.log c.a_worker_goes_on.ensures.finish receipt c.end_job.new.pass answers (ended.0, ended.1, is)

pub returns-in-Full-clause-goes : goal.returns-in-Full-clause-goes
returns-in-Full-clause-goes g c i first seat far =
    let log = c.args.shared.now.log in
    let full = c.in-Full.full in
    let answers = subst (λ (d : Draft). Answers (capacity log) d c.args.own.now.seat c.args.own.now.power c.append.new.seat c.append.new.power (Appended.Full full)) c.draft.ensures.draft c.in-Full.ensures.answer in
    let dropped = c.drop_job.ensures.dropped i far.view far.worker.pass far.has (answers.0 ∙ far.worker.lap.count) in
    let own : Own = record { who = c.args.own.now.who; pass = c.drop_job.new.pass; seat = c.append.new.seat; power = c.append.new.power } in
    subst (λ (w : Worked). HasEndedWith c.args.shared.now.turn c.args.shared.now.log first seat i own w) (sym c.drop_job.ensures.ended)
    (append_full c.args.shared.now.turn c.args.shared.now.log i first seat c.args.own.now c.args.job far c.append.new.seat c.append.new.power c.append.ensures.steps c.append.ensures.log c.a_worker_goes_on.ensures.full full c.drop_job.new.pass answers dropped)

pub returns-then-tell_loss-clause-goes : goal.returns-then-tell_loss-clause-goes
returns-then-tell_loss-clause-goes g c i first seat far =
    let log = c.args.shared.now.log in
    let answers = subst (λ (d : Draft). Answers (capacity log) d c.args.own.now.seat c.args.own.now.power c.append.new.seat c.append.new.power Appended.PowerLost) c.draft.ensures.draft c.in-PowerLost.ensures.answer in
    let bound = append_bounded c.args.shared.now.turn c.args.shared.now.log i first seat c.args.own.now c.args.job far c.append.new.seat c.append.new.power c.append.ensures.steps c.append.ensures.log c.a_worker_goes_on.ensures.bound answers.2 in
    let told = c.tell_loss.ensures i far.view bound.0 far.worker.pass (begun_some far.view far.has.then far.has.begun) bound.1 bound.2 in
    let is = subst (λ (b : Bool). HasTold far.view told.0 b) c.if-tell_loss.true told.2 in
    append_lost c.args.shared.now.turn c.args.shared.now.log i first seat c.args.own.now c.args.job far c.append.new.seat c.append.new.power c.append.ensures.steps c.append.ensures.log c.a_worker_goes_on.ensures.unappended true c.tell_loss.new.pass answers (told.0, told.1, is)
    (Worked.Filled c.args.job) (λ yes. refl) (λ never. cc)

pub returns-else-tell_loss-clause-goes : goal.returns-else-tell_loss-clause-goes
returns-else-tell_loss-clause-goes g c i first seat far =
    let log = c.args.shared.now.log in
    let answers = subst (λ (d : Draft). Answers (capacity log) d c.args.own.now.seat c.args.own.now.power c.append.new.seat c.append.new.power Appended.PowerLost) c.draft.ensures.draft c.in-PowerLost.ensures.answer in
    let bound = append_bounded c.args.shared.now.turn c.args.shared.now.log i first seat c.args.own.now c.args.job far c.append.new.seat c.append.new.power c.append.ensures.steps c.append.ensures.log c.a_worker_goes_on.ensures.bound answers.2 in
    let told = c.tell_loss.ensures i far.view bound.0 far.worker.pass (begun_some far.view far.has.then far.has.begun) bound.1 bound.2 in
    let is = subst (λ (b : Bool). HasTold far.view told.0 b) c.if-tell_loss.false told.2 in
    append_lost c.args.shared.now.turn c.args.shared.now.log i first seat c.args.own.now c.args.job far c.append.new.seat c.append.new.power c.append.ensures.steps c.append.ensures.log c.a_worker_goes_on.ensures.unappended false c.tell_loss.new.pass answers (told.0, told.1, is)
    Worked.Ended (λ never. cc) (λ yes. refl)

-- its own power is off, so the loss may be told
pub tell_loss-requires : goal.tell_loss-requires
tell_loss-requires g c =
    let far = c.requires.3 in
    let log = c.args.shared.now.log in
    let answers = subst (λ (d : Draft). Answers (capacity log) d c.args.own.now.seat c.args.own.now.power c.append.new.seat c.append.new.power Appended.PowerLost) c.draft.ensures.draft c.in-PowerLost.ensures.answer in
    let bound = append_bounded c.args.shared.now.turn c.args.shared.now.log c.requires.0 c.requires.1 c.requires.2 c.args.own.now c.args.job far c.append.new.seat c.append.new.power c.append.ensures.steps c.append.ensures.log c.a_worker_goes_on.ensures.bound answers.2 in
    (c.requires.0, far.view, far.worker.pass, begun_some far.view far.has.then far.has.begun, bound)
