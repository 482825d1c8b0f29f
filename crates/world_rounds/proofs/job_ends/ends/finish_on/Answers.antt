use Rattle.std.specs.Prelude.{length, refl}
use Rattle.std.proofs.Common.{◌≡◌, ◌≢◌, ◌∙◌, AllPairs, ap, List, subst, sym}
use Rattle.posix_types.specs.declared.call.Mode.{Mode}
use Rattle.posix_types.specs.declared.call.Who.{Who}
use Rattle.posix_types.specs.declared.reply.Reply.{Reply}
use Rattle.posix_tables.specs.Outcomes.{answer}
use Rattle.world_parts.specs.list_laws.Members.{In}
use Rattle.world_parts.specs.in_flight.live_model.Standing.{AreOfTwoThreads, JobOut}
use Rattle.world_parts.specs.in_flight.live_model.Jobs.{without}
use Rattle.world_parts.specs.in_flight.world_model.Jobs.{put_bytes_of}
use Rattle.world_parts.specs.k_journal.declared.outcomes.Commit.{Commit}
use Rattle.world_parts.specs.world_view_laws.Jobs.{LosesFinish}
use Rattle.world_parts.specs.declared.parts.Parts.{Parts}
use Rattle.world_parts.specs.Seen.{IsKept, seen}
use Rattle.world_parts.proofs.Adding.{few_acts}
use Rattle.world_rounds.proofs.Finishes.{callers, finished_kept, finished_so, may_finish, may_return, room_for_claim, taken_is}
use Rattle.world_rounds.proofs.Fronts.{cut_kept, cut_so, ends_within, front_left, front_same, may_write}
use Rattle.world_rounds.proofs.job_ends.ends.finish_on.Goals as goal

pub call_of-call-requires-clause-callers : goal.call_of-call-requires-clause-callers
call_of-call-requires-clause-callers c = subst (λ (ps : List JobOut). AllPairs AreOfTwoThreads ps) (sym c.deref.ensures.value) (callers c.args.p.now c.requires.kept c.requires.awake c.requires.out c.args.job c.requires.job.0 c.requires.job.1)

pub call_of-call-requires-clause-out : goal.call_of-call-requires-clause-out
call_of-call-requires-clause-out c =
    (c.requires.job.0, subst (λ (ps : List JobOut). In c.requires.job.0 ps) (sym c.deref.ensures.value) c.requires.job.1.there, sym (c.who-who.ensures ∙ c.requires.job.1.who))

pub finish_write-requires-clause-job : goal.finish_write-requires-clause-job
finish_write-requires-clause-job c = may_finish c.args.p.now c.requires.kept c.requires.awake c.requires.out c.args.job c.requires.job.0 c.requires.job.1 c.call_of-call.result.now (c.call_of-call.ensures c.requires.job.0 (subst (λ (ps : List JobOut). In c.requires.job.0 ps) (sym c.deref.ensures.value) c.requires.job.1.there) (sym (c.who-who.ensures ∙ c.requires.job.1.who)))

pub finish_write-requires-clause-room : goal.finish_write-requires-clause-room
finish_write-requires-clause-room c = room_for_claim c.args.p.now c.requires.kept c.requires.awake c.requires.out c.args.job c.requires.job.0 c.requires.job.1

pub write_front-requires-clause-can : goal.write_front-requires-clause-can
write_front-requires-clause-can c = may_write c.args.p.now c.requires.kept c.requires.awake c.requires.out c.args.job c.requires.job.0 c.requires.job.1 c.args.slot c.call_of-call.result.now (c.call_of-call.ensures c.requires.job.0 (subst (λ (ps : List JobOut). In c.requires.job.0 ps) (sym c.deref.ensures.value) c.requires.job.1.there) (sym (c.who-who.ensures ∙ c.requires.job.1.who))) c.draft.result.now c.draft.ensures.draft c.finish_write.new.k c.finish_write.new.tables c.finish_write.new.files c.finish_write.ensures.same c.finish_write.ensures.lands

pub write_front-requires-clause-ends : goal.write_front-requires-clause-ends
write_front-requires-clause-ends c = ends_within c.args.p.now c.requires.kept c.requires.awake c.requires.out c.args.job c.requires.job.0 c.requires.job.1 c.draft.result.now c.draft.ensures.draft

-- ---- the power went

pub cut_off-requires : goal.cut_off-requires
cut_off-requires c = few_acts c.args.p.now c.requires.kept

pub returns-in-PowerLost-clause-kept : goal.returns-in-PowerLost-clause-kept
returns-in-PowerLost-clause-kept c =
    let weak : c.args.p.now.mode ≢ Mode.Strict = (λ strict. (let never : Commit.PowerLost ≡ Commit.Done = (c.in-PowerLost.ensures.none strict).0 in cc)) in
    subst (λ (x : Parts). IsKept x) (sym c.cut_off.ensures)
    (cut_kept c.args.p.now c.requires.kept c.requires.awake c.requires.out c.args.job c.requires.job.0 c.requires.job.1 c.args.slot c.call_of-call.result.now (c.call_of-call.ensures c.requires.job.0 (subst (λ (ps : List JobOut). In c.requires.job.0 ps) (sym c.deref.ensures.value) c.requires.job.1.there) (sym (c.who-who.ensures ∙ c.requires.job.1.who))) c.draft.result.now c.draft.ensures.draft c.finish_write.new.k c.finish_write.new.tables c.finish_write.new.files c.finish_write.ensures.same c.finish_write.ensures.lands c.write_front.new.k
    weak (c.in-PowerLost.ensures.answer weak) c.finish_write.new.claims c.finish_write.ensures.claims c.finish_write.ensures.capacity)

pub returns-in-PowerLost-clause-finished : goal.returns-in-PowerLost-clause-finished
returns-in-PowerLost-clause-finished c q is =
    let weak : c.args.p.now.mode ≢ Mode.Strict = (λ strict. (let never : Commit.PowerLost ≡ Commit.Done = (c.in-PowerLost.ensures.none strict).0 in cc)) in
    subst (λ (x : Parts). LosesFinish c.args.slot q (seen c.args.p.now) (seen x) c.write_front.new.power) (sym c.cut_off.ensures)
    (cut_so c.args.p.now c.requires.kept c.requires.awake c.requires.out c.args.job q is c.args.slot c.call_of-call.result.now (c.call_of-call.ensures q (subst (λ (ps : List JobOut). In q ps) (sym c.deref.ensures.value) is.there) (sym (c.who-who.ensures ∙ is.who))) c.draft.result.now c.draft.ensures.draft c.finish_write.new.k c.finish_write.new.tables c.finish_write.new.files c.finish_write.ensures.same c.finish_write.ensures.lands c.write_front.new.k
    weak (c.in-PowerLost.ensures.answer weak) c.finish_write.new.claims c.finish_write.ensures.claims c.finish_write.ensures.capacity c.write_front.new.power c.in-PowerLost.ensures.paid)

-- ---- it is done

pub return_job-requires-clause-callers : goal.return_job-requires-clause-callers
return_job-requires-clause-callers c = callers c.args.p.now c.requires.kept c.requires.awake c.requires.out c.args.job c.requires.job.0 c.requires.job.1

pub return_job-requires-clause-out : goal.return_job-requires-clause-out
return_job-requires-clause-out c = (c.requires.job.0, c.requires.job.1.there, sym (c.who-who.ensures ∙ c.requires.job.1.who))

pub return_job-requires-clause-may : goal.return_job-requires-clause-may
return_job-requires-clause-may c =
    let may = may_return c.args.p.now c.requires.kept c.requires.awake c.requires.out c.args.job c.requires.job.0 c.requires.job.1 c.who-who.result c.who-who.ensures in
    record { caller = may.caller; few = may.few; room = may.room; one_act = may.one_act }

pub returns-in-Done-clause-kept : goal.returns-in-Done-clause-kept
returns-in-Done-clause-kept c =
    let back = c.return_job.ensures in
    let none = λ (strict : c.args.p.now.mode ≡ Mode.Strict). (c.in-Done.ensures.none strict).1 in
    finished_kept c.args.p.now c.requires.kept c.requires.awake c.requires.out c.args.job c.requires.job.0 c.requires.job.1 c.finished_writes_end_with_their_files.ensures.finished c.args.slot back.taken (taken_is c.args.p.now c.requires.kept c.requires.awake c.requires.out c.args.job c.requires.job.0 c.requires.job.1 back.taken back.was_out (back.own ∙ c.who-who.ensures))
    (answer (Reply.Count (length (put_bytes_of back.taken.call)))) refl c.write_front.new.k c.finish_write.new.tables c.finish_write.new.files c.finish_write.new.claims back.pending
    (back.left ∙ ap (λ (w : Who). without w c.args.p.now.pending.items) c.who-who.ensures)
    (front_same c.args.p.now c.requires.kept c.requires.awake c.requires.out c.args.job c.requires.job.0 c.requires.job.1 c.args.slot c.call_of-call.result.now (c.call_of-call.ensures c.requires.job.0 (subst (λ (ps : List JobOut). In c.requires.job.0 ps) (sym c.deref.ensures.value) c.requires.job.1.there) (sym (c.who-who.ensures ∙ c.requires.job.1.who))) c.draft.result.now c.draft.ensures.draft c.finish_write.new.k c.finish_write.new.tables c.finish_write.new.files c.finish_write.ensures.same c.finish_write.ensures.lands c.write_front.new.k none c.in-Done.ensures.answer)
    c.finish_write.ensures.claims c.finish_write.ensures.capacity
    (front_left c.args.p.now c.requires.kept c.requires.awake c.requires.out c.args.job c.requires.job.0 c.requires.job.1 c.args.slot c.call_of-call.result.now (c.call_of-call.ensures c.requires.job.0 (subst (λ (ps : List JobOut). In c.requires.job.0 ps) (sym c.deref.ensures.value) c.requires.job.1.there) (sym (c.who-who.ensures ∙ c.requires.job.1.who))) c.draft.result.now c.draft.ensures.draft c.finish_write.new.k c.finish_write.new.tables c.finish_write.new.files c.finish_write.ensures.same c.finish_write.ensures.lands c.write_front.new.k none c.in-Done.ensures.answer) c.return_job.new.p back.added

pub returns-in-Done-clause-finished : goal.returns-in-Done-clause-finished
returns-in-Done-clause-finished c q is =
    let back = c.return_job.ensures in
    let none = λ (strict : c.args.p.now.mode ≡ Mode.Strict). (c.in-Done.ensures.none strict).1 in
    finished_so c.args.p.now c.requires.kept c.requires.awake c.requires.out c.args.job q is c.finished_writes_end_with_their_files.ensures.finished c.args.slot back.taken (taken_is c.args.p.now c.requires.kept c.requires.awake c.requires.out c.args.job q is back.taken back.was_out (back.own ∙ c.who-who.ensures))
    (answer (Reply.Count (length (put_bytes_of back.taken.call)))) refl c.write_front.new.k c.finish_write.new.tables c.finish_write.new.files c.finish_write.new.claims back.pending
    (back.left ∙ ap (λ (w : Who). without w c.args.p.now.pending.items) c.who-who.ensures)
    (front_same c.args.p.now c.requires.kept c.requires.awake c.requires.out c.args.job q is c.args.slot c.call_of-call.result.now (c.call_of-call.ensures q (subst (λ (ps : List JobOut). In q ps) (sym c.deref.ensures.value) is.there) (sym (c.who-who.ensures ∙ is.who))) c.draft.result.now c.draft.ensures.draft c.finish_write.new.k c.finish_write.new.tables c.finish_write.new.files c.finish_write.ensures.same c.finish_write.ensures.lands c.write_front.new.k none c.in-Done.ensures.answer)
    c.finish_write.ensures.claims c.finish_write.ensures.capacity
    (front_left c.args.p.now c.requires.kept c.requires.awake c.requires.out c.args.job q is c.args.slot c.call_of-call.result.now (c.call_of-call.ensures q (subst (λ (ps : List JobOut). In q ps) (sym c.deref.ensures.value) is.there) (sym (c.who-who.ensures ∙ is.who))) c.draft.result.now c.draft.ensures.draft c.finish_write.new.k c.finish_write.new.tables c.finish_write.new.files c.finish_write.ensures.same c.finish_write.ensures.lands c.write_front.new.k none c.in-Done.ensures.answer) c.return_job.new.p back.added c.finish_write.ensures.lays c.write_front.new.power c.in-Done.ensures.paid
