use Rattle.std.proofs.Common.{◌≡◌, ◌∙◌, ap, ℕ, ◌+◌, ◌<◌, ◌^◌, Some, true, arith, inl, inr, refl, subst, sym}
use Rattle.std.specs.Prelude.{Result, Ok}
use Rattle.std.specs.declared.alloc.AllocError.{AllocError}
use Rattle.posix_types.specs.declared.call.Call.{Call}
use Rattle.posix_types.specs.declared.reply.Reply.{Reply}
use Rattle.posix_tables.specs.Outcomes.{answer}
use Rattle.call_laws.proofs.Staying.{bare_at_rest}
use Rattle.call_laws.specs.write_begin.declared.begins.beginning.WriteBegun.{WriteBegun}
use Rattle.call_laws.specs.write_begin.write_plan.Asks.{CanMoveBy, moved_by}
use Rattle.call_laws.specs.write_begin.write_plan.AsksLaws.{call_of}
use Rattle.world_parts.specs.Adds.{IsAdded}
use Rattle.world_parts.specs.Seen.{seen}
use Rattle.world_begins.specs.Turns.{IsTurn}
use Rattle.world_begins.proofs.Turning.{may_add, not_posix, one_act}
use Rattle.world_begins.proofs.Writing.{job_pushed, put_answered, put_began, put_ends, put_found, put_lost, put_may_move, put_over, put_written}
use Rattle.world_begins.proofs.turns.puts.begin_put.Goals as goal

pub needs_now-needs-requires : goal.needs_now-needs-requires
needs_now-needs-requires c = c.requires.turn

pub begin_write-requires-clause-mode : goal.begin_write-requires-clause-mode
begin_write-requires-clause-mode c = not_posix c.args.p.now c.args.who c.args.call c.requires.turn

pub begin_write-requires-clause-found : goal.begin_write-requires-clause-found
begin_write-requires-clause-found c = put_found c.args.p.now c.args.who c.in-Some.put.handle c.in-Some.put.at c.in-Some.put.bytes.now (subst (IsTurn c.args.p.now c.args.who) c.in-Some.ensures c.requires.turn) c.jobs_need_what_their_calls_do.ensures c.kept_numbers_are_those_of_the_state.ensures.lines c.needs_now-needs.result c.needs_now-needs.ensures

pub begin_write-requires-clause-ends : goal.begin_write-requires-clause-ends
begin_write-requires-clause-ends c = put_ends c.args.p.now c.args.who c.in-Some.put.handle c.in-Some.put.at c.in-Some.put.bytes.now (subst (IsTurn c.args.p.now c.args.who) c.in-Some.ensures c.requires.turn) c.jobs_need_what_their_calls_do.ensures c.kept_numbers_are_those_of_the_state.ensures.lines c.needs_now-needs.result c.needs_now-needs.ensures

pub begin_write-requires-clause-bare : goal.begin_write-requires-clause-bare
begin_write-requires-clause-bare c =
    bare_at_rest c.args.p.now.k c.args.p.now.tables.tables c.args.p.now.staging c.args.p.now.files (seen c.args.p.now) c.args.who (call_of c.in-Some.put.handle c.in-Some.put.at c.in-Some.put.bytes.now) (subst (IsTurn c.args.p.now c.args.who) c.in-Some.ensures c.requires.turn).calls

pub add-requires : goal.add-requires
add-requires c = may_add c.args.p.now c.args.who (call_of c.in-Some.put.handle c.in-Some.put.at c.in-Some.put.bytes.now) (subst (IsTurn c.args.p.now c.args.who) c.in-Some.ensures c.requires.turn) (record c.args.p.now { k = c.begin_write.new.k; staging = c.begin_write.new.staging; files = c.begin_write.new.files }) refl

pub overflow_add-p : goal.overflow_add-p
overflow_add-p c = let few : c.args.p.now.acts + 1 < 2 ^ 64 = one_act c.args.p.now c.args.who (call_of c.in-Some.put.handle c.in-Some.put.at c.in-Some.put.bytes.now) (subst (IsTurn c.args.p.now c.args.who) c.in-Some.ensures c.requires.turn) in omega (arith, few)

pub end_round-requires : goal.end_round-requires
end_round-requires c = one_act c.args.p.now c.args.who c.args.call c.requires.turn

pub lose_call-requires : goal.lose_call-requires
lose_call-requires c = one_act c.args.p.now c.args.who c.args.call c.requires.turn

pub returns-in-Ok-Answered-clause-kept : goal.returns-in-Ok-Answered-clause-kept
returns-in-Ok-Answered-clause-kept c usable =
    let begun = rw c.in-Ok-Answered.field-0-is at c.in-Ok-Answered.ensures.begun in
    let paid = rw c.in-Ok-Answered.field-0-is at c.in-Ok-Answered.ensures.paid in
    (put_answered c.args.p.now c.args.who c.in-Some.put.handle c.in-Some.put.at c.in-Some.put.bytes.now (subst (IsTurn c.args.p.now c.args.who) c.in-Some.ensures c.requires.turn) c.jobs_need_what_their_calls_do.ensures c.kept_numbers_are_those_of_the_state.ensures.lines c.needs_now-needs.result c.needs_now-needs.ensures c.begin_write.new.k c.begin_write.new.staging c.begin_write.new.files c.in-Ok-Answered.outcome begun.0 begun.1 begun.2 begun.3 c.add.new.p
    (subst (λ (x : Call). IsAdded c.args.who x c.in-Ok-Answered.outcome (record c.args.p.now { k = c.begin_write.new.k; staging = c.begin_write.new.staging; files = c.begin_write.new.files }) c.add.new.p) c.in-Some.ensures c.add.ensures) c.args.power.now c.begin_write.new.power paid).0

pub returns-in-Ok-Answered-clause-begun : goal.returns-in-Ok-Answered-clause-begun
returns-in-Ok-Answered-clause-begun c =
    let begun = rw c.in-Ok-Answered.field-0-is at c.in-Ok-Answered.ensures.begun in
    let paid = rw c.in-Ok-Answered.field-0-is at c.in-Ok-Answered.ensures.paid in
    (put_answered c.args.p.now c.args.who c.in-Some.put.handle c.in-Some.put.at c.in-Some.put.bytes.now (subst (IsTurn c.args.p.now c.args.who) c.in-Some.ensures c.requires.turn) c.jobs_need_what_their_calls_do.ensures c.kept_numbers_are_those_of_the_state.ensures.lines c.needs_now-needs.result c.needs_now-needs.ensures c.begin_write.new.k c.begin_write.new.staging c.begin_write.new.files c.in-Ok-Answered.outcome begun.0 begun.1 begun.2 begun.3 c.add.new.p
    (subst (λ (x : Call). IsAdded c.args.who x c.in-Ok-Answered.outcome (record c.args.p.now { k = c.begin_write.new.k; staging = c.begin_write.new.staging; files = c.begin_write.new.files }) c.add.new.p) c.in-Some.ensures c.add.ensures) c.args.power.now c.begin_write.new.power paid).1

pub add-requires-in-Ok-Written : goal.add-requires-in-Ok-Written
add-requires-in-Ok-Written c = may_add c.args.p.now c.args.who (call_of c.in-Some.put.handle c.in-Some.put.at c.in-Some.put.bytes.now) (subst (IsTurn c.args.p.now c.args.who) c.in-Some.ensures c.requires.turn) (record c.args.p.now { k = c.begin_write.new.k; tables = c.move_by.new.tables; staging = c.begin_write.new.staging; files = c.begin_write.new.files }) refl

pub move_by-requires : goal.move_by-requires
move_by-requires c =
    let begun = rw c.in-Ok-Written.field-0-is at c.in-Ok-Written.ensures.begun in
    let paid = rw c.in-Ok-Written.field-0-is at c.in-Ok-Written.ensures.paid in
    subst (λ (x : Call). CanMoveBy c.args.p.now.tables.tables c.begin_write.new.files c.args.who x) (sym c.in-Some.ensures)
    (put_may_move c.args.p.now c.args.who c.in-Some.put.handle c.in-Some.put.at c.in-Some.put.bytes.now (subst (IsTurn c.args.p.now c.args.who) c.in-Some.ensures c.requires.turn) c.jobs_need_what_their_calls_do.ensures c.kept_numbers_are_those_of_the_state.ensures.lines c.needs_now-needs.result c.needs_now-needs.ensures c.begin_write.new.k c.begin_write.new.staging c.begin_write.new.files (c.in-Ok-Written.ensures.keeps paid) begun)

pub returns-in-Ok-Written-clause-kept : goal.returns-in-Ok-Written-clause-kept
returns-in-Ok-Written-clause-kept c usable =
    let begun = rw c.in-Ok-Written.field-0-is at c.in-Ok-Written.ensures.begun in
    let paid = rw c.in-Ok-Written.field-0-is at c.in-Ok-Written.ensures.paid in
    let took = c.in-Ok-Written.ensures.took (ap (λ (b : WriteBegun). (let r : Result WriteBegun AllocError = Ok b in r)) c.in-Ok-Written.field-0-is) in
    let tables = subst (λ (x : Call). c.move_by.new.tables.tables ≡ moved_by c.args.p.now.tables.tables c.begin_write.new.files c.args.who x) c.in-Some.ensures c.move_by.ensures in
    let replied = c.answer-outcome.ensures ∙ ap (λ (n : ℕ). answer (Reply.Count n)) c.count_of.ensures in
    (put_written c.args.p.now c.args.who c.in-Some.put.handle c.in-Some.put.at c.in-Some.put.bytes.now (subst (IsTurn c.args.p.now c.args.who) c.in-Some.ensures c.requires.turn) c.jobs_need_what_their_calls_do.ensures c.kept_numbers_are_those_of_the_state.ensures.lines c.needs_now-needs.result c.needs_now-needs.ensures c.begin_write.new.k c.begin_write.new.staging c.begin_write.new.files (c.in-Ok-Written.ensures.keeps paid) begun (record c.args.p.now { tables = c.move_by.new.tables }) tables c.answer-outcome.result replied c.add-in-Ok-Written.new.p
    (subst (λ (x : Call). IsAdded c.args.who x c.answer-outcome.result (record c.args.p.now { k = c.begin_write.new.k; tables = c.move_by.new.tables; staging = c.begin_write.new.staging; files = c.begin_write.new.files }) c.add-in-Ok-Written.new.p) c.in-Some.ensures c.add-in-Ok-Written.ensures) c.args.power.now c.begin_write.new.power paid took).0

pub returns-in-Ok-Written-clause-begun : goal.returns-in-Ok-Written-clause-begun
returns-in-Ok-Written-clause-begun c =
    let begun = rw c.in-Ok-Written.field-0-is at c.in-Ok-Written.ensures.begun in
    let paid = rw c.in-Ok-Written.field-0-is at c.in-Ok-Written.ensures.paid in
    let took = c.in-Ok-Written.ensures.took (ap (λ (b : WriteBegun). (let r : Result WriteBegun AllocError = Ok b in r)) c.in-Ok-Written.field-0-is) in
    let tables = subst (λ (x : Call). c.move_by.new.tables.tables ≡ moved_by c.args.p.now.tables.tables c.begin_write.new.files c.args.who x) c.in-Some.ensures c.move_by.ensures in
    let replied = c.answer-outcome.ensures ∙ ap (λ (n : ℕ). answer (Reply.Count n)) c.count_of.ensures in
    (put_written c.args.p.now c.args.who c.in-Some.put.handle c.in-Some.put.at c.in-Some.put.bytes.now (subst (IsTurn c.args.p.now c.args.who) c.in-Some.ensures c.requires.turn) c.jobs_need_what_their_calls_do.ensures c.kept_numbers_are_those_of_the_state.ensures.lines c.needs_now-needs.result c.needs_now-needs.ensures c.begin_write.new.k c.begin_write.new.staging c.begin_write.new.files (c.in-Ok-Written.ensures.keeps paid) begun (record c.args.p.now { tables = c.move_by.new.tables }) tables c.answer-outcome.result replied c.add-in-Ok-Written.new.p
    (subst (λ (x : Call). IsAdded c.args.who x c.answer-outcome.result (record c.args.p.now { k = c.begin_write.new.k; tables = c.move_by.new.tables; staging = c.begin_write.new.staging; files = c.begin_write.new.files }) c.add-in-Ok-Written.new.p) c.in-Some.ensures c.add-in-Ok-Written.ensures) c.args.power.now c.begin_write.new.power paid took).1

pub returns-in-Ok-Job-clause-kept : goal.returns-in-Ok-Job-clause-kept
returns-in-Ok-Job-clause-kept c usable =
    let begun = rw c.in-Ok-Job.field-0-is at c.in-Ok-Job.ensures.begun in
    let paid = rw c.in-Ok-Job.field-0-is at c.in-Ok-Job.ensures.paid in
    (put_began c.args.p.now c.args.who c.in-Some.put.handle c.in-Some.put.at c.in-Some.put.bytes.now (subst (IsTurn c.args.p.now c.args.who) c.in-Some.ensures c.requires.turn) c.jobs_need_what_their_calls_do.ensures c.kept_numbers_are_those_of_the_state.ensures.lines c.needs_now-needs.result c.needs_now-needs.ensures c.begin_write.new.k c.begin_write.new.staging c.begin_write.new.files (c.in-Ok-Job.ensures.keeps paid) c.in-Ok-Job.job c.in-Ok-Job.blocks.items begun (record c.args.p.now { k = c.begin_write.new.k; staging = c.begin_write.new.staging; files = c.begin_write.new.files; pending = c.push_reserved.new.self; acts = c.args.p.now.acts + 1 }) refl
    (job_pushed c.args.p.now.pending.items c.push_reserved.new.self.items c.args.who c.args.call (call_of c.in-Some.put.handle c.in-Some.put.at c.in-Some.put.bytes.now) c.draft-draft.result.now c.in-Ok-Job.job.draft c.in-Ok-Job.blocks.items c.in-Some.ensures c.draft-draft.ensures.draft c.push_reserved.ensures.items) c.begin_write.new.power paid).0

pub returns-in-Ok-Job-clause-begun : goal.returns-in-Ok-Job-clause-begun
returns-in-Ok-Job-clause-begun c =
    let begun = rw c.in-Ok-Job.field-0-is at c.in-Ok-Job.ensures.begun in
    let paid = rw c.in-Ok-Job.field-0-is at c.in-Ok-Job.ensures.paid in
    (put_began c.args.p.now c.args.who c.in-Some.put.handle c.in-Some.put.at c.in-Some.put.bytes.now (subst (IsTurn c.args.p.now c.args.who) c.in-Some.ensures c.requires.turn) c.jobs_need_what_their_calls_do.ensures c.kept_numbers_are_those_of_the_state.ensures.lines c.needs_now-needs.result c.needs_now-needs.ensures c.begin_write.new.k c.begin_write.new.staging c.begin_write.new.files (c.in-Ok-Job.ensures.keeps paid) c.in-Ok-Job.job c.in-Ok-Job.blocks.items begun (record c.args.p.now { k = c.begin_write.new.k; staging = c.begin_write.new.staging; files = c.begin_write.new.files; pending = c.push_reserved.new.self; acts = c.args.p.now.acts + 1 }) refl
    (job_pushed c.args.p.now.pending.items c.push_reserved.new.self.items c.args.who c.args.call (call_of c.in-Some.put.handle c.in-Some.put.at c.in-Some.put.bytes.now) c.draft-draft.result.now c.in-Ok-Job.job.draft c.in-Ok-Job.blocks.items c.in-Some.ensures c.draft-draft.ensures.draft c.push_reserved.ensures.items) c.begin_write.new.power paid).1

pub returns-in-Ok-RoundOver-clause-kept : goal.returns-in-Ok-RoundOver-clause-kept
returns-in-Ok-RoundOver-clause-kept c usable =
    let begun = rw c.in-Ok-RoundOver.field-0-is at c.in-Ok-RoundOver.ensures.begun in
    let paid = rw c.in-Ok-RoundOver.field-0-is at c.in-Ok-RoundOver.ensures.paid in
    (put_over c.args.p.now c.args.who c.in-Some.put.handle c.in-Some.put.at c.in-Some.put.bytes.now (subst (IsTurn c.args.p.now c.args.who) c.in-Some.ensures c.requires.turn) c.jobs_need_what_their_calls_do.ensures c.kept_numbers_are_those_of_the_state.ensures.lines c.needs_now-needs.result c.needs_now-needs.ensures c.begin_write.new.k c.begin_write.new.staging c.begin_write.new.files (c.in-Ok-RoundOver.ensures.keeps paid) c.in-Ok-RoundOver.need c.in-Ok-RoundOver.room begun c.end_round.new.p c.end_round.ensures c.begin_write.new.power paid).0

pub returns-in-Ok-RoundOver-clause-begun : goal.returns-in-Ok-RoundOver-clause-begun
returns-in-Ok-RoundOver-clause-begun c =
    let begun = rw c.in-Ok-RoundOver.field-0-is at c.in-Ok-RoundOver.ensures.begun in
    let paid = rw c.in-Ok-RoundOver.field-0-is at c.in-Ok-RoundOver.ensures.paid in
    inr (put_over c.args.p.now c.args.who c.in-Some.put.handle c.in-Some.put.at c.in-Some.put.bytes.now (subst (IsTurn c.args.p.now c.args.who) c.in-Some.ensures c.requires.turn) c.jobs_need_what_their_calls_do.ensures c.kept_numbers_are_those_of_the_state.ensures.lines c.needs_now-needs.result c.needs_now-needs.ensures c.begin_write.new.k c.begin_write.new.staging c.begin_write.new.files (c.in-Ok-RoundOver.ensures.keeps paid) c.in-Ok-RoundOver.need c.in-Ok-RoundOver.room begun c.end_round.new.p c.end_round.ensures c.begin_write.new.power paid).1

pub returns-in-Ok-PowerLost-clause-kept : goal.returns-in-Ok-PowerLost-clause-kept
returns-in-Ok-PowerLost-clause-kept c usable =
    let begun = rw c.in-Ok-PowerLost.field-0-is at c.in-Ok-PowerLost.ensures.begun in
    let paid = rw c.in-Ok-PowerLost.field-0-is at c.in-Ok-PowerLost.ensures.paid in
    (put_lost c.args.p.now c.args.who c.in-Some.put.handle c.in-Some.put.at c.in-Some.put.bytes.now (subst (IsTurn c.args.p.now c.args.who) c.in-Some.ensures c.requires.turn) c.jobs_need_what_their_calls_do.ensures c.kept_numbers_are_those_of_the_state.ensures.lines c.needs_now-needs.result c.needs_now-needs.ensures c.begin_write.new.k c.begin_write.new.staging c.begin_write.new.files begun c.lose_call.new.p (subst (λ (x : Call). c.lose_call.new.p ≡ record (record c.args.p.now { k = c.begin_write.new.k; staging = c.begin_write.new.staging; files = c.begin_write.new.files }) { unfinished = Some (record { who = c.args.who; call = x }); acts = c.args.p.now.acts + 1; lost = true }) c.in-Some.ensures c.lose_call.ensures) c.begin_write.new.power paid).0

pub returns-in-Ok-PowerLost-clause-begun : goal.returns-in-Ok-PowerLost-clause-begun
returns-in-Ok-PowerLost-clause-begun c =
    let begun = rw c.in-Ok-PowerLost.field-0-is at c.in-Ok-PowerLost.ensures.begun in
    let paid = rw c.in-Ok-PowerLost.field-0-is at c.in-Ok-PowerLost.ensures.paid in
    inr (inl ((put_lost c.args.p.now c.args.who c.in-Some.put.handle c.in-Some.put.at c.in-Some.put.bytes.now (subst (IsTurn c.args.p.now c.args.who) c.in-Some.ensures c.requires.turn) c.jobs_need_what_their_calls_do.ensures c.kept_numbers_are_those_of_the_state.ensures.lines c.needs_now-needs.result c.needs_now-needs.ensures c.begin_write.new.k c.begin_write.new.staging c.begin_write.new.files begun c.lose_call.new.p (subst (λ (x : Call). c.lose_call.new.p ≡ record (record c.args.p.now { k = c.begin_write.new.k; staging = c.begin_write.new.staging; files = c.begin_write.new.files }) { unfinished = Some (record { who = c.args.who; call = x }); acts = c.args.p.now.acts + 1; lost = true }) c.in-Some.ensures c.lose_call.ensures) c.begin_write.new.power paid).1, inr (call_of c.in-Some.put.handle c.in-Some.put.at c.in-Some.put.bytes.now, (subst (IsTurn c.args.p.now c.args.who) c.in-Some.ensures c.requires.turn).calls.begins)))

pub returns-in-Err-clause-begun : goal.returns-in-Err-clause-begun
returns-in-Err-clause-begun c = inl (record { awake = (subst (IsTurn c.args.p.now c.args.who) c.in-Some.ensures c.requires.turn).calls.begins.awake; on = c.in-Err.ensures.paid; new_is = refl })

pub unreachable-requires : goal.unreachable-requires
unreachable-requires c = c.requires.puts c.in_default.ensures
