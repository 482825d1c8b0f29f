use Rattle.std.proofs.Common.{arith, Ok, subst}
use Rattle.world_parts.specs.k_journal.declared.outcomes.Commit.{Commit}
use Rattle.world_parts.specs.log_checkpoint.Gathers.{IsGatherAnswer}
use Rattle.world_parts.proofs.Adding.{few_acts}
use Rattle.world_rounds.proofs.Checking.{ending_of, gathers_within, inside_kept, next_answer, next_base_fits, next_kept, ready_now}
use Rattle.world_parts.specs.Seen.{seen}
use Rattle.world_rounds.proofs.rounds.rounds.end_lines.Goals as goal

pub put_log-requires-clause-lines : goal.put_log-requires-clause-lines
put_log-requires-clause-lines c =
    (c.the_lines_of_a_round_come_home.ensures.may c.args.p.now.k c.args.p.now.tables.tables c.args.p.now.staging c.args.p.now.files (seen c.args.p.now) c.args.lines.items c.requires.kept.world c.requires.awake c.requires.may.lines_are).lines_are

pub put_log-requires-clause-out : goal.put_log-requires-clause-out
put_log-requires-clause-out c =
    (c.the_lines_of_a_round_come_home.ensures.may c.args.p.now.k c.args.p.now.tables.tables c.args.p.now.staging c.args.p.now.files (seen c.args.p.now) c.args.lines.items c.requires.kept.world c.requires.awake c.requires.may.lines_are).out

pub gather-requires-clause-may : goal.gather-requires-clause-may
gather-requires-clause-may c on =
    (ready_now c.the_lines_of_a_round_come_home.ensures.ready c.args.p.now c.put_log.new.self c.args.lines.items c.requires.kept c.requires.awake c.requires.may.none_out c.requires.may.lines_are c.put_log.ensures.same c.is_lost-lost.ensures.order c.put_log.ensures.back c.put_log.ensures.home).may

pub gather-requires-clause-single : goal.gather-requires-clause-single
gather-requires-clause-single c on =
    (ready_now c.the_lines_of_a_round_come_home.ensures.ready c.args.p.now c.put_log.new.self c.args.lines.items c.requires.kept c.requires.awake c.requires.may.none_out c.requires.may.lines_are c.put_log.ensures.same c.is_lost-lost.ensures.order c.put_log.ensures.back c.put_log.ensures.home).single

pub gather-requires-clause-next : goal.gather-requires-clause-next
gather-requires-clause-next c on =
    (ready_now c.the_lines_of_a_round_come_home.ensures.ready c.args.p.now c.put_log.new.self c.args.lines.items c.requires.kept c.requires.awake c.requires.may.none_out c.requires.may.lines_are c.put_log.ensures.same c.is_lost-lost.ensures.order c.put_log.ensures.back c.put_log.ensures.home).next

pub overflow_add-p : goal.overflow_add-p
overflow_add-p c = omega (arith, few_acts c.args.p.now c.requires.kept)

pub go_on-requires-clause-base : goal.go_on-requires-clause-base
go_on-requires-clause-base c =
    next_base_fits c.the_lines_of_a_round_come_home.ensures.ready c.args.p.now c.put_log.new.self c.args.lines.items c.requires.kept c.requires.awake c.requires.may.none_out c.requires.may.lines_are c.put_log.ensures.same c.is_lost-lost.ensures.order c.put_log.ensures.back c.put_log.ensures.home

pub go_on-requires-clause-acts : goal.go_on-requires-clause-acts
go_on-requires-clause-acts c = few_acts c.args.p.now c.requires.kept

pub returns-in-Err-clause-steps : goal.returns-in-Err-clause-steps
returns-in-Err-clause-steps c =
    gathers_within c.the_lines_of_a_round_come_home.ensures.ready c.args.p.now c.put_log.new.self c.args.lines.items c.requires.kept c.requires.awake c.requires.may.none_out c.requires.may.lines_are c.put_log.ensures.same c.is_lost-lost.ensures.order c.put_log.ensures.back c.put_log.ensures.home
    c.args.power.now c.gather.new.power c.gather.ensures.steps

pub returns-in-Ok-PowerLost-clause-steps : goal.returns-in-Ok-PowerLost-clause-steps
returns-in-Ok-PowerLost-clause-steps c =
    gathers_within c.the_lines_of_a_round_come_home.ensures.ready c.args.p.now c.put_log.new.self c.args.lines.items c.requires.kept c.requires.awake c.requires.may.none_out c.requires.may.lines_are c.put_log.ensures.same c.is_lost-lost.ensures.order c.put_log.ensures.back c.put_log.ensures.home
    c.args.power.now c.gather.new.power c.gather.ensures.steps

pub returns-in-Ok-Done-clause-steps : goal.returns-in-Ok-Done-clause-steps
returns-in-Ok-Done-clause-steps c =
    gathers_within c.the_lines_of_a_round_come_home.ensures.ready c.args.p.now c.put_log.new.self c.args.lines.items c.requires.kept c.requires.awake c.requires.may.none_out c.requires.may.lines_are c.put_log.ensures.same c.is_lost-lost.ensures.order c.put_log.ensures.back c.put_log.ensures.home
    c.args.power.now c.gather.new.power c.gather.ensures.steps

pub returns-in-Ok-PowerLost-clause-kept : goal.returns-in-Ok-PowerLost-clause-kept
returns-in-Ok-PowerLost-clause-kept c usable =
    inside_kept c.a_checkpoint_ends_a_round.ensures.inside c.args.p.now c.put_log.new.self c.gather.new.k c.gather.new.staging c.gather.new.files c.args.lines.items c.requires.kept
    (ending_of c.the_lines_of_a_round_come_home.ensures.ready c.args.p.now c.put_log.new.self c.args.lines.items c.requires.kept c.requires.awake c.requires.may.none_out c.requires.may.lines_are c.put_log.ensures.same c.is_lost-lost.ensures.order c.put_log.ensures.back c.put_log.ensures.home)
    (subst (λ (commit : Commit). IsGatherAnswer c.args.p.now.files c.put_log.new.self c.gather.new.staging c.gather.new.files c.gather.new.k (Ok commit)) c.in-Ok-PowerLost.field-0-is c.in-Ok-PowerLost.ensures.answer)

pub returns-in-Ok-Done-clause-kept : goal.returns-in-Ok-Done-clause-kept
returns-in-Ok-Done-clause-kept c usable =
    next_kept c.a_checkpoint_ends_a_round.ensures.done c.a_checkpoint_ends_a_round.ensures.applied c.args.p.now c.go_on.new.p c.put_log.new.self c.gather.new.k c.gather.new.staging c.gather.new.files c.args.lines.items c.requires.kept c.requires.may
    (ending_of c.the_lines_of_a_round_come_home.ensures.ready c.args.p.now c.put_log.new.self c.args.lines.items c.requires.kept c.requires.awake c.requires.may.none_out c.requires.may.lines_are c.put_log.ensures.same c.is_lost-lost.ensures.order c.put_log.ensures.back c.put_log.ensures.home)
    (subst (λ (commit : Commit). IsGatherAnswer c.args.p.now.files c.put_log.new.self c.gather.new.staging c.gather.new.files c.gather.new.k (Ok commit)) c.in-Ok-Done.field-0-is c.in-Ok-Done.ensures.answer)
    c.go_on.ensures.claims c.go_on.ensures.none c.go_on.ensures.next

pub returns-in-Ok-Done-clause-answer : goal.returns-in-Ok-Done-clause-answer
returns-in-Ok-Done-clause-answer c =
    let paid = rw c.in-Ok-Done.field-0-is at c.in-Ok-Done.ensures.paid in
    next_answer c.a_checkpoint_ends_a_round.ensures.done c.a_checkpoint_ends_a_round.ensures.applied c.args.p.now c.go_on.new.p c.put_log.new.self c.gather.new.k c.gather.new.staging c.gather.new.files c.args.lines.items c.requires.kept c.requires.may
    (ending_of c.the_lines_of_a_round_come_home.ensures.ready c.args.p.now c.put_log.new.self c.args.lines.items c.requires.kept c.requires.awake c.requires.may.none_out c.requires.may.lines_are c.put_log.ensures.same c.is_lost-lost.ensures.order c.put_log.ensures.back c.put_log.ensures.home)
    (subst (λ (commit : Commit). IsGatherAnswer c.args.p.now.files c.put_log.new.self c.gather.new.staging c.gather.new.files c.gather.new.k (Ok commit)) c.in-Ok-Done.field-0-is c.in-Ok-Done.ensures.answer)
    c.go_on.ensures.claims c.go_on.ensures.none c.go_on.ensures.next c.gather.new.power paid
