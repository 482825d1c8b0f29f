use Rattle.world_rounds.proofs.Checking.{ending_of, gathers_within, ready_now}
use Rattle.world_parts.specs.Seen.{seen}
use Rattle.world_rounds.proofs.rounds.unmounts.gather_home.Goals as goal

pub put_log-requires-clause-lines : goal.put_log-requires-clause-lines
put_log-requires-clause-lines c = (c.the_lines_of_a_round_come_home.ensures.may c.args.p.now.k c.args.p.now.tables.tables c.args.p.now.staging c.args.p.now.files (seen c.args.p.now) c.args.lines.items c.requires.kept.world c.requires.awake c.requires.holds).lines_are

pub put_log-requires-clause-out : goal.put_log-requires-clause-out
put_log-requires-clause-out c = (c.the_lines_of_a_round_come_home.ensures.may c.args.p.now.k c.args.p.now.tables.tables c.args.p.now.staging c.args.p.now.files (seen c.args.p.now) c.args.lines.items c.requires.kept.world c.requires.awake c.requires.holds).out

pub gather-requires-clause-may : goal.gather-requires-clause-may
gather-requires-clause-may c on = (ready_now c.the_lines_of_a_round_come_home.ensures.ready c.args.p.now c.put_log.new.self c.args.lines.items c.requires.kept c.requires.awake c.requires.none_out c.requires.holds c.put_log.ensures.same c.is_lost-lost.ensures.order c.put_log.ensures.back c.put_log.ensures.home).may

pub gather-requires-clause-single : goal.gather-requires-clause-single
gather-requires-clause-single c on = (ready_now c.the_lines_of_a_round_come_home.ensures.ready c.args.p.now c.put_log.new.self c.args.lines.items c.requires.kept c.requires.awake c.requires.none_out c.requires.holds c.put_log.ensures.same c.is_lost-lost.ensures.order c.put_log.ensures.back c.put_log.ensures.home).single

pub gather-requires-clause-next : goal.gather-requires-clause-next
gather-requires-clause-next c on = (ready_now c.the_lines_of_a_round_come_home.ensures.ready c.args.p.now c.put_log.new.self c.args.lines.items c.requires.kept c.requires.awake c.requires.none_out c.requires.holds c.put_log.ensures.same c.is_lost-lost.ensures.order c.put_log.ensures.back c.put_log.ensures.home).next

pub returns-clause-steps : goal.returns-clause-steps
returns-clause-steps c = gathers_within c.the_lines_of_a_round_come_home.ensures.ready c.args.p.now c.put_log.new.self c.args.lines.items c.requires.kept c.requires.awake c.requires.none_out c.requires.holds c.put_log.ensures.same c.is_lost-lost.ensures.order c.put_log.ensures.back c.put_log.ensures.home c.args.power.now c.gather.new.power c.gather.ensures.steps

pub returns-clause-gathered : goal.returns-clause-gathered
returns-clause-gathered c = record {
  home = c.put_log.new.self;
  ending = ending_of c.the_lines_of_a_round_come_home.ensures.ready c.args.p.now c.put_log.new.self c.args.lines.items c.requires.kept c.requires.awake c.requires.none_out c.requires.holds c.put_log.ensures.same c.is_lost-lost.ensures.order c.put_log.ensures.back c.put_log.ensures.home;
  gathered = c.gather.ensures.answer;
}
