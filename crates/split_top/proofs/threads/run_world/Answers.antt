use Rattle.command_line.specs.Seen.{seen_options}
use Rattle.split_top.proofs.ThreadEnds.{first_is, thread_left, thread_ran}
use Rattle.split_top.proofs.threads.run_world.Goals as goal

pub run-requires-clause-first : goal.run-requires-clause-first
run-requires-clause-first g c κs within = first_is c.args.world c.requires.begins.1.first

pub read_back-requires : goal.read_back-requires
read_back-requires g c = (c.args.world.start, thread_left c.args.geometry c.requires.begins.0 c.args.world c.requires.begins.1 c.args.options.now.stop c.in_ok-ended.ended c.in_ok-ended.ensures)

pub returns-clause-ran : goal.returns-clause-ran
returns-clause-ran g c task on =
    thread_ran c.args.geometry task c.args.world on (seen_options c.args.options.now) c.in_ok-ended.ended _ _ _ c.in_ok-ended.ensures c.in_ok-read_back.ensures.back
