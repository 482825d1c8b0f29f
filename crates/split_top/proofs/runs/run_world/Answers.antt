use Rattle.std.proofs.Common.{subst}
use Rattle.command_line.specs.Seen.{seen_options}
use Rattle.split_machine.specs.Runs.{IsRunEnded}
use Rattle.split_top.proofs.Endings.{ended_left, ran_ended}
use Rattle.split_top.proofs.runs.run_world.Goals as goal

pub read_back-requires : goal.read_back-requires
read_back-requires c =
    let w = c.args.world in
    let o = seen_options c.args.options.now in
    let ended = subst (λ order. IsRunEnded w order o.cut c.power_for-power.result c.run.new.power c.in_ok-ended.ended) c.in_ok-order.ensures c.in_ok-ended.ensures in
    (w.start, ended_left c.args.geometry c.requires.0 w o.order o.cut c.power_for-power.result c.run.new.power c.in_ok-ended.ended c.requires.1 ended)

pub returns-clause-ran : goal.returns-clause-ran
returns-clause-ran c task on =
    let w = c.args.world in
    let o = seen_options c.args.options.now in
    let ended = subst (λ order. IsRunEnded w order o.cut c.power_for-power.result c.run.new.power c.in_ok-ended.ended) c.in_ok-order.ensures c.in_ok-ended.ensures in
    ran_ended c.args.geometry task o w c.power_for-power.result c.run.new.power c.in_ok-ended.ended _ _ _ on c.power_for-power.ensures c.a_round_goes_beside.ensures.reaches ended c.in_ok-read_back.ensures.back
