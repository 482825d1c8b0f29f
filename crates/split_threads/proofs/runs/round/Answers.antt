use Rattle.split_threads.proofs.Opened.{can_end, ends_as, few_backs, few_workers}
use Rattle.split_threads.proofs.runs.round.Goals as goal

pub work_round-requires-clause-few : goal.work_round-requires-clause-few
work_round-requires-clause-few g c κs within = few_workers c.requires.between.0 c.args.world c.args.stop c.args.power c.requires.between.1 c.in_ok-opened.opened c.in_ok-opened.ensures

pub work_round-requires-clause-new : goal.work_round-requires-clause-new
work_round-requires-clause-new g c κs within = (c.in_ok-opened.ensures.new, c.args.power, c.in_ok-opened.ensures.workers)

pub end_round-requires : goal.end_round-requires
end_round-requires g c =
    let is = c.in_ok-opened.ensures in
    let back = c.in-Ok.ensures.backs is.new c.args.power is.workers in
    let count = c.in-Ok.ensures.count in
    record {
      few = few_backs c.requires.between.0 c.args.world c.args.stop c.args.power c.requires.between.1 c.in_ok-opened.opened is c.in-Ok.backs.items count;
      can = (is.new, c.args.power, can_end c.requires.between.0 c.args.world c.args.stop c.args.power c.requires.between.1 c.in_ok-opened.opened is c.in-Ok.backs.items count back);
    }

pub returns : goal.returns
returns g c first between =
    let is = c.in_ok-opened.ensures in
    let back = c.in-Ok.ensures.backs is.new c.args.power is.workers in
    let count = c.in-Ok.ensures.count in
    ends_as first c.args.world c.args.stop c.args.power between c.in_ok-opened.opened is c.end_round.result
    (c.end_round.ensures is.new c.args.power (can_end first c.args.world c.args.stop c.args.power between c.in_ok-opened.opened is c.in-Ok.backs.items count back))
