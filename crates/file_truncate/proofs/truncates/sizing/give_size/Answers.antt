use Rattle.file_truncate.proofs.Given.{paid_later}
use Rattle.file_truncate.proofs.truncates.sizing.give_size.Goals as goal

pub returns-in-Done-clause-paid : goal.returns-in-Done-clause-paid
returns-in-Done-clause-paid c = paid_later 577 c.args.power.now c.clean_end.new.power c.set_now.new.power c.in-Done.ensures.steps c.set_now.result c.set_now.ensures.paid
