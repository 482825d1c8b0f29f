use Rattle.write_end.proofs.Ended.{comes_home_alone, finishes_lost, gives_up_lost}
use Rattle.write_end.proofs.losing.jobs_end_after_a_loss.Goals as goal

pub returns-clause-finished : goal.returns-clause-finished
returns-clause-finished c = finishes_lost

pub returns-clause-given_up : goal.returns-clause-given_up
returns-clause-given_up c = gives_up_lost

pub returns-clause-alone : goal.returns-clause-alone
returns-clause-alone c = comes_home_alone
