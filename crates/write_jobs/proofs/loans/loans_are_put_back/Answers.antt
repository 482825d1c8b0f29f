use Rattle.write_jobs.proofs.SettleLaws.{puts_back}
use Rattle.write_jobs.proofs.loans.loans_are_put_back.Goals as goal

pub returns : goal.returns
returns c = puts_back
