-- the laws of the definitions
use Rattle.volume_laws.specs.LoanLaws.{all_read-lent, all_read-settled}
use Rattle.volume_laws.proofs.volumes.lent_blocks_are_not_read.Goals as goal

pub returns-clause-lent : goal.returns-clause-lent
returns-clause-lent c = all_read-lent

pub returns-clause-back : goal.returns-clause-back
returns-clause-back c = all_read-settled
