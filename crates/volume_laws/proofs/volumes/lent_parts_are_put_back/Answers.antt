-- the laws of the definitions
use Rattle.volume_laws.specs.LoanLaws.{put_back-lent, put_back-settled}
use Rattle.volume_laws.proofs.volumes.lent_parts_are_put_back.Goals as goal

pub returns-clause-lent : goal.returns-clause-lent
returns-clause-lent c = put_back-lent

pub returns-clause-back : goal.returns-clause-back
returns-clause-back c = put_back-settled
