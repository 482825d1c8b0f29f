use Rattle.oplog_tail.proofs.Leaving.{first_numbers}
use Rattle.oplog_tail.proofs.closing.claims_have_the_first_numbers.Goals as goal

pub returns : goal.returns
returns c = first_numbers
