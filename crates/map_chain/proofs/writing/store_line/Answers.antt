use Rattle.std.proofs.Common.{rules}
use Rattle.map_chain.proofs.writing.store_line.Goals as goal

pub returns-clause-others : goal.returns-clause-others
returns-clause-others c = search rules

pub returns-clause-done : goal.returns-clause-done
returns-clause-done c = search rules

pub returns-clause-lent : goal.returns-clause-lent
returns-clause-lent c = search rules
