use Rattle.k_plans.specs.WholeLaws.{whole-read}
use Rattle.k_plans.proofs.FreeCounts.{unwaiting-counted}
use Rattle.k_plans.proofs.plans.tables.tables_begin_with_what_is_read.Goals as goal

pub returns-clause-whole : goal.returns-clause-whole
returns-clause-whole c = whole-read

pub returns-clause-free : goal.returns-clause-free
returns-clause-free c = unwaiting-counted
