-- what a commit asks for, and the blocks of one map
use Rattle.k_plans.specs.LandingLaws.{may-commit}
use Rattle.k_plans.specs.WrittenLaws.{unused-all, blocks_of-one}
use Rattle.k_plans.proofs.landings.laws.plans_can_be_landed.Goals as goal

pub returns-clause-ready : goal.returns-clause-ready
returns-clause-ready c = may-commit

pub returns-clause-blocks : goal.returns-clause-blocks
returns-clause-blocks c = blocks_of-one

pub returns-clause-unused : goal.returns-clause-unused
returns-clause-unused c = unused-all
