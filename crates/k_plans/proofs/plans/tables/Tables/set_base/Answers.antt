use Rattle.k_plans.specs.contracts.plans.tables.Tables.{the_view}
use Rattle.k_plans.proofs.Bases.{base-plan, base-tables}
use Rattle.k_plans.proofs.plans.tables.Tables.set_base.Goals as goal

pub invariant_of-self : goal.invariant_of-self
invariant_of-self c = base-tables (the_view c.self.inside) c.args.base c.self.inside.pool c.self.inside.held c.self.invariant

pub returns-clause-plan : goal.returns-clause-plan
returns-clause-plan c =
    base-plan (the_view c.self.inside) c.args.base c.args.self.now c.args.batch.now c.put_base.new.batch c.self.view_is c.self.invariant.whole
    c.requires.empty c.put_base.ensures.some c.put_base.ensures.count c.put_base.ensures.turns c.requires.idle
