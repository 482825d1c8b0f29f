use Rattle.world_step_laws.specs.NameTables.{NamesStand-freed, NamesStand-gone, NamesStand-made, NamesStand-moved}
use Rattle.world_step_laws.proofs.steps.names_agree_after_a_change.Goals as goal

pub returns-clause-freed : goal.returns-clause-freed
returns-clause-freed c = NamesStand-freed

pub returns-clause-moved : goal.returns-clause-moved
returns-clause-moved c = NamesStand-moved

pub returns-clause-made : goal.returns-clause-made
returns-clause-made c = NamesStand-made

pub returns-clause-gone : goal.returns-clause-gone
returns-clause-gone c = NamesStand-gone
