use Rattle.k_tables.specs.name_laws.KeptLaws.{kept-acyclic}
use Rattle.k_plans.proofs.plans.tables.Tables.rename.Goals as goal

pub entries_to_rename-requires : goal.entries_to_rename-requires
entries_to_rename-requires c = kept-acyclic _ c.self.invariant.whole.kept.kept c.self.invariant.whole.kept.all
