use Rattle.k_tables.specs.name_laws.KeptLaws.{kept-acyclic}
use Rattle.k_plans.proofs.Idles.{rmdir-not_idle}
use Rattle.k_plans.proofs.plans.tables.Tables.rmdir.Goals as goal

pub directory_to_remove-requires : goal.directory_to_remove-requires
directory_to_remove-requires c = kept-acyclic _ c.self.invariant.whole.kept.kept c.self.invariant.whole.kept.all

pub fault_of-requires : goal.fault_of-requires
fault_of-requires c = rmdir-not_idle _ c.args.path.now c.in-Err.refusal c.in-Err.ensures.answer
