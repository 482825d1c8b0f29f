use Rattle.k_plans.proofs.Idles.{mkdir-not_idle}
use Rattle.k_plans.proofs.plans.tables.Tables.make.Goals as goal

pub fault_of-requires : goal.fault_of-requires
fault_of-requires c = mkdir-not_idle _ c.args.path.now c.in-Err.refusal c.in-Err.ensures.answer
