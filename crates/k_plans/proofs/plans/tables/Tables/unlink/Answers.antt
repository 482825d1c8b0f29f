use Rattle.k_plans.proofs.Idles.{unlink-not_idle}
use Rattle.k_plans.proofs.plans.tables.Tables.unlink.Goals as goal

pub fault_of-requires : goal.fault_of-requires
fault_of-requires c = unlink-not_idle _ c.args.path.now c.in-Err.refusal c.in-Err.ensures.answer
