use Rattle.std.proofs.Common.{rules}
use Rattle.k_plans.proofs.plans.making.set_name.Goals as goal

pub returns-then-is_err-clause-no_lines : goal.returns-then-is_err-clause-no_lines
returns-then-is_err-clause-no_lines c = search rules

pub returns-then-is_err-clause-same : goal.returns-then-is_err-clause-same
returns-then-is_err-clause-same c = search rules
