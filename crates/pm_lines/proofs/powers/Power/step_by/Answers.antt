use Rattle.std.proofs.Common.{rules}
use Rattle.pm_lines.proofs.powers.Power.step_by.Goals as goal

pub overflow_add-self : goal.overflow_add-self
overflow_add-self c = search rules
