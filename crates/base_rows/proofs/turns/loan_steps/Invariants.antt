use Rattle.std.proofs.Common.{◌≡◌}
use Rattle.base_rows.proofs.turns.loan_steps.Given as goal

abbrev pub invariant-loop-step : goal.invariant-loop-step
invariant-loop-step l = l.loan.place ≡ l.fn.loan.place
