use Rattle.std.proofs.Common.{rules}
use Rattle.pm_lines.proofs.loans.Loan.write_lines.Goals as goal

pub returns-clause-done : goal.returns-clause-done
returns-clause-done c = search rules
