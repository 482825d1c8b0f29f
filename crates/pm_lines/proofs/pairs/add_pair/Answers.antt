use Rattle.std.proofs.lemmas.Grind.{common_steps}
use Rattle.std.proofs.Common.{arith}
use Rattle.pm_lines.proofs.pairs.add_pair.Goals as goal

pub returns-clause-adds : goal.returns-clause-adds
returns-clause-adds c = grind (arith, common_steps)
