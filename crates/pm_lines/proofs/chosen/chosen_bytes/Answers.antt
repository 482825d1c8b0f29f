use Rattle.std.proofs.Common.{arith}
use Rattle.std.proofs.lemmas.Grind.{common_steps}
use Rattle.pm_lines.proofs.chosen.chosen_bytes.Goals as goal

pub returns-in-Even-clause-words : goal.returns-in-Even-clause-words
returns-in-Even-clause-words c = grind (arith, common_steps)
