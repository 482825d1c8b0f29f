use Rattle.std.proofs.Common.{refl}
use Rattle.split_cases.specs.Rows.{rows}
use Rattle.split_cases.proofs.worked.rows.Goals as goal

pub returns : goal.returns
unfolding rows
returns c = refl
