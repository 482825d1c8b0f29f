use Rattle.std.proofs.Common.{refl}
use Rattle.open_files.specs.posix_spec.FileRows.{truncate_rows, write_rows}
use Rattle.write_plan.proofs.rows.the_rows_are_those_of_the_calls.Goals as goal

pub returns-clause-writes : goal.returns-clause-writes
unfolding write_rows
returns-clause-writes c s who h start x = refl

pub returns-clause-truncates : goal.returns-clause-truncates
unfolding truncate_rows
returns-clause-truncates c s who h n = refl
