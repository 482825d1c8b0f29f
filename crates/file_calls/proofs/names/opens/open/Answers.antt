use Rattle.std.proofs.Common.{sym, subst}
use Rattle.std.specs.Prelude.{Ok}
use Rattle.posix_types.specs.declared.call.Call.{Call}
use Rattle.file_calls.specs.Answers.{IsEnded}
use Rattle.file_calls.proofs.OpenEnds.{missing_at, open_lost}
use Rattle.file_calls.proofs.names.opens.open.Goals as goal

pub open_missing-requires-clause-on : goal.open_missing-requires-clause-on
open_missing-requires-clause-on c = c.requires.runs.runs.on

pub open_missing-requires-clause-missing : goal.open_missing-requires-clause-missing
open_missing-requires-clause-missing c = missing_at c.args.k.now.volume c.args.path.now c.in-Err.field-0 c.in-Ok-directory_of.field-0 c.in-Err.ensures c.in-Ok-directory_of.ensures

pub returns-in-Err-directory_of-clause-ended : goal.returns-in-Err-directory_of-clause-ended
returns-in-Err-directory_of-clause-ended c =
    subst (λ x. IsEnded c.args.who (Call.Open c.args.handle c.args.path.now c.args.flags) c.args.k.now c.args.tables.now.tables c.args.files.now c.args.k.now c.args.tables.now.tables c.args.files.now c.args.power.now c.args.power.now (Ok x)) (sym c.answered.ensures)
    ((open_lost c.args.who c.args.handle c.args.path.now c.args.flags c.args.k.now c.args.tables.now.tables c.args.files.now c.in-Err-directory_of.errno c.in-Err-directory_of.ensures).ended c.args.power.now c.requires.power)

pub returns-in-Ok-directory_of-clause-ended : goal.returns-in-Ok-directory_of-clause-ended
returns-in-Ok-directory_of-clause-ended c = c.open_missing.ensures.ended c.requires.runs.runs.unbatched c.args.files.now

pub returns-in-Ok-directory_of-clause-ends : goal.returns-in-Ok-directory_of-clause-ends
returns-in-Ok-directory_of-clause-ends c = c.open_missing.ensures.ends c.args.files.now c.requires.runs
