use Rattle.std.proofs.Common.{sym, subst, ap, ◌∙◌}
use Rattle.std.specs.Prelude.{Ok, option_map}
use Rattle.open_files.specs.Found.{description_in}
use Rattle.posix_types.specs.declared.call.Call.{Call}
use Rattle.file_calls.specs.Answers.{IsEnded}
use Rattle.file_calls.proofs.ReadEnds.{sync_ended, sync_unknown}
use Rattle.file_calls.proofs.calls.reads.fsync.Goals as goal

pub returns-in-None : goal.returns-in-None
returns-in-None c k f power on =
    let t = c.args.tables.now.tables in
    let none = c.find.ensures.description ∙ ap (option_map description_in) c.in-None.is in
    subst (λ x. IsEnded c.args.who (Call.Fsync c.args.handle) k t f k t f power power (Ok x)) (sym c.answered.ensures) (sync_unknown c.args.who c.args.handle k t f power on none)

pub returns-in-Some : goal.returns-in-Some
returns-in-Some c k f power on =
    let t = c.args.tables.now.tables in
    let known = c.find.ensures.description ∙ ap (option_map description_in) c.in-Some.is in
    subst (λ x. IsEnded c.args.who (Call.Fsync c.args.handle) k t f k t f power power (Ok x)) (sym c.answered-in-Some.ensures) (sync_ended c.args.who c.args.handle k t f power on (description_in c.in-Some.field-0) known)
