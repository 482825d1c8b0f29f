use Rattle.std.proofs.Common.{sym, subst}
use Rattle.std.specs.Prelude.{Ok}
use Rattle.posix_types.specs.declared.call.Call.{Call}
use Rattle.file_calls.specs.Answers.{IsEnded}
use Rattle.file_calls.specs.Gathers.{IsGatheredEnd}
use Rattle.file_calls.proofs.LookEnds.{list_fault, names_listed}
use Rattle.file_calls.proofs.names.looks.list.Goals as goal

pub returns-in-Ok-clause-ended : goal.returns-in-Ok-clause-ended
returns-in-Ok-clause-ended c who t f power on =
    subst (λ x. IsEnded who (Call.List c.args.path.now) c.args.k.now t f c.args.k.now t f power power (Ok x)) (sym c.answered.ensures)
    ((names_listed who c.args.path.now c.args.k.now t f c.in-Ok.names.items c.in-Ok.ensures.names).ended power on)

pub returns-in-Err-clause-ended : goal.returns-in-Err-clause-ended
returns-in-Err-clause-ended c who t f power on =
    subst (λ x. IsEnded who (Call.List c.args.path.now) c.args.k.now t f c.args.k.now t f power power x) (sym c.after_fault.ensures)
    ((list_fault who c.args.path.now c.args.k.now t f c.in-Err.fault c.in-Err.ensures.refused).ended power on)

pub returns-in-Ok-clause-gathers : goal.returns-in-Ok-clause-gathers
returns-in-Ok-clause-gathers c who t a f power on =
    subst (λ x. IsGatheredEnd who (Call.List c.args.path.now) c.args.k.now t a f c.args.k.now t a f power power (Ok x)) (sym c.answered.ensures)
    ((names_listed who c.args.path.now c.args.k.now t f c.in-Ok.names.items c.in-Ok.ensures.names).gathers a power on)

pub returns-in-Err-clause-gathers : goal.returns-in-Err-clause-gathers
returns-in-Err-clause-gathers c who t a f power on =
    subst (λ x. IsGatheredEnd who (Call.List c.args.path.now) c.args.k.now t a f c.args.k.now t a f power power x) (sym c.after_fault.ensures)
    ((list_fault who c.args.path.now c.args.k.now t f c.in-Err.fault c.in-Err.ensures.refused).gathers a power on)
