use Rattle.std.proofs.Common.{sym, subst, refl}
use Rattle.std.specs.Prelude.{Ok}
use Rattle.posix_types.specs.declared.call.Call.{Call}
use Rattle.file_calls.specs.Answers.{IsEnded}
use Rattle.file_calls.specs.Gathers.{IsGatheredEnd}
use Rattle.file_calls.proofs.LookEnds.{dup_ends, dup_fault}
use Rattle.file_calls.proofs.names.opens.dup.Goals as goal

pub returns-in-Ok-clause-ended : goal.returns-in-Ok-clause-ended
returns-in-Ok-clause-ended c k f power on =
    subst (λ x. IsEnded c.args.who (Call.Dup c.args.handle c.args.to) k c.args.tables.now.tables f k c.dup.new.self.tables f power power (Ok x)) (sym c.answered.ensures)
    ((dup_ends c.args.who c.args.handle c.args.to k c.args.tables.now.tables c.dup.new.self.tables f c.in-Ok.descriptor c.in-Ok.ensures.known c.in-Ok.ensures.lowest c.in-Ok.ensures.ok).ended power on)

pub returns-in-Err-clause-ended : goal.returns-in-Err-clause-ended
returns-in-Err-clause-ended c k f power on =
    subst (λ x. IsEnded c.args.who (Call.Dup c.args.handle c.args.to) k c.args.tables.now.tables f k c.dup.new.self.tables f power power x) (sym c.after_open_fault.ensures)
    ((dup_fault c.args.who c.args.handle c.args.to k c.args.tables.now.tables c.dup.new.self.tables f c.args.tables.now c.in-Err.fault refl c.in-Err.ensures.err c.in-Err.ensures.cause).ended power on)

pub returns-in-Ok-clause-gathers : goal.returns-in-Ok-clause-gathers
returns-in-Ok-clause-gathers c k a f power on =
    subst (λ x. IsGatheredEnd c.args.who (Call.Dup c.args.handle c.args.to) k c.args.tables.now.tables a f k c.dup.new.self.tables a f power power (Ok x)) (sym c.answered.ensures)
    ((dup_ends c.args.who c.args.handle c.args.to k c.args.tables.now.tables c.dup.new.self.tables f c.in-Ok.descriptor c.in-Ok.ensures.known c.in-Ok.ensures.lowest c.in-Ok.ensures.ok).gathers a power on)

pub returns-in-Err-clause-gathers : goal.returns-in-Err-clause-gathers
returns-in-Err-clause-gathers c k a f power on =
    subst (λ x. IsGatheredEnd c.args.who (Call.Dup c.args.handle c.args.to) k c.args.tables.now.tables a f k c.dup.new.self.tables a f power power x) (sym c.after_open_fault.ensures)
    ((dup_fault c.args.who c.args.handle c.args.to k c.args.tables.now.tables c.dup.new.self.tables f c.args.tables.now c.in-Err.fault refl c.in-Err.ensures.err c.in-Err.ensures.cause).gathers a power on)
