use Rattle.std.proofs.Common.{sym, subst}
use Rattle.std.specs.Prelude.{Ok}
use Rattle.posix_types.specs.declared.call.Call.{Call}
use Rattle.file_calls.specs.Answers.{IsEnded}
use Rattle.file_calls.specs.Gathers.{IsGatheredEnd}
use Rattle.live_step_laws.specs.k_plans.Removing.{IsRemoved}
use Rattle.live_step_laws.specs.k_split.Names.{rmdir_row}
use Rattle.file_calls.proofs.Ends.{fault_ends, rmdir_ends}
use Rattle.file_calls.proofs.Gathered.{rmdir_gathered, rmdir_gathered_fault}
use Rattle.file_calls.proofs.NameCalls.{rmdir_done, rmdir_fault}
use Rattle.file_calls.proofs.names.names.rmdir.Goals as goal

pub returns-in-Ok-clause-ended : goal.returns-in-Ok-clause-ended
returns-in-Ok-clause-ended c unbatched who t f =
    subst (λ x. IsEnded who (Call.Rmdir c.args.path.now) c.args.k.now t f c.rmdir.new.self t f c.args.power.now c.rmdir.new.power (Ok x)) (sym c.answered.ensures)
    (rmdir_done who c.args.path.now c.args.k.now c.rmdir.new.self t f c.args.power.now c.rmdir.new.power (c.in-Ok.ensures.answer unbatched, (c.in-Ok.ensures.paid unbatched)))

pub returns-in-Err-clause-ended : goal.returns-in-Err-clause-ended
returns-in-Err-clause-ended c unbatched who t f =
    subst (λ x. IsEnded who (Call.Rmdir c.args.path.now) c.args.k.now t f c.rmdir.new.self t f c.args.power.now c.rmdir.new.power x) (sym c.after_fault.ensures)
    (rmdir_fault who c.args.path.now c.args.k.now c.rmdir.new.self t f c.args.power.now c.rmdir.new.power c.in-Err.fault (c.in-Err.ensures.answer unbatched, (c.in-Err.ensures.paid unbatched)))

pub returns-in-Ok-clause-ends : goal.returns-in-Ok-clause-ends
returns-in-Ok-clause-ends c unbatched f = rmdir_ends c.args.path.now c.args.k.now c.rmdir.new.self f c.rmdir.new.power (c.in-Ok.ensures.answer unbatched)

pub returns-in-Err-clause-ends : goal.returns-in-Err-clause-ends
returns-in-Err-clause-ends c unbatched f =
    fault_ends (rmdir_row c.args.path.now c.args.k.now) (λ done w. IsRemoved c.args.path.now c.args.k.now.volume w) c.args.k.now c.rmdir.new.self f c.args.power.now c.rmdir.new.power c.in-Err.fault (c.in-Err.ensures.answer unbatched, (c.in-Err.ensures.paid unbatched))

pub returns-in-Ok-clause-gathers : goal.returns-in-Ok-clause-gathers
returns-in-Ok-clause-gathers c batched who t a f =
    subst (λ x. IsGatheredEnd who (Call.Rmdir c.args.path.now) c.args.k.now t a f c.rmdir.new.self t a f c.args.power.now c.rmdir.new.power (Ok x)) (sym c.answered.ensures)
    (rmdir_gathered who c.args.path.now c.args.k.now c.rmdir.new.self t a f c.args.power.now c.rmdir.new.power (c.in-Ok.ensures.gathers batched, c.in-Ok.ensures.powered batched))

pub returns-in-Err-clause-gathers : goal.returns-in-Err-clause-gathers
returns-in-Err-clause-gathers c batched who t a f =
    subst (λ x. IsGatheredEnd who (Call.Rmdir c.args.path.now) c.args.k.now t a f c.rmdir.new.self t a f c.args.power.now c.rmdir.new.power x) (sym c.after_fault.ensures)
    (rmdir_gathered_fault who c.args.path.now c.args.k.now c.rmdir.new.self t a f c.args.power.now c.rmdir.new.power c.in-Err.fault (c.in-Err.ensures.gathers batched, c.in-Err.ensures.powered batched))
