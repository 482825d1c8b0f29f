use Rattle.std.proofs.Common.{sym, subst}
use Rattle.std.specs.Prelude.{Ok, true}
use Rattle.posix_types.specs.declared.call.Call.{Call}
use Rattle.file_calls.specs.Answers.{IsEnded}
use Rattle.file_calls.specs.Gathers.{IsGatheredEnd}
use Rattle.live_step_laws.specs.k_plans.Making.{IsMade}
use Rattle.live_step_laws.specs.k_split.Names.{make_row}
use Rattle.file_calls.proofs.Ends.{fault_ends, make_ends}
use Rattle.file_calls.proofs.Gathered.{mkdir_gathered, mkdir_gathered_fault}
use Rattle.file_calls.proofs.NameCalls.{mkdir_done, mkdir_fault}
use Rattle.file_calls.proofs.names.names.mkdir.Goals as goal

pub returns-in-Ok-clause-ended : goal.returns-in-Ok-clause-ended
returns-in-Ok-clause-ended c unbatched who t f =
    subst (λ x. IsEnded who (Call.Mkdir c.args.path.now) c.args.k.now t f c.make.new.self t f c.args.power.now c.make.new.power (Ok x)) (sym c.answered.ensures)
    (mkdir_done who c.args.path.now c.args.k.now c.make.new.self t f c.args.power.now c.make.new.power c.requires.spelled c.in-Ok.field-0 (c.in-Ok.ensures.answer unbatched, (c.in-Ok.ensures.paid unbatched)))

pub returns-in-Err-clause-ended : goal.returns-in-Err-clause-ended
returns-in-Err-clause-ended c unbatched who t f =
    subst (λ x. IsEnded who (Call.Mkdir c.args.path.now) c.args.k.now t f c.make.new.self t f c.args.power.now c.make.new.power x) (sym c.after_fault.ensures)
    (mkdir_fault who c.args.path.now c.args.k.now c.make.new.self t f c.args.power.now c.make.new.power c.requires.spelled c.in-Err.fault (c.in-Err.ensures.answer unbatched, (c.in-Err.ensures.paid unbatched)))

pub returns-in-Ok-clause-ends : goal.returns-in-Ok-clause-ends
returns-in-Ok-clause-ends c t f some = make_ends true c.args.path.now c.args.k.now c.make.new.self t f c.make.new.power c.in-Ok.field-0 some (c.in-Ok.ensures.answer some.runs.unbatched)

pub returns-in-Err-clause-ends : goal.returns-in-Err-clause-ends
returns-in-Err-clause-ends c t f some =
    fault_ends (make_row c.args.path.now c.args.k.now) (λ ino w. IsMade true c.args.path.now c.args.k.now.volume w ino) c.args.k.now c.make.new.self f c.args.power.now c.make.new.power c.in-Err.fault (c.in-Err.ensures.answer some.runs.unbatched, (c.in-Err.ensures.paid some.runs.unbatched))

pub returns-in-Ok-clause-gathers : goal.returns-in-Ok-clause-gathers
returns-in-Ok-clause-gathers c batched who t a f =
    subst (λ x. IsGatheredEnd who (Call.Mkdir c.args.path.now) c.args.k.now t a f c.make.new.self t a f c.args.power.now c.make.new.power (Ok x)) (sym c.answered.ensures)
    (mkdir_gathered who c.args.path.now c.args.k.now c.make.new.self t a f c.args.power.now c.make.new.power c.requires.spelled c.in-Ok.field-0 (c.in-Ok.ensures.gathers batched, c.in-Ok.ensures.powered batched))

pub returns-in-Err-clause-gathers : goal.returns-in-Err-clause-gathers
returns-in-Err-clause-gathers c batched who t a f =
    subst (λ x. IsGatheredEnd who (Call.Mkdir c.args.path.now) c.args.k.now t a f c.make.new.self t a f c.args.power.now c.make.new.power x) (sym c.after_fault.ensures)
    (mkdir_gathered_fault who c.args.path.now c.args.k.now c.make.new.self t a f c.args.power.now c.make.new.power c.requires.spelled c.in-Err.fault (c.in-Err.ensures.gathers batched, c.in-Err.ensures.powered batched))
