use Rattle.std.proofs.Common.{◌≡◌, sym, subst, ap, ◌∙◌}
use Rattle.std.specs.Prelude.{Ok, Some, false}
use Rattle.posix_types.specs.declared.call.Call.{Call}
use Rattle.open_files.specs.posix_tables.Open.{free_descriptor, with_opened}
use Rattle.file_calls.specs.Answers.{IsEnded, told_of}
use Rattle.live_step_laws.specs.k_plans.Making.{IsMade}
use Rattle.live_step_laws.specs.k_split.Names.{make_row}
use Rattle.file_calls.proofs.Ends.{fault_ends, make_ends}
use Rattle.file_calls.proofs.OpenCalls.{created_ended, created_fault, opening_of}
use Rattle.file_calls.specs.Gathers.{IsGatheredEnd}
use Rattle.file_calls.proofs.GatheredOpens.{created_gathered, created_gathered_fault}
use Rattle.file_calls.proofs.OpenEnds.{clear_flag, open_missing_full, open_missing_stays, set_flag}
use Rattle.file_calls.proofs.names.opens.open_missing.Goals as goal

pub returns-then-not-flags-clause-ended : goal.returns-then-not-flags-clause-ended
returns-then-not-flags-clause-ended c unbatched f =
    subst (λ x. IsEnded c.args.who (Call.Open c.args.handle c.args.path.now c.args.flags) c.args.k.now c.args.tables.now.tables f c.args.k.now c.args.tables.now.tables f c.args.power.now c.args.power.now (Ok x)) (sym c.answered.ensures)
    ((open_missing_stays c.args.who c.args.handle c.args.path.now c.args.flags c.args.k.now c.args.tables.now.tables f c.requires.missing (clear_flag c.args.flags.create c.if-not-flags.true)).ended c.args.power.now c.requires.power)

pub returns-then-is_full-clause-ended : goal.returns-then-is_full-clause-ended
returns-then-is_full-clause-ended c unbatched f =
    subst (λ x. IsEnded c.args.who (Call.Open c.args.handle c.args.path.now c.args.flags) c.args.k.now c.args.tables.now.tables f c.args.k.now c.args.tables.now.tables f c.args.power.now c.args.power.now (Ok x)) (sym c.answered-then-is_full.ensures)
    ((open_missing_full c.args.who c.args.handle c.args.path.now c.args.flags c.args.k.now c.args.tables.now.tables f c.requires.missing (set_flag c.args.flags.create c.if-not-flags.false) (sym c.is_full.ensures ∙ c.if-is_full.true)).ended c.args.power.now c.requires.power)

pub returns-in-Ok-open-clause-ended : goal.returns-in-Ok-open-clause-ended
returns-in-Ok-open-clause-ended c unbatched f =
    let t = c.args.tables.now.tables in
    let free = subst (λ x. free_descriptor x ≡ Some c.in-Ok-open.descriptor) c.reserve.ensures.tables c.in-Ok-open.ensures.lowest in
    let opened = c.in-Ok-open.ensures.ok ∙ ap (λ x. with_opened x c.args.who c.args.handle (opening_of c.in-Ok.ino c.args.flags)) c.reserve.ensures.tables in
    subst (λ x. IsEnded c.args.who (Call.Open c.args.handle c.args.path.now c.args.flags) c.args.k.now t f c.make.new.self c.open.new.self.tables f c.args.power.now c.make.new.power (Ok x)) (sym c.answered-in-Ok-open.ensures)
    (created_ended c.args.who c.args.handle c.args.path.now c.args.flags c.args.k.now t f c.requires.spelled c.requires.missing (set_flag c.args.flags.create c.if-not-flags.false) (sym c.is_full.ensures ∙ c.if-is_full.false)
    c.make.new.self c.open.new.self.tables c.in-Ok.ino c.in-Ok-open.descriptor c.args.power.now c.make.new.power (c.in-Ok.ensures.answer unbatched, (c.in-Ok.ensures.paid unbatched)) free opened)

pub returns-in-Err-clause-ended : goal.returns-in-Err-clause-ended
returns-in-Err-clause-ended c unbatched f =
    let t = c.args.tables.now.tables in
    subst (λ x. IsEnded c.args.who (Call.Open c.args.handle c.args.path.now c.args.flags) c.args.k.now t f c.make.new.self c.reserve.new.self.tables f c.args.power.now c.make.new.power x) (sym c.after_fault.ensures)
    (subst (λ x. IsEnded c.args.who (Call.Open c.args.handle c.args.path.now c.args.flags) c.args.k.now t f c.make.new.self x f c.args.power.now c.make.new.power (told_of c.in-Err.fault)) (sym c.reserve.ensures.tables)
    (created_fault c.args.who c.args.handle c.args.path.now c.args.flags c.args.k.now t f c.requires.spelled c.requires.missing (set_flag c.args.flags.create c.if-not-flags.false) (sym c.is_full.ensures ∙ c.if-is_full.false)
    c.make.new.self c.args.power.now c.make.new.power c.in-Err.fault (c.in-Err.ensures.answer unbatched, (c.in-Err.ensures.paid unbatched))))

pub returns-in-Ok-open-clause-ends : goal.returns-in-Ok-open-clause-ends
returns-in-Ok-open-clause-ends c f some = make_ends false c.args.path.now c.args.k.now c.make.new.self c.args.tables.now.tables f c.make.new.power c.in-Ok.ino some (c.in-Ok.ensures.answer some.runs.unbatched)

pub returns-in-Err-clause-ends : goal.returns-in-Err-clause-ends
returns-in-Err-clause-ends c f some =
    fault_ends (make_row c.args.path.now c.args.k.now) (λ ino w. IsMade false c.args.path.now c.args.k.now.volume w ino) c.args.k.now c.make.new.self f c.args.power.now c.make.new.power c.in-Err.fault (c.in-Err.ensures.answer some.runs.unbatched, (c.in-Err.ensures.paid some.runs.unbatched))

pub returns-then-not-flags-clause-gathers : goal.returns-then-not-flags-clause-gathers
returns-then-not-flags-clause-gathers c batched a f =
    subst (λ x. IsGatheredEnd c.args.who (Call.Open c.args.handle c.args.path.now c.args.flags) c.args.k.now c.args.tables.now.tables a f c.args.k.now c.args.tables.now.tables a f c.args.power.now c.args.power.now (Ok x)) (sym c.answered.ensures)
    ((open_missing_stays c.args.who c.args.handle c.args.path.now c.args.flags c.args.k.now c.args.tables.now.tables f c.requires.missing (clear_flag c.args.flags.create c.if-not-flags.true)).gathers a c.args.power.now c.requires.power)

pub returns-then-is_full-clause-gathers : goal.returns-then-is_full-clause-gathers
returns-then-is_full-clause-gathers c batched a f =
    subst (λ x. IsGatheredEnd c.args.who (Call.Open c.args.handle c.args.path.now c.args.flags) c.args.k.now c.args.tables.now.tables a f c.args.k.now c.args.tables.now.tables a f c.args.power.now c.args.power.now (Ok x)) (sym c.answered-then-is_full.ensures)
    ((open_missing_full c.args.who c.args.handle c.args.path.now c.args.flags c.args.k.now c.args.tables.now.tables f c.requires.missing (set_flag c.args.flags.create c.if-not-flags.false) (sym c.is_full.ensures ∙ c.if-is_full.true)).gathers a c.args.power.now c.requires.power)

pub returns-in-Ok-open-clause-gathers : goal.returns-in-Ok-open-clause-gathers
returns-in-Ok-open-clause-gathers c batched a f =
    let t = c.args.tables.now.tables in
    let free = subst (λ x. free_descriptor x ≡ Some c.in-Ok-open.descriptor) c.reserve.ensures.tables c.in-Ok-open.ensures.lowest in
    let opened = c.in-Ok-open.ensures.ok ∙ ap (λ x. with_opened x c.args.who c.args.handle (opening_of c.in-Ok.ino c.args.flags)) c.reserve.ensures.tables in
    subst (λ x. IsGatheredEnd c.args.who (Call.Open c.args.handle c.args.path.now c.args.flags) c.args.k.now t a f c.make.new.self c.open.new.self.tables a f c.args.power.now c.make.new.power (Ok x)) (sym c.answered-in-Ok-open.ensures)
    (created_gathered c.args.who c.args.handle c.args.path.now c.args.flags c.args.k.now t a f c.requires.missing c.make.new.self c.args.power.now c.make.new.power c.requires.spelled (set_flag c.args.flags.create c.if-not-flags.false) (sym c.is_full.ensures ∙ c.if-is_full.false)
    c.in-Ok.ino c.in-Ok-open.descriptor c.open.new.self.tables (c.in-Ok.ensures.gathers batched, c.in-Ok.ensures.powered batched) free opened)

pub returns-in-Err-clause-gathers : goal.returns-in-Err-clause-gathers
returns-in-Err-clause-gathers c batched a f =
    let t = c.args.tables.now.tables in
    subst (λ x. IsGatheredEnd c.args.who (Call.Open c.args.handle c.args.path.now c.args.flags) c.args.k.now t a f c.make.new.self c.reserve.new.self.tables a f c.args.power.now c.make.new.power x) (sym c.after_fault.ensures)
    (subst (λ x. IsGatheredEnd c.args.who (Call.Open c.args.handle c.args.path.now c.args.flags) c.args.k.now t a f c.make.new.self x a f c.args.power.now c.make.new.power (told_of c.in-Err.fault)) (sym c.reserve.ensures.tables)
    (created_gathered_fault c.args.who c.args.handle c.args.path.now c.args.flags c.args.k.now t a f c.requires.missing c.make.new.self c.args.power.now c.make.new.power c.requires.spelled (set_flag c.args.flags.create c.if-not-flags.false) (sym c.is_full.ensures ∙ c.if-is_full.false)
    c.in-Err.fault (c.in-Err.ensures.gathers batched, c.in-Err.ensures.powered batched)))
