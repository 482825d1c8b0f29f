use Rattle.std.proofs.Common.{sym, subst, inr, refl, ◌∙◌}
use Rattle.std.specs.Prelude.{Ok, Some, Option, Result, ℕ}
use Rattle.posix_types.specs.declared.call.Call.{Call}
use Rattle.live_step_laws.specs.k_split.declared.faults.KFault.{KFault}
use Rattle.live_step_laws.specs.k_split.Answers.{IsPaid}
use Rattle.live_step_laws.specs.k_split.Names.{IsRenameAnswer, rename_row}
use Rattle.file_calls.specs.Answers.{IsEnded}
use Rattle.live_step_laws.specs.k_plans.Renaming.{IsRenamed}
use Rattle.file_calls.proofs.Ends.{ends_then, fault_ends, rename_ends}
use Rattle.file_calls.proofs.NameCalls.{rename_done, took, twice_as_many}
use Rattle.file_calls.proofs.Halves.{loans_done, over_file, rename_fault, rename_half, rename_line, rename_file, rename_replies}
use Rattle.live_step_laws.specs.pm_model.PowerLaws.{Steps-then}
use Rattle.file_calls.proofs.names.names.rename.Goals as goal

pub returns-in-Ok-None-clause-ended : goal.returns-in-Ok-None-clause-ended
returns-in-Ok-None-clause-ended c who =
    let p = c.args.path.now in
    let q = c.args.to.now in
    let t = c.args.tables.now.tables in
    let f = c.args.files.now in
    let answer_is = subst (λ o. (let r : Result (Option ℕ) KFault = Ok o in IsRenameAnswer p q c.args.k.now c.rename.new.self r)) c.in-Ok-None.field-0-is (c.in-Ok-None.ensures.answer c.requires.runs.runs.unbatched) in
    let paid = subst (λ o. (let r : Result (Option ℕ) KFault = Ok o in IsPaid (rename_row p q c.args.k.now) c.args.power.now c.rename.new.power r)) c.in-Ok-None.field-0-is (c.in-Ok-None.ensures.paid c.requires.runs.runs.unbatched) in
    subst (λ x. IsEnded who (Call.Rename p q) c.args.k.now t f c.rename.new.self t f c.args.power.now c.rename.new.power (Ok x)) (sym c.answered.ensures)
    (rename_done who p q c.args.k.now c.rename.new.self t f c.args.power.now c.rename.new.power c.requires.spelled (answer_is, paid))

pub sweep-requires-clause-file : goal.sweep-requires-clause-file
sweep-requires-clause-file c =
    let p = c.args.path.now in
    let q = c.args.to.now in
    let answer_is = subst (λ o. (let r : Result (Option ℕ) KFault = Ok o in IsRenameAnswer p q c.args.k.now c.rename.new.self r)) c.in-Ok-Some.field-0-is (c.in-Ok-Some.ensures.answer c.requires.runs.runs.unbatched) in
    rename_file p q c.args.k.now c.args.tables.now.tables c.args.files.now c.requires.runs c.rename.new.self c.in-Ok-Some.ino answer_is

pub sweep-requires-clause-line : goal.sweep-requires-clause-line
sweep-requires-clause-line c =
    let p = c.args.path.now in
    let q = c.args.to.now in
    let answer_is = subst (λ o. (let r : Result (Option ℕ) KFault = Ok o in IsRenameAnswer p q c.args.k.now c.rename.new.self r)) c.in-Ok-Some.field-0-is (c.in-Ok-Some.ensures.answer c.requires.runs.runs.unbatched) in
    rename_line p q c.args.k.now c.args.tables.now.tables c.args.files.now c.requires.runs c.rename.new.self c.in-Ok-Some.ino answer_is

pub returns-in-Ok-Some-clause-ended : goal.returns-in-Ok-Some-clause-ended
returns-in-Ok-Some-clause-ended c who =
    let p = c.args.path.now in
    let q = c.args.to.now in
    let k = c.args.k.now in
    let t = c.args.tables.now.tables in
    let f = c.args.files.now in
    let answer_is = subst (λ o. (let r : Result (Option ℕ) KFault = Ok o in IsRenameAnswer p q k c.rename.new.self r)) c.in-Ok-Some.field-0-is (c.in-Ok-Some.ensures.answer c.requires.runs.runs.unbatched) in
    let paid = subst (λ o. (let r : Result (Option ℕ) KFault = Ok o in IsPaid (rename_row p q k) c.args.power.now c.rename.new.power r)) c.in-Ok-Some.field-0-is (c.in-Ok-Some.ensures.paid c.requires.runs.runs.unbatched) in
    let over = over_file p q k c.rename.new.self c.in-Ok-Some.ino answer_is in
    let taken = took (rename_row p q k) c.args.power.now c.rename.new.power (Some c.in-Ok-Some.ino) over.0 paid in
    c.sweep.ensures.ended who (Call.Rename p q) k t c.args.power.now
    (rename_half who p q k t f c.requires.spelled c.rename.new.self c.in-Ok-Some.ino over) (rename_replies who p q k t f c.requires.spelled c.rename.new.self c.in-Ok-Some.ino over)
    (λ g x n s runs. inr taken.1) taken.0 (λ s. refl) (loans_done k c.rename.new.self over.2)

pub returns-in-Err-clause-ended : goal.returns-in-Err-clause-ended
returns-in-Err-clause-ended c who =
    let t = c.args.tables.now.tables in
    let f = c.args.files.now in
    subst (λ x. IsEnded who (Call.Rename c.args.path.now c.args.to.now) c.args.k.now t f c.rename.new.self t f c.args.power.now c.rename.new.power x) (sym c.after_fault.ensures)
    (rename_fault who c.args.path.now c.args.to.now c.args.k.now t f c.requires.spelled c.rename.new.self c.args.power.now c.rename.new.power c.in-Err.fault (c.in-Err.ensures.answer c.requires.runs.runs.unbatched, (c.in-Err.ensures.paid c.requires.runs.runs.unbatched)))

pub returns-in-Ok-None-clause-ends : goal.returns-in-Ok-None-clause-ends
returns-in-Ok-None-clause-ends c on = rename_ends c.args.path.now c.args.to.now c.args.k.now c.rename.new.self c.args.files.now c.in-Ok-None.field-0 (c.in-Ok-None.ensures.answer c.requires.runs.runs.unbatched)

pub returns-in-Ok-Some-clause-ends : goal.returns-in-Ok-Some-clause-ends
returns-in-Ok-Some-clause-ends c =
    ends_then c.args.k.now c.rename.new.self c.sweep.new.k c.args.files.now c.args.files.now c.sweep.new.files c.sweep.new.power (rename_ends c.args.path.now c.args.to.now c.args.k.now c.rename.new.self c.args.files.now c.in-Ok-Some.field-0 (c.in-Ok-Some.ensures.answer c.requires.runs.runs.unbatched)) c.sweep.ensures.ends

pub returns-in-Err-clause-ends : goal.returns-in-Err-clause-ends
returns-in-Err-clause-ends c =
    fault_ends (rename_row c.args.path.now c.args.to.now c.args.k.now) (λ (l : Option ℕ) w. IsRenamed c.args.path.now c.args.to.now c.args.k.now.volume w l) c.args.k.now c.rename.new.self c.args.files.now c.args.power.now c.rename.new.power c.in-Err.fault (c.in-Err.ensures.answer c.requires.runs.runs.unbatched, (c.in-Err.ensures.paid c.requires.runs.runs.unbatched))

pub sweep-requires-clause-unbatched : goal.sweep-requires-clause-unbatched
sweep-requires-clause-unbatched c =
    let p = c.args.path.now in
    let q = c.args.to.now in
    let unbatched = c.requires.runs.runs.unbatched in
    let answer_is = subst (λ o. (let r : Result (Option ℕ) KFault = Ok o in IsRenameAnswer p q c.args.k.now c.rename.new.self r)) c.in-Ok-Some.field-0-is (c.in-Ok-Some.ensures.answer unbatched) in
    (over_file p q c.args.k.now c.rename.new.self c.in-Ok-Some.ino answer_is).2.batched ∙ unbatched

pub returns-in-Ok-None-clause-steps : goal.returns-in-Ok-None-clause-steps
returns-in-Ok-None-clause-steps c = twice_as_many c.args.power.now c.rename.new.power (c.in-Ok-None.ensures.steps c.requires.runs.runs.unbatched)

pub returns-in-Ok-Some-clause-steps : goal.returns-in-Ok-Some-clause-steps
returns-in-Ok-Some-clause-steps c = Steps-then 256 256 c.args.power.now c.rename.new.power c.sweep.new.power (c.in-Ok-Some.ensures.steps c.requires.runs.runs.unbatched) c.sweep.ensures.steps

pub returns-in-Err-clause-steps : goal.returns-in-Err-clause-steps
returns-in-Err-clause-steps c = twice_as_many c.args.power.now c.rename.new.power (c.in-Err.ensures.steps c.requires.runs.runs.unbatched)
