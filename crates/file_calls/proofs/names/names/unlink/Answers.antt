use Rattle.std.proofs.Common.{◌≡◌, sym, subst, ◌∙◌, refl}
use Rattle.std.specs.Prelude.{true, false}
use Rattle.posix_types.specs.declared.call.Call.{Call}
use Rattle.file_calls.specs.Answers.{IsEnded}
use Rattle.live_step_laws.specs.k_plans.Removing.{IsUnlinked}
use Rattle.live_step_laws.specs.k_split.Names.{unlink_row}
use Rattle.file_calls.proofs.Ends.{ends_then, fault_ends, unlink_ends}
use Rattle.file_calls.proofs.Halves.{loans_done, unlink_fault, unlink_half, unlink_line, unlink_file, unlink_replies, unlink_spent}
use Rattle.file_calls.proofs.NameCalls.{twice_as_many}
use Rattle.live_step_laws.specs.pm_model.PowerLaws.{Steps-then}
use Rattle.file_calls.proofs.names.names.unlink.Goals as goal

pub unlink-requires : goal.unlink-requires
unlink-requires c = record { awake = λ lost. (let never : true ≡ false = sym lost ∙ c.requires.runs.runs.on in cc) }

pub sweep-requires-clause-on : goal.sweep-requires-clause-on
sweep-requires-clause-on c = (c.in-Ok.ensures.answer c.requires.runs.runs.unbatched).2.kept_on

pub sweep-requires-clause-file : goal.sweep-requires-clause-file
sweep-requires-clause-file c = unlink_file c.args.path.now c.args.k.now c.args.tables.now.tables c.args.files.now c.requires.runs c.unlink.new.self c.in-Ok.ino (c.in-Ok.ensures.answer c.requires.runs.runs.unbatched)

pub sweep-requires-clause-line : goal.sweep-requires-clause-line
sweep-requires-clause-line c = unlink_line c.args.path.now c.args.k.now c.args.tables.now.tables c.args.files.now c.requires.runs c.unlink.new.self c.in-Ok.ino (c.in-Ok.ensures.answer c.requires.runs.runs.unbatched)

pub returns-in-Ok-clause-ended : goal.returns-in-Ok-clause-ended
returns-in-Ok-clause-ended c who =
    let k = c.args.k.now in
    let t = c.args.tables.now.tables in
    let f = c.args.files.now in
    let spent = unlink_spent who c.args.path.now k t f c.unlink.new.self c.in-Ok.ino c.args.power.now c.unlink.new.power (c.in-Ok.ensures.answer c.requires.runs.runs.unbatched, (c.in-Ok.ensures.paid c.requires.runs.runs.unbatched)) in
    c.sweep.ensures.ended who (Call.Unlink c.args.path.now) k t c.args.power.now (unlink_half who c.args.path.now k t f c.unlink.new.self c.in-Ok.ino (c.in-Ok.ensures.answer c.requires.runs.runs.unbatched))
    (unlink_replies who c.args.path.now k t f c.unlink.new.self c.in-Ok.ino (c.in-Ok.ensures.answer c.requires.runs.runs.unbatched)) spent.0 spent.1 (λ s. refl) (loans_done k c.unlink.new.self (c.in-Ok.ensures.answer c.requires.runs.runs.unbatched).2)

pub returns-in-Err-clause-ended : goal.returns-in-Err-clause-ended
returns-in-Err-clause-ended c who =
    let t = c.args.tables.now.tables in
    let f = c.args.files.now in
    subst (λ x. IsEnded who (Call.Unlink c.args.path.now) c.args.k.now t f c.unlink.new.self t f c.args.power.now c.unlink.new.power x) (sym c.after_fault.ensures)
    (unlink_fault who c.args.path.now c.args.k.now t f c.unlink.new.self c.args.power.now c.unlink.new.power c.in-Err.fault (c.in-Err.ensures.answer c.requires.runs.runs.unbatched, (c.in-Err.ensures.paid c.requires.runs.runs.unbatched)))

pub returns-in-Ok-clause-ends : goal.returns-in-Ok-clause-ends
returns-in-Ok-clause-ends c =
    ends_then c.args.k.now c.unlink.new.self c.sweep.new.k c.args.files.now c.args.files.now c.sweep.new.files c.sweep.new.power (unlink_ends c.args.path.now c.args.k.now c.unlink.new.self c.args.files.now c.in-Ok.ino (c.in-Ok.ensures.answer c.requires.runs.runs.unbatched)) c.sweep.ensures.ends

pub returns-in-Err-clause-ends : goal.returns-in-Err-clause-ends
returns-in-Err-clause-ends c =
    fault_ends (unlink_row c.args.path.now c.args.k.now) (λ ino w. IsUnlinked c.args.path.now c.args.k.now.volume w ino) c.args.k.now c.unlink.new.self c.args.files.now c.args.power.now c.unlink.new.power c.in-Err.fault (c.in-Err.ensures.answer c.requires.runs.runs.unbatched, (c.in-Err.ensures.paid c.requires.runs.runs.unbatched))

pub sweep-requires-clause-unbatched : goal.sweep-requires-clause-unbatched
sweep-requires-clause-unbatched c = (c.in-Ok.ensures.answer c.requires.runs.runs.unbatched).2.batched ∙ c.requires.runs.runs.unbatched

pub returns-in-Ok-clause-steps : goal.returns-in-Ok-clause-steps
returns-in-Ok-clause-steps c = Steps-then 256 256 c.args.power.now c.unlink.new.power c.sweep.new.power (c.in-Ok.ensures.steps c.requires.runs.runs.unbatched) c.sweep.ensures.steps

pub returns-in-Err-clause-steps : goal.returns-in-Err-clause-steps
returns-in-Err-clause-steps c = twice_as_many c.args.power.now c.unlink.new.power (c.in-Err.ensures.steps c.requires.runs.runs.unbatched)
