use Rattle.std.proofs.Common.{◌≡◌, arith, sym, subst, ap, ◌∙◌}
use Rattle.live_step_laws.specs.world_model.TreeRules.{used_below}
use Rattle.live_step_laws.specs.world_model.Stands.{is_used}
use Rattle.std.specs.Prelude.{Ok, Some}
use Rattle.eof_laws.specs.image_model.Live.{is_directory}
use Rattle.posix_types.specs.declared.call.Call.{Call}
use Rattle.open_files.specs.posix_tables.Open.{free_descriptor, with_opened}
use Rattle.file_calls.specs.Answers.{IsEnded, told_of}
use Rattle.file_calls.proofs.Ends.{cut_ends, size_fault_ends}
use Rattle.file_calls.proofs.CutCalls.{cut_ended, cut_fault, has_reserve, live_file}
use Rattle.file_calls.proofs.OpenCalls.{opening_of}
use Rattle.file_calls.proofs.OpenEnds.{open_found_full, open_found_none}
use Rattle.file_calls.proofs.names.opens.open_cut.Goals as goal

pub set_size-requires-clause-file : goal.set_size-requires-clause-file
set_size-requires-clause-file c on = live_file c.args.k.now c.args.ino c.requires.file

pub set_size-requires-clause-room : goal.set_size-requires-clause-room
set_size-requires-clause-room c on = has_reserve c.args.k.now c.args.tables.now.tables c.args.files.now c.requires.runs

pub clear-requires-clause-below : goal.clear-requires-clause-below
clear-requires-clause-below c =
    let below = used_below c.args.k.now.volume c.args.ino (ap is_used c.requires.file) in
    let lines = c.requires.runs.runs.sizes.count in
    omega (arith, below, lines)

pub returns-then-is_full-clause-ended : goal.returns-then-is_full-clause-ended
returns-then-is_full-clause-ended c =
    subst (λ x. IsEnded c.args.who (Call.Open c.args.handle c.args.path.now c.args.flags) c.args.k.now c.args.tables.now.tables c.args.files.now c.args.k.now c.args.tables.now.tables c.args.files.now c.args.power.now c.args.power.now (Ok x)) (sym c.answered.ensures)
    ((open_found_full c.args.who c.args.handle c.args.path.now c.args.flags c.args.k.now c.args.tables.now.tables c.args.files.now c.args.ino c.requires.found c.requires.shared (ap is_directory c.requires.file)
    (sym c.is_full.ensures ∙ c.if-is_full.true)).ended c.args.power.now c.requires.power)

pub returns-in-Ok-open-clause-ended : goal.returns-in-Ok-open-clause-ended
returns-in-Ok-open-clause-ended c =
    let t = c.args.tables.now.tables in
    let free = subst (λ x. free_descriptor x ≡ Some c.in-Ok-open.descriptor) c.reserve.ensures.tables c.in-Ok-open.ensures.lowest in
    let opened = c.in-Ok-open.ensures.ok ∙ ap (λ x. with_opened x c.args.who c.args.handle (opening_of c.args.ino c.args.flags)) c.reserve.ensures.tables in
    let none =
    open_found_none c.args.who c.args.handle c.args.path.now c.args.flags c.args.k.now t c.args.files.now c.args.ino c.requires.found c.requires.shared c.requires.file (sym c.is_full.ensures ∙ c.if-is_full.false)
    in
    subst (λ x. IsEnded c.args.who (Call.Open c.args.handle c.args.path.now c.args.flags) c.args.k.now t c.args.files.now c.set_size.new.self c.open.new.self.tables c.clear.new.self c.args.power.now c.set_size.new.power (Ok x)) (sym c.answered-in-Ok-open.ensures)
    (cut_ended c.args.who c.args.handle c.args.path.now c.args.flags c.args.k.now t c.args.files.now c.args.ino c.requires.runs.runs.order.whole c.requires.found c.requires.file c.requires.cuts c.requires.bare none c.set_size.new.self c.open.new.self.tables
    c.clear.new.self c.in-Ok-open.descriptor c.args.power.now c.set_size.new.power (c.in-Ok-set_size.ensures.answer c.requires.runs.runs.unbatched, (c.in-Ok-set_size.ensures.paid c.requires.runs.runs.unbatched)) free opened c.clear.ensures.file c.clear.ensures.spare c.requires.runs.runs.sizes.count)

pub returns-in-Err-clause-ended : goal.returns-in-Err-clause-ended
returns-in-Err-clause-ended c =
    let t = c.args.tables.now.tables in
    let none =
    open_found_none c.args.who c.args.handle c.args.path.now c.args.flags c.args.k.now t c.args.files.now c.args.ino c.requires.found c.requires.shared c.requires.file (sym c.is_full.ensures ∙ c.if-is_full.false)
    in
    subst (λ x. IsEnded c.args.who (Call.Open c.args.handle c.args.path.now c.args.flags) c.args.k.now t c.args.files.now c.set_size.new.self c.reserve.new.self.tables c.args.files.now c.args.power.now c.set_size.new.power x) (sym c.after_fault.ensures)
    (subst (λ x. IsEnded c.args.who (Call.Open c.args.handle c.args.path.now c.args.flags) c.args.k.now t c.args.files.now c.set_size.new.self x c.args.files.now c.args.power.now c.set_size.new.power (told_of c.in-Err.fault)) (sym c.reserve.ensures.tables)
    (cut_fault c.args.who c.args.handle c.args.path.now c.args.flags c.args.k.now t c.args.files.now c.args.ino c.requires.runs.runs.order.whole c.requires.found c.requires.file c.requires.cuts c.requires.bare none c.set_size.new.self c.args.power.now c.set_size.new.power c.in-Err.fault
    (c.in-Err.ensures.answer c.requires.runs.runs.unbatched, (c.in-Err.ensures.paid c.requires.runs.runs.unbatched))))

pub returns-in-Ok-open-clause-ends : goal.returns-in-Ok-open-clause-ends
returns-in-Ok-open-clause-ends c =
    cut_ends c.args.ino c.args.k.now c.set_size.new.self c.args.tables.now.tables c.args.files.now c.clear.new.self c.set_size.new.power c.requires.runs (used_below c.args.k.now.volume c.args.ino (ap is_used c.requires.file)) (c.in-Ok-set_size.ensures.answer c.requires.runs.runs.unbatched) c.clear.ensures.file

pub returns-in-Err-clause-ends : goal.returns-in-Err-clause-ends
returns-in-Err-clause-ends c = size_fault_ends c.args.ino 0 c.args.k.now c.set_size.new.self c.args.files.now c.args.power.now c.set_size.new.power c.in-Err.fault (c.in-Err.ensures.answer c.requires.runs.runs.unbatched, (c.in-Err.ensures.paid c.requires.runs.runs.unbatched))
