use Rattle.std.proofs.Common.{sym, subst, ap, refl}
use Rattle.std.specs.Prelude.{Ok}
use Rattle.eof_laws.specs.image_model.Live.{is_directory}
use Rattle.posix_types.specs.declared.call.Call.{Call}
use Rattle.file_calls.specs.Answers.{IsEnded}
use Rattle.file_calls.specs.Gathers.{IsGatheredEnd}
use Rattle.file_calls.proofs.GatheredOpens.{opened_gathered}
use Rattle.file_calls.proofs.OpenEnds.{open_found_done, open_found_fault}
use Rattle.file_calls.proofs.names.opens.open_there.Goals as goal

pub returns-in-Ok-clause-ended : goal.returns-in-Ok-clause-ended
returns-in-Ok-clause-ended c power on =
    subst (λ x. IsEnded c.args.who (Call.Open c.args.handle c.args.path.now c.args.flags) c.args.k.now c.args.tables.now.tables c.args.files.now c.args.k.now c.open.new.self.tables c.args.files.now power power (Ok x)) (sym c.answered.ensures)
    (open_found_done c.args.who c.args.handle c.args.path.now c.args.flags c.args.k.now c.args.tables.now.tables c.args.files.now c.args.ino c.in-Ok.descriptor c.open.new.self.tables power on c.requires.found c.requires.shared c.requires.file
    c.requires.stays c.in-Ok.ensures.lowest c.in-Ok.ensures.ok)

pub returns-in-Err-clause-ended : goal.returns-in-Err-clause-ended
returns-in-Err-clause-ended c power on =
    subst (λ x. IsEnded c.args.who (Call.Open c.args.handle c.args.path.now c.args.flags) c.args.k.now c.args.tables.now.tables c.args.files.now c.args.k.now c.open.new.self.tables c.args.files.now power power x) (sym c.after_open_fault.ensures)
    ((open_found_fault c.args.who c.args.handle c.args.path.now c.args.flags c.args.k.now c.args.tables.now.tables c.args.files.now c.args.ino c.open.new.self.tables c.args.tables.now c.in-Err.fault refl c.in-Err.ensures.err c.requires.found
    c.requires.shared (ap is_directory c.requires.file) c.in-Err.ensures.cause).ended power on)

pub returns-in-Ok-clause-gathers : goal.returns-in-Ok-clause-gathers
returns-in-Ok-clause-gathers c a power on =
    subst (λ x. IsGatheredEnd c.args.who (Call.Open c.args.handle c.args.path.now c.args.flags) c.args.k.now c.args.tables.now.tables a c.args.files.now c.args.k.now c.open.new.self.tables a c.args.files.now power power (Ok x)) (sym c.answered.ensures)
    (opened_gathered c.args.who c.args.handle c.args.path.now c.args.flags c.args.k.now c.args.tables.now.tables a c.args.files.now power on c.args.ino c.requires.found c.requires.shared
    c.requires.file c.requires.stays c.in-Ok.descriptor c.open.new.self.tables c.in-Ok.ensures.lowest c.in-Ok.ensures.ok)

pub returns-in-Err-clause-gathers : goal.returns-in-Err-clause-gathers
returns-in-Err-clause-gathers c a power on =
    subst (λ x. IsGatheredEnd c.args.who (Call.Open c.args.handle c.args.path.now c.args.flags) c.args.k.now c.args.tables.now.tables a c.args.files.now c.args.k.now c.open.new.self.tables a c.args.files.now power power x) (sym c.after_open_fault.ensures)
    ((open_found_fault c.args.who c.args.handle c.args.path.now c.args.flags c.args.k.now c.args.tables.now.tables c.args.files.now c.args.ino c.open.new.self.tables c.args.tables.now c.in-Err.fault refl c.in-Err.ensures.err c.requires.found
    c.requires.shared (ap is_directory c.requires.file) c.in-Err.ensures.cause).gathers a power on)
