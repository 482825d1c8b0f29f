use Rattle.std.proofs.Common.{sym, subst}
use Rattle.std.specs.Prelude.{Ok}
use Rattle.open_files.specs.Found.{description_in}
use Rattle.posix_types.specs.declared.call.Call.{Call}
use Rattle.file_calls.specs.Answers.{IsEnded}
use Rattle.file_calls.specs.Gathers.{IsGatheredEnd}
use Rattle.file_calls.proofs.CanRuns.{readable_of}
use Rattle.file_calls.proofs.CloseCalls.{handle_open}
use Rattle.file_calls.proofs.ReadEnds.{pread_ends, unread_at}
use Rattle.file_calls.proofs.calls.reads.pread.Goals as goal

pub bytes_at-requires : goal.bytes_at-requires
bytes_at-requires c =
    readable_of c.args.k.now c.args.tables.now.tables c.args.files.now c.requires c.in-Some.opened.ino
    (c.requires.open_are_files c.in-Some.opened.ino (handle_open c.args.tables.now.tables c.args.who c.args.handle (description_in c.in-Some.opened) c.in-Some.ensures.some.known))

pub returns-in-None-clause-ended : goal.returns-in-None-clause-ended
returns-in-None-clause-ended c power on =
    let t = c.args.tables.now.tables in
    subst (λ x. IsEnded c.args.who (Call.Pread c.args.handle c.args.place c.args.count) c.args.k.now t c.args.files.now c.args.k.now t c.args.files.now power power (Ok x)) (sym c.answered.ensures)
    ((unread_at c.args.who c.args.handle c.args.k.now t c.args.files.now c.in-None.ensures.none c.args.place c.args.count).ended power on)

pub returns-in_ok-bytes-in-Some-clause-ended : goal.returns-in_ok-bytes-in-Some-clause-ended
returns-in_ok-bytes-in-Some-clause-ended c power on =
    let o = c.in-Some.ensures.some in
    let t = c.args.tables.now.tables in
    subst (λ x. IsEnded c.args.who (Call.Pread c.args.handle c.args.place c.args.count) c.args.k.now t c.args.files.now c.args.k.now t c.args.files.now power power (Ok x)) (sym c.answered-in-Some.ensures)
    ((pread_ends c.args.who c.args.handle c.args.k.now t c.args.files.now (description_in c.in-Some.opened) o.known o.may c.args.place c.args.count c.in_ok-bytes-in-Some.bytes c.in_ok-bytes-in-Some.ensures).ended power on)

pub returns-in-None-clause-gathers : goal.returns-in-None-clause-gathers
returns-in-None-clause-gathers c a power on =
    let t = c.args.tables.now.tables in
    subst (λ x. IsGatheredEnd c.args.who (Call.Pread c.args.handle c.args.place c.args.count) c.args.k.now t a c.args.files.now c.args.k.now t a c.args.files.now power power (Ok x)) (sym c.answered.ensures)
    ((unread_at c.args.who c.args.handle c.args.k.now t c.args.files.now c.in-None.ensures.none c.args.place c.args.count).gathers a power on)

pub returns-in_ok-bytes-in-Some-clause-gathers : goal.returns-in_ok-bytes-in-Some-clause-gathers
returns-in_ok-bytes-in-Some-clause-gathers c a power on =
    let o = c.in-Some.ensures.some in
    let t = c.args.tables.now.tables in
    subst (λ x. IsGatheredEnd c.args.who (Call.Pread c.args.handle c.args.place c.args.count) c.args.k.now t a c.args.files.now c.args.k.now t a c.args.files.now power power (Ok x)) (sym c.answered-in-Some.ensures)
    ((pread_ends c.args.who c.args.handle c.args.k.now t c.args.files.now (description_in c.in-Some.opened) o.known o.may c.args.place c.args.count c.in_ok-bytes-in-Some.bytes c.in_ok-bytes-in-Some.ensures).gathers a power on)
