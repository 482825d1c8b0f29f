use Rattle.std.proofs.Common.{arith, rules, ◌≡◌, ◌<◌, ◌^◌, sym, subst, ap, ◌∙◌, ◌+◌, ◌/◌, ℕ, Option, length}
use Rattle.std.proofs.lemmas.List.FromFn.{length-map-range_with_len}
use Rattle.std.specs.Prelude.{Ok, unwrap_or}
use Rattle.live_step_laws.specs.data_route.Reads.{read_len}
use Rattle.eof_laws.specs.image_model.Content.{byte_in}
use Rattle.live_step_laws.specs.file_reads.Reads.{block_in}
use Rattle.eof_laws.specs.file_table.Files.{runs_in, size_in}
use Rattle.pm_lines.specs.pm_model.Images.{words_of}
use Rattle.open_files.specs.Found.{description_in}
use Rattle.posix_types.specs.declared.call.Call.{Call}
use Rattle.posix_tables.specs.Open.{description_number, with_offset}
use Rattle.file_calls.specs.Answers.{IsEnded}
use Rattle.file_calls.specs.Gathers.{IsGatheredEnd}
use Rattle.file_calls.proofs.CanRuns.{readable_of}
use Rattle.file_calls.proofs.CloseCalls.{handle_open}
use Rattle.file_calls.proofs.ReadCalls.{read_fits}
use Rattle.file_calls.proofs.ReadEnds.{read_ends, unread}
use Rattle.file_calls.proofs.calls.reads.read.Goals as goal

pub bytes_at-requires : goal.bytes_at-requires
bytes_at-requires c =
    readable_of c.args.k.now c.args.tables.now.tables c.args.files.now c.requires c.in-Some.opened.ino
    (c.requires.open_are_files c.in-Some.opened.ino (handle_open c.args.tables.now.tables c.args.who c.args.handle (description_in c.in-Some.opened) c.in-Some.ensures.some.known))

pub overflow_add-opened : goal.overflow_add-opened
overflow_add-opened c =
    let ino = c.in-Some.opened.ino in
    let files = c.args.files.now in
    let file = c.requires.open_are_files ino (handle_open c.args.tables.now.tables c.args.who c.args.handle (description_in c.in-Some.opened) c.in-Some.ensures.some.known) in
    let small = c.requires.short ino file in
    let bytes = c.in_ok-bytes-in-Some.bytes in
    let counted : c.len.result ≡ length bytes = search rules in
    let many = read_len (size_in files ino) c.in-Some.opened.offset c.args.count in
    let long : length bytes ≡ many =
    ap length c.in_ok-bytes-in-Some.ensures
    ∙ length-map-range_with_len (λ i. byte_in (words_of c.args.k.now.cells) (block_in c.args.k.now.volume (runs_in files ino) ino (i / 4096)) i) c.in-Some.opened.offset many
    in
    let fits : c.in-Some.opened.offset < 2 ^ 64 = search rules in
    let sum = read_fits (size_in files ino) c.in-Some.opened.offset c.args.count small fits in
    omega (arith, sum, counted, long)

pub returns-in-None-clause-ended : goal.returns-in-None-clause-ended
returns-in-None-clause-ended c power on =
    let t = c.args.tables.now.tables in
    subst (λ x. IsEnded c.args.who (Call.Read c.args.handle c.args.count) c.args.k.now t c.args.files.now c.args.k.now t c.args.files.now power power (Ok x)) (sym c.answered.ensures)
    ((unread c.args.who c.args.handle c.args.k.now t c.args.files.now c.in-None.ensures.none c.args.count).ended power on)

pub returns-in_ok-bytes-in-Some-clause-ended : goal.returns-in_ok-bytes-in-Some-clause-ended
returns-in_ok-bytes-in-Some-clause-ended c power on =
    let o = c.in-Some.ensures.some in
    let t = c.args.tables.now.tables in
    let bytes = c.in_ok-bytes-in-Some.bytes in
    let counted : c.len.result ≡ length bytes = search rules in
    let moved = c.set_offset.ensures.tables
    ∙ ap (λ (n : ℕ). with_offset t (unwrap_or (description_number t.descriptors c.in-Some.opened.key) 0) (c.in-Some.opened.offset + n)) counted
    ∙ ap (λ (m : Option ℕ). with_offset t (unwrap_or m 0) (c.in-Some.opened.offset + length bytes)) o.key
    in
    subst (λ x. IsEnded c.args.who (Call.Read c.args.handle c.args.count) c.args.k.now t c.args.files.now c.args.k.now c.set_offset.new.self.tables c.args.files.now power power (Ok x)) (sym c.answered-in-Some.ensures)
    ((read_ends c.args.who c.args.handle c.args.k.now t c.args.files.now (description_in c.in-Some.opened) o.known o.may c.args.count bytes c.set_offset.new.self.tables c.in_ok-bytes-in-Some.ensures moved).ended power on)

pub returns-in-None-clause-gathers : goal.returns-in-None-clause-gathers
returns-in-None-clause-gathers c a power on =
    let t = c.args.tables.now.tables in
    subst (λ x. IsGatheredEnd c.args.who (Call.Read c.args.handle c.args.count) c.args.k.now t a c.args.files.now c.args.k.now t a c.args.files.now power power (Ok x)) (sym c.answered.ensures)
    ((unread c.args.who c.args.handle c.args.k.now t c.args.files.now c.in-None.ensures.none c.args.count).gathers a power on)

pub returns-in_ok-bytes-in-Some-clause-gathers : goal.returns-in_ok-bytes-in-Some-clause-gathers
returns-in_ok-bytes-in-Some-clause-gathers c a power on =
    let o = c.in-Some.ensures.some in
    let t = c.args.tables.now.tables in
    let bytes = c.in_ok-bytes-in-Some.bytes in
    let counted : c.len.result ≡ length bytes = search rules in
    let moved = c.set_offset.ensures.tables
    ∙ ap (λ (n : ℕ). with_offset t (unwrap_or (description_number t.descriptors c.in-Some.opened.key) 0) (c.in-Some.opened.offset + n)) counted
    ∙ ap (λ (m : Option ℕ). with_offset t (unwrap_or m 0) (c.in-Some.opened.offset + length bytes)) o.key
    in
    subst (λ x. IsGatheredEnd c.args.who (Call.Read c.args.handle c.args.count) c.args.k.now t a c.args.files.now c.args.k.now c.set_offset.new.self.tables a c.args.files.now power power (Ok x)) (sym c.answered-in-Some.ensures)
    ((read_ends c.args.who c.args.handle c.args.k.now t c.args.files.now (description_in c.in-Some.opened) o.known o.may c.args.count bytes c.set_offset.new.self.tables c.in_ok-bytes-in-Some.ensures moved).gathers a power on)
