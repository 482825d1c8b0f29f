use Rattle.std.proofs.Common.{arith, sym, subst, ap, ◌∙◌, ℕ, Option, w64}
use Rattle.std.specs.Prelude.{Ok, option_map, unwrap_or}
use Rattle.std.proofs.Math.Facts.{to_z-of_z}
use Rattle.open_files.specs.Found.{description_in}
use Rattle.posix_types.specs.declared.call.Call.{Call}
use Rattle.posix_tables.specs.Bytes.{moved_place}
use Rattle.posix_tables.specs.Open.{with_offset}
use Rattle.live_step_laws.specs.world_model.TreeRules.{used_below}
use Rattle.live_step_laws.specs.world_model.Stands.{is_used}
use Rattle.file_calls.specs.Answers.{IsEnded}
use Rattle.file_calls.proofs.CloseCalls.{handle_open}
use Rattle.file_calls.specs.Gathers.{IsGatheredEnd}
use Rattle.file_calls.proofs.ReadEnds.{seek_ends, seek_refused, seek_unknown}
use Rattle.file_calls.proofs.calls.reads.seek.Goals as goal

pub base_of-requires : goal.base_of-requires
base_of-requires c =
    let known = c.find.ensures.description ∙ ap (option_map description_in) c.in-Some.is in
    let file = c.requires.open_are_files c.in-Some.opened.ino (handle_open c.args.tables.now.tables c.args.who c.args.handle (description_in c.in-Some.opened) known) in
    let below = used_below c.args.k.now.volume c.in-Some.opened.ino (ap is_used file) in
    let lines = c.requires.count in
    omega (arith, below, lines)

pub returns-in-None-clause-ended : goal.returns-in-None-clause-ended
returns-in-None-clause-ended c power on =
    let t = c.args.tables.now.tables in
    let none = c.find.ensures.description ∙ ap (option_map description_in) c.in-None.is in
    subst (λ x. IsEnded c.args.who (Call.Seek c.args.handle c.args.whence c.args.by) c.args.k.now t c.args.files.now c.args.k.now t c.args.files.now power power (Ok x)) (sym c.answered.ensures)
    ((seek_unknown c.args.who c.args.handle c.args.whence c.args.by c.args.k.now t c.args.files.now none).ended power on)

pub returns-in-None-moved_place-clause-ended : goal.returns-in-None-moved_place-clause-ended
returns-in-None-moved_place-clause-ended c power on =
    let t = c.args.tables.now.tables in
    let known = c.find.ensures.description ∙ ap (option_map description_in) c.in-Some.is in
    let place = ap (λ base. moved_place base c.args.by) (sym c.base_of.ensures) ∙ ap (moved_place c.base_of.result) (sym (to_z-of_z {w = w64} c.ranges.by)) ∙ sym c.moved_place.ensures ∙ c.in-None-moved_place.is in
    subst (λ x. IsEnded c.args.who (Call.Seek c.args.handle c.args.whence c.args.by) c.args.k.now t c.args.files.now c.args.k.now t c.args.files.now power power (Ok x)) (sym c.answered-in-None-moved_place.ensures)
    ((seek_refused c.args.who c.args.handle c.args.whence c.args.by c.args.k.now t c.args.files.now (description_in c.in-Some.opened) known place).ended power on)

pub returns-in-Some-moved_place-clause-ended : goal.returns-in-Some-moved_place-clause-ended
returns-in-Some-moved_place-clause-ended c power on =
    let t = c.args.tables.now.tables in
    let known = c.find.ensures.description ∙ ap (option_map description_in) c.in-Some.is in
    let place = ap (λ base. moved_place base c.args.by) (sym c.base_of.ensures) ∙ ap (moved_place c.base_of.result) (sym (to_z-of_z {w = w64} c.ranges.by)) ∙ sym c.moved_place.ensures ∙ c.in-Some-moved_place.is in
    let moved = c.set_offset.ensures.tables ∙ ap (λ (m : Option ℕ). with_offset t (unwrap_or m 0) c.in-Some-moved_place.place) c.in-Some.ensures.key in
    subst (λ x. IsEnded c.args.who (Call.Seek c.args.handle c.args.whence c.args.by) c.args.k.now t c.args.files.now c.args.k.now c.set_offset.new.self.tables c.args.files.now power power (Ok x)) (sym c.answered-in-Some-moved_place.ensures)
    ((seek_ends c.args.who c.args.handle c.args.whence c.args.by c.args.k.now t c.args.files.now (description_in c.in-Some.opened) known c.in-Some-moved_place.place c.set_offset.new.self.tables place moved).ended power on)

pub returns-in-None-clause-gathers : goal.returns-in-None-clause-gathers
returns-in-None-clause-gathers c a power on =
    let t = c.args.tables.now.tables in
    let none = c.find.ensures.description ∙ ap (option_map description_in) c.in-None.is in
    subst (λ x. IsGatheredEnd c.args.who (Call.Seek c.args.handle c.args.whence c.args.by) c.args.k.now t a c.args.files.now c.args.k.now t a c.args.files.now power power (Ok x)) (sym c.answered.ensures)
    ((seek_unknown c.args.who c.args.handle c.args.whence c.args.by c.args.k.now t c.args.files.now none).gathers a power on)

pub returns-in-None-moved_place-clause-gathers : goal.returns-in-None-moved_place-clause-gathers
returns-in-None-moved_place-clause-gathers c a power on =
    let t = c.args.tables.now.tables in
    let known = c.find.ensures.description ∙ ap (option_map description_in) c.in-Some.is in
    let place = ap (λ base. moved_place base c.args.by) (sym c.base_of.ensures) ∙ ap (moved_place c.base_of.result) (sym (to_z-of_z {w = w64} c.ranges.by)) ∙ sym c.moved_place.ensures ∙ c.in-None-moved_place.is in
    subst (λ x. IsGatheredEnd c.args.who (Call.Seek c.args.handle c.args.whence c.args.by) c.args.k.now t a c.args.files.now c.args.k.now t a c.args.files.now power power (Ok x)) (sym c.answered-in-None-moved_place.ensures)
    ((seek_refused c.args.who c.args.handle c.args.whence c.args.by c.args.k.now t c.args.files.now (description_in c.in-Some.opened) known place).gathers a power on)

pub returns-in-Some-moved_place-clause-gathers : goal.returns-in-Some-moved_place-clause-gathers
returns-in-Some-moved_place-clause-gathers c a power on =
    let t = c.args.tables.now.tables in
    let known = c.find.ensures.description ∙ ap (option_map description_in) c.in-Some.is in
    let place = ap (λ base. moved_place base c.args.by) (sym c.base_of.ensures) ∙ ap (moved_place c.base_of.result) (sym (to_z-of_z {w = w64} c.ranges.by)) ∙ sym c.moved_place.ensures ∙ c.in-Some-moved_place.is in
    let moved = c.set_offset.ensures.tables ∙ ap (λ (m : Option ℕ). with_offset t (unwrap_or m 0) c.in-Some-moved_place.place) c.in-Some.ensures.key in
    subst (λ x. IsGatheredEnd c.args.who (Call.Seek c.args.handle c.args.whence c.args.by) c.args.k.now t a c.args.files.now c.args.k.now c.set_offset.new.self.tables a c.args.files.now power power (Ok x)) (sym c.answered-in-Some-moved_place.ensures)
    ((seek_ends c.args.who c.args.handle c.args.whence c.args.by c.args.k.now t c.args.files.now (description_in c.in-Some.opened) known c.in-Some-moved_place.place c.set_offset.new.self.tables place moved).gathers a power on)
