use Rattle.std.proofs.Common.{ℕ, ap, ◌∙◌, sym, subst}
use Rattle.std.specs.Prelude.{option_map}
use Rattle.in_place.specs.layout_model.Places.{data_blocks}
use Rattle.in_place.specs.write_plan.file_table.Files.{size_in}
use Rattle.file_calls.specs.open_files.Found.{description_in}
use Rattle.file_truncate.specs.Truncates.{IsAsked, IsLacking}
use Rattle.file_truncate.proofs.Asked.{line_there}
use Rattle.file_truncate.proofs.Given.{asked_lacks, refused_unknown}
use Rattle.file_truncate.proofs.Rows.{room_same}
use Rattle.file_truncate.proofs.truncates.truncating.lacks_room.Goals as goal

pub returns-in_default : goal.returns-in_default
returns-in_default c =
    let none = c.find.ensures.description ∙ ap (option_map description_in) c.in_default.is in
    (refused_unknown c.args.who c.args.handle c.args.size c.args.needs c.args.k.now c.args.tables.now.tables c.args.files.now none).enough

pub size-requires : goal.size-requires
size-requires c =
    let known = c.find.ensures.description ∙ ap (option_map description_in) c.in-Some.is in
    line_there c.args.k.now c.args.tables.now.tables c.args.files.now c.requires.runs c.args.who c.args.handle (description_in c.in-Some.file) known

pub returns : goal.returns
returns c =
    let known = c.find.ensures.description ∙ ap (option_map description_in) c.in-Some.is in
    let blocks = c.data_blocks.ensures.number ∙ ap data_blocks c.geometry.ensures in
    let left = room_same c.args.k.now c.args.files.now c.room_by-room.result c.data_blocks.result c.held.result c.room_by-room.ensures blocks c.held.ensures in
    let sized = subst (λ (n : ℕ). IsAsked c.in-Some.file.flags.write c.args.size n c.room_by-room.result c.args.needs c.ask.result) c.size.ensures.size c.ask.ensures in
    let asked = subst (λ (n : ℕ). IsAsked c.in-Some.file.flags.write c.args.size (size_in c.args.files.now c.in-Some.file.ino) n c.args.needs c.ask.result) left sized in
    subst (IsLacking c.args.who c.args.handle c.args.size c.args.needs c.args.k.now c.args.tables.now.tables c.args.files.now) (sym c.lacking.ensures)
    (asked_lacks c.args.who c.args.handle c.args.size c.args.needs c.args.k.now c.args.tables.now.tables c.args.files.now c.kept_numbers_are_those_of_the_state.ensures.room (description_in c.in-Some.file) known c.ask.result asked)
