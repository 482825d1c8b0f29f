use Rattle.std.proofs.Common.{◌-◌, ◌≤◌, refl, ap, ◌∙◌, sym, subst}
use Rattle.std.specs.Prelude.{option_map}
use Rattle.in_place.specs.layout_model.Places.{data_blocks}
use Rattle.in_place.specs.write_plan.file_table.Files.{size_in}
use Rattle.posix_tables.specs.Room.{growth}
use Rattle.file_calls.specs.open_files.Found.{description_in}
use Rattle.file_truncate.specs.Truncates.{Answers}
use Rattle.file_truncate.proofs.Asked.{line_there, live_file, published, reserve_there}
use Rattle.file_truncate.proofs.Given.{given_ended, given_ends, leaves_less, refused_row, refused_unknown, row_spent, unknown_spent}
use Rattle.file_truncate.proofs.Rows.{room_left, room_same, row_same}
use Rattle.file_truncate.proofs.truncates.truncating.truncate_file.Goals as goal

pub returns-in_default-clause-ended : goal.returns-in_default-clause-ended
returns-in_default-clause-ended c =
    let none = c.find.ensures.description ∙ ap (option_map description_in) c.in_default.is in (
      subst (Answers c.args.who c.args.handle c.args.size c.args.needs c.args.k.now c.args.tables.now.tables c.args.files.now c.args.k.now c.args.files.now) (sym c.answer.ensures)
          (refused_unknown c.args.who c.args.handle c.args.size c.args.needs c.args.k.now c.args.tables.now.tables c.args.files.now none),
      c.requires.power,
      unknown_spent c.args.who c.args.handle c.args.size c.args.needs c.args.k.now c.args.tables.now.tables c.args.files.now none c.args.power.now c.args.power.now,
    )

pub size-requires : goal.size-requires
size-requires c =
    let known = c.find.ensures.description ∙ ap (option_map description_in) c.in-Some.is in
    line_there c.args.k.now c.args.tables.now.tables c.args.files.now c.requires.runs c.args.who c.args.handle (description_in c.in-Some.opened) known

pub returns-in-Answered-clause-ended : goal.returns-in-Answered-clause-ended
returns-in-Answered-clause-ended c =
    let known = c.find.ensures.description ∙ ap (option_map description_in) c.in-Some.is in
    let blocks = c.data_blocks.ensures.number ∙ ap data_blocks c.geometry.ensures in
    let left = room_same c.args.k.now c.args.files.now c.room_by-room.result c.data_blocks.result c.held.result c.room_by-room.ensures blocks c.held.ensures in
    let same = row_same c.in-Some.opened.flags.write c.args.size c.size.result (size_in c.args.files.now c.in-Some.opened.ino) c.room_by-room.result (room_left c.args.k.now c.args.files.now) c.size.ensures.size left in (
      refused_row c.args.who c.args.handle c.args.size c.args.needs c.args.k.now c.args.tables.now.tables c.args.files.now c.kept_numbers_are_those_of_the_state.ensures.room (description_in c.in-Some.opened) known c.in-Answered.outcome
          (sym same ∙ c.in-Answered.ensures),
      c.requires.power,
      row_spent c.args.who c.args.handle c.args.size c.args.needs c.args.k.now c.args.tables.now.tables c.args.files.now c.kept_numbers_are_those_of_the_state.ensures.room (description_in c.in-Some.opened) known c.in-Answered.outcome
          (sym same ∙ c.in-Answered.ensures) c.args.power.now c.args.power.now,
    )

pub returns-in-Full-clause-ended : goal.returns-in-Full-clause-ended
returns-in-Full-clause-ended c =
    let known = c.find.ensures.description ∙ ap (option_map description_in) c.in-Some.is in
    let blocks = c.data_blocks.ensures.number ∙ ap data_blocks c.geometry.ensures in
    let left = room_same c.args.k.now c.args.files.now c.room_by-room.result c.data_blocks.result c.held.result c.room_by-room.ensures blocks c.held.ensures in
    let same = row_same c.in-Some.opened.flags.write c.args.size c.size.result (size_in c.args.files.now c.in-Some.opened.ino) c.room_by-room.result (room_left c.args.k.now c.args.files.now) c.size.ensures.size left in (
      leaves_less c.args.who c.args.handle c.args.size c.args.needs c.args.k.now c.args.tables.now.tables c.args.files.now c.kept_numbers_are_those_of_the_state.ensures.room (description_in c.in-Some.opened) known c.in-Full.need c.in-Full.left
          (sym same ∙ c.in-Full.ensures.0) (c.in-Full.ensures.1 ∙ ap (λ m. growth m c.args.size) c.size.ensures.size) (c.in-Full.ensures.2 ∙ ap (λ m. m - c.args.needs) left) c.in-Full.ensures.3,
      refl,
      refl,
      refl,
    )

pub give_size-requires-clause-file : goal.give_size-requires-clause-file
give_size-requires-clause-file c =
    let known = c.find.ensures.description ∙ ap (option_map description_in) c.in-Some.is in
    live_file c.args.k.now c.args.tables.now.tables c.args.files.now c.requires.runs c.args.who c.args.handle (description_in c.in-Some.opened) known

pub give_size-requires-clause-room : goal.give_size-requires-clause-room
give_size-requires-clause-room c = reserve_there c.args.k.now c.args.tables.now.tables c.args.files.now c.requires.runs

pub give_size-requires-clause-line : goal.give_size-requires-clause-line
give_size-requires-clause-line c =
    let known = c.find.ensures.description ∙ ap (option_map description_in) c.in-Some.is in
    line_there c.args.k.now c.args.tables.now.tables c.args.files.now c.requires.runs c.args.who c.args.handle (description_in c.in-Some.opened) known

pub give_size-requires-clause-published : goal.give_size-requires-clause-published
give_size-requires-clause-published c =
    let known = c.find.ensures.description ∙ ap (option_map description_in) c.in-Some.is in
    published c.args.k.now c.args.tables.now.tables c.args.files.now c.requires.runs c.args.who c.args.handle (description_in c.in-Some.opened) known (c.requires.bare (description_in c.in-Some.opened) known)

pub returns-in-Goes-clause-ended : goal.returns-in-Goes-clause-ended
returns-in-Goes-clause-ended c =
    let known = c.find.ensures.description ∙ ap (option_map description_in) c.in-Some.is in
    let blocks = c.data_blocks.ensures.number ∙ ap data_blocks c.geometry.ensures in
    let left = room_same c.args.k.now c.args.files.now c.room_by-room.result c.data_blocks.result c.held.result c.room_by-room.ensures blocks c.held.ensures in
    let same = row_same c.in-Some.opened.flags.write c.args.size c.size.result (size_in c.args.files.now c.in-Some.opened.ino) c.room_by-room.result (room_left c.args.k.now c.args.files.now) c.size.ensures.size left in
    let fits = subst (λ m. growth m c.args.size ≤ c.room_by-room.result - c.args.needs) c.size.ensures.size c.in-Goes.ensures.1 in
    let all_fits = subst (λ m. growth (size_in c.args.files.now c.in-Some.opened.ino) c.args.size ≤ m - c.args.needs) left fits in
    given_ended c.args.who c.args.handle c.args.size c.args.needs c.args.k.now c.args.tables.now.tables c.args.files.now c.kept_numbers_are_those_of_the_state.ensures.room (description_in c.in-Some.opened) known (sym same ∙ c.in-Goes.ensures.0) all_fits
    (c.requires.bare (description_in c.in-Some.opened) known) c.requires.ends c.the_end_of_a_file_is_cleaned_in_flight.ensures.done c.the_end_of_a_file_is_cleaned_in_flight.ensures.cut c.give_size.new.k c.give_size.new.files
    c.args.power.now c.give_size.new.power c.give_size.result c.give_size.ensures.paid c.give_size.ensures.answer

pub returns-in-Goes-clause-ends : goal.returns-in-Goes-clause-ends
returns-in-Goes-clause-ends c on =
    let known = c.find.ensures.description ∙ ap (option_map description_in) c.in-Some.is in
    let blocks = c.data_blocks.ensures.number ∙ ap data_blocks c.geometry.ensures in
    let left = room_same c.args.k.now c.args.files.now c.room_by-room.result c.data_blocks.result c.held.result c.room_by-room.ensures blocks c.held.ensures in
    let same = row_same c.in-Some.opened.flags.write c.args.size c.size.result (size_in c.args.files.now c.in-Some.opened.ino) c.room_by-room.result (room_left c.args.k.now c.args.files.now) c.size.ensures.size left in
    let fits = subst (λ m. growth m c.args.size ≤ c.room_by-room.result - c.args.needs) c.size.ensures.size c.in-Goes.ensures.1 in
    let all_fits = subst (λ m. growth (size_in c.args.files.now c.in-Some.opened.ino) c.args.size ≤ m - c.args.needs) left fits in
    let given =
    given_ends c.args.who c.args.handle c.args.size c.args.needs c.args.k.now c.args.tables.now.tables c.args.files.now c.kept_numbers_are_those_of_the_state.ensures.room (description_in c.in-Some.opened) known (sym same ∙ c.in-Goes.ensures.0) all_fits
    (c.requires.bare (description_in c.in-Some.opened) known) c.requires.ends c.the_end_of_a_file_is_cleaned_in_flight.ensures.done c.the_end_of_a_file_is_cleaned_in_flight.ensures.cut c.give_size.new.k c.give_size.new.files
    c.args.power.now c.give_size.new.power (live_file c.args.k.now c.args.tables.now.tables c.args.files.now c.requires.runs c.args.who c.args.handle (description_in c.in-Some.opened) known).below
    (line_there c.args.k.now c.args.tables.now.tables c.args.files.now c.requires.runs c.args.who c.args.handle (description_in c.in-Some.opened) known) c.requires.runs.runs.order.whole c.give_size.result c.give_size.ensures.paid c.give_size.ensures.answer on
    in
    (given.0, λ ends. given.1)

pub give_size-requires-clause-unbatched : goal.give_size-requires-clause-unbatched
give_size-requires-clause-unbatched c = c.requires.runs.runs.unbatched
