use Rattle.write_plan.proofs.Numbers.{open_have_lines, room_is_kept, stands_as_kept}
use Rattle.write_plan.proofs.drafts.kept_numbers_are_those_of_the_state.Goals as goal

pub returns : goal.returns
returns c = record { sizes = stands_as_kept; lines = open_have_lines; room = room_is_kept c.what_files_hold_is_the_sum.ensures }
