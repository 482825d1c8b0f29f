use Rattle.world_begins.proofs.Finding.{first_calls_have_room}
use Rattle.world_begins.proofs.progress.the_first_call_of_a_round_finds_room.Goals as goal

pub returns : goal.returns
returns c =
    first_calls_have_room c.the_first_write_finds_its_blocks.ensures c.the_first_holes_find_their_blocks.ensures c.kept_numbers_are_those_of_the_state.ensures.sizes c.kept_numbers_are_those_of_the_state.ensures.lines c.kept_numbers_are_those_of_the_state.ensures.room
