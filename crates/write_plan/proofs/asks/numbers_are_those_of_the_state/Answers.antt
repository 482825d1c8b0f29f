use Rattle.write_plan.proofs.Calls.{may_move, moves_as_call, needs_as_call, open_moved, rows_as_call, starts_as_call}
use Rattle.write_plan.proofs.asks.numbers_are_those_of_the_state.Goals as goal

pub returns : goal.returns
returns c = record { starts = starts_as_call; rows = rows_as_call; needs = needs_as_call; moves = moves_as_call; may = may_move; opens = open_moved }
