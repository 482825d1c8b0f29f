use Rattle.write_plan.proofs.Orders.{drafts_are_next_shown}
use Rattle.write_plan.proofs.shown.entries_are_next_of_what_is_shown.Goals as goal

pub returns : goal.returns
returns c = drafts_are_next_shown
