use Rattle.write_plan.proofs.Orders.{drafts_are_next}
use Rattle.write_plan.proofs.drafts.entries_are_the_next_ones.Goals as goal

pub returns : goal.returns
returns c = drafts_are_next
