use Rattle.write_plan.proofs.PartBlocks.{stages_the_part}
use Rattle.write_plan.proofs.parts.staged_blocks_are_those_of_the_part.Goals as goal

pub returns : goal.returns
returns c = stages_the_part
