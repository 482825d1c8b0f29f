use Rattle.write_end.proofs.Apart.{has_loans_apart, stands_apart}
use Rattle.write_end.proofs.Homes.{come_home_more, come_home_none, has_blocks_out, leaves_blocks}
use Rattle.write_end.proofs.losing.blocks_are_out_or_at_home.Goals as goal

pub returns-clause-out : goal.returns-clause-out
returns-clause-out c = has_blocks_out

pub returns-clause-left : goal.returns-clause-left
returns-clause-left c = leaves_blocks

pub returns-clause-none : goal.returns-clause-none
returns-clause-none c = come_home_none

pub returns-clause-more : goal.returns-clause-more
returns-clause-more c = come_home_more

pub returns-clause-lost_apart : goal.returns-clause-lost_apart
returns-clause-lost_apart c = has_loans_apart

pub returns-clause-stand_apart : goal.returns-clause-stand_apart
returns-clause-stand_apart c = stands_apart
