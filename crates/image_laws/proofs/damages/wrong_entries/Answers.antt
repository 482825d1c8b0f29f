-- the rows
use Rattle.image_laws.specs.EntryRows.{one_order_twice, no_staging_block, seq_5_at_0}
use Rattle.image_laws.specs.LogDamage.{later_lap}
use Rattle.image_laws.proofs.damages.wrong_entries.Goals as goal

pub returns-clause-orders : goal.returns-clause-orders
returns-clause-orders c = one_order_twice

pub returns-clause-unstaged : goal.returns-clause-unstaged
returns-clause-unstaged c = no_staging_block

pub returns-clause-later : goal.returns-clause-later
returns-clause-later c = later_lap

pub returns-clause-number : goal.returns-clause-number
returns-clause-number c = seq_5_at_0
