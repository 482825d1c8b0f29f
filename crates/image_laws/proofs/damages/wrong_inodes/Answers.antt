-- the rows
use Rattle.image_laws.specs.LineDamage.{inode_line-breaks}
use Rattle.image_laws.specs.MapDamage.{root_leads_to_zeros}
use Rattle.image_laws.specs.TreeRows.{kind_2_at_1, staging_at_5, kind_4}
use Rattle.image_laws.proofs.damages.wrong_inodes.Goals as goal

pub returns-clause-each : goal.returns-clause-each
returns-clause-each c = inode_line-breaks

pub returns-clause-file : goal.returns-clause-file
returns-clause-file c = kind_2_at_1

pub returns-clause-staging : goal.returns-clause-staging
returns-clause-staging c = staging_at_5

pub returns-clause-kind : goal.returns-clause-kind
returns-clause-kind c = kind_4

pub returns-clause-root : goal.returns-clause-root
returns-clause-root c = root_leads_to_zeros
