use Rattle.fsync_relink.proofs.EntryLaws.{leaves-entries}
use Rattle.fsync_relink.proofs.OtherLaws.{leaves-others}
use Rattle.fsync_relink.proofs.publishing.laws.a_publishing_leaves_others.Goals as goal

pub returns-clause-others : goal.returns-clause-others
returns-clause-others c = leaves-others

pub returns-clause-entries : goal.returns-clause-entries
returns-clause-entries c = leaves-entries
