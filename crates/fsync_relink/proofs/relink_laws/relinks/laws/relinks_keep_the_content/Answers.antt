use Rattle.fsync_relink.proofs.WorldLaws.{keeps-content}
use Rattle.fsync_relink.proofs.relink_laws.relinks.laws.relinks_keep_the_content.Goals as goal

pub returns : goal.returns
returns c = keeps-content
