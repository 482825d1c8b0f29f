use Rattle.k_tables.proofs.ContentsContents.{tell-contents, one-tree}
use Rattle.k_tables.proofs.contents.laws.trees_tell_contents.Goals as goal

pub returns : goal.returns
returns c = record { content = tell-contents; one = one-tree }
