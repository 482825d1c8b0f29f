use Rattle.std.proofs.Common.{sym, ◌∙◌}
use Rattle.fsync_relink.proofs.NextLaws.{node-file, node-there}
use Rattle.fsync_relink.proofs.publishing.publishing.length_of.Goals as goal

pub unreachable-requires : goal.unreachable-requires
unreachable-requires c = node-there c.args.k.now.volume c.args.ino c.requires (sym c.node.ensures ∙ c.in-None.is)

pub returns : goal.returns
returns c = node-file c.args.k.now.volume c.args.ino c.in-Some.node c.requires (sym c.node.ensures ∙ c.in-Some.is)
