use Rattle.std.proofs.Common.{sym, ◌∙◌}
use Rattle.k_split.proofs.LookLaws.{found-lost, found-none, found-some, leads-in}
use Rattle.k_split.proofs.state.KSplit.find.Goals as goal

pub node_below-requires : goal.node_below-requires
node_below-requires c =
    let k = c.self.inside in
    leads-in c.args.self.now k.tables k.group k.pm k.batched k.lost c.inodes.result.now c.names.result.now c.args.path.now c.self.view_is
    c.inodes.ensures c.names.ensures c.in-Ok.parent c.in-Ok.ensures

pub returns-in-Err : goal.returns-in-Err
returns-in-Err c = found-lost c.args.self.now.volume c.args.path.now c.in-Err.errno c.in-Err.ensures

pub returns-in-None : goal.returns-in-None
returns-in-None c =
    let k = c.self.inside in
    found-none c.args.self.now k.tables k.group k.pm k.batched k.lost c.inodes.result.now c.names.result.now c.args.path.now c.self.view_is
    c.inodes.ensures c.names.ensures c.in-Ok.parent c.in-Ok.ensures (sym c.node_below.ensures ∙ c.in-None.is)

pub returns-in-Some : goal.returns-in-Some
returns-in-Some c =
    let k = c.self.inside in
    found-some c.args.self.now k.tables k.group k.pm k.batched k.lost c.inodes.result.now c.names.result.now c.args.path.now c.self.view_is
    c.inodes.ensures c.names.ensures c.in-Ok.parent c.in-Some.ino c.in-Ok.ensures (sym c.node_below.ensures ∙ c.in-Some.is)
