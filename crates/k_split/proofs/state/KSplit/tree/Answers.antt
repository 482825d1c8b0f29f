use Rattle.k_split.proofs.TreeLaws.{parts-content, parts-listed, parts-tree}
use Rattle.k_split.proofs.state.KSplit.tree.Goals as goal

pub content_tree-requires : goal.content_tree-requires
content_tree-requires c =
    let k = c.self.inside in
    parts-tree k.tables k.group k.batch k.pm k.batched k.lost c.args.self.now c.self.view_is c.requires.awake c.self.invariant c.inodes.result.now c.names.result.now
    c.maps.result.now c.inodes.ensures c.names.ensures c.maps.ensures c.requires.home

pub returns-clause-tree : goal.returns-clause-tree
returns-clause-tree c =
    let k = c.self.inside in
    parts-listed k.tables k.group k.batch k.pm k.batched k.lost c.args.self.now c.self.view_is c.requires.awake c.self.invariant c.inodes.result.now c.names.result.now
    c.maps.result.now c.inodes.ensures c.names.ensures c.maps.ensures c.content_tree.result c.content_tree.ensures

pub returns-clause-content : goal.returns-clause-content
returns-clause-content c lines none =
    let k = c.self.inside in
    parts-content k.tables k.group k.batch k.pm k.batched k.lost c.args.self.now c.self.view_is c.requires.awake c.self.invariant c.inodes.result.now c.names.result.now
    c.maps.result.now c.inodes.ensures c.names.ensures c.maps.ensures c.content_tree.result lines none c.content_tree.ensures
