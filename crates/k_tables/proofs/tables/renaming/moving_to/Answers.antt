use Rattle.std.proofs.Common.{sym, ◌∙◌, Some, None}
use Rattle.name_laws.specs.k_split_model.Spaces.{space_of}
use Rattle.k_tables.specs.Refusals.{errno_row}
use Rattle.k_tables.proofs.RowFacts.{node-at, moving-same, moving-kinds, same_node, other_node}
use Rattle.k_tables.proofs.tables.renaming.moving_to.Goals as goal

pub returns-then-eq-clause-answer : goal.returns-then-eq-clause-answer
returns-then-eq-clause-answer c =
    let s = space_of c.args.inodes.now c.args.names.now in
    moving-same s c.args.path.now c.args.to.now c.args.ends.entry.child c.child_of-node.result
    (node-at s c.args.path.now c.args.ends.entry.parent c.args.ends.entry.child c.requires.entry.is_at)
    (c.entry_below-target.ensures.node ∙ sym c.child_of-node.ensures)
    (same_node c.child_of-node.result c.args.ends.entry.child (sym c.eq.ensures ∙ c.if-eq.true))

pub refused_kinds-requires-clause-node : goal.refused_kinds-requires-clause-node
refused_kinds-requires-clause-node c =
    node-at (space_of c.args.inodes.now c.args.names.now) c.args.path.now c.args.ends.entry.parent c.args.ends.entry.child c.requires.entry.is_at

pub refused_kinds-requires-clause-target : goal.refused_kinds-requires-clause-target
refused_kinds-requires-clause-target c = c.entry_below-target.ensures.node ∙ sym c.child_of-node.ensures

pub returns-in-Some-clause-answer : goal.returns-in-Some-clause-answer
returns-in-Some-clause-answer c =
    let s = space_of c.args.inodes.now c.args.names.now in
    moving-kinds s c.args.path.now c.args.to.now c.args.ends.entry.child c.child_of-node.result (errno_row (Some c.in-Some.errno))
    (node-at s c.args.path.now c.args.ends.entry.parent c.args.ends.entry.child c.requires.entry.is_at)
    (c.entry_below-target.ensures.node ∙ sym c.child_of-node.ensures)
    (other_node c.child_of-node.result c.args.ends.entry.child (sym c.eq.ensures ∙ c.if-eq.false))
    c.in-Some.ensures

pub returns-in-None-clause-answer : goal.returns-in-None-clause-answer
returns-in-None-clause-answer c =
    let s = space_of c.args.inodes.now c.args.names.now in
    moving-kinds s c.args.path.now c.args.to.now c.args.ends.entry.child c.child_of-node.result None
    (node-at s c.args.path.now c.args.ends.entry.parent c.args.ends.entry.child c.requires.entry.is_at)
    (c.entry_below-target.ensures.node ∙ sym c.child_of-node.ensures)
    (other_node c.child_of-node.result c.args.ends.entry.child (sym c.eq.ensures ∙ c.if-eq.false))
    c.in-None.ensures
