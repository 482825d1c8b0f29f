use Rattle.split_world.proofs.starting.taken_for.Goals as goal

pub tree-requires-clause-home : goal.tree-requires-clause-home
tree-requires-clause-home c = (c.a_world_begins.ensures.tree c.requires.0 c.requires.1 c.args.k.now c.requires.2).home

pub returns : goal.returns
returns c = record {
  shows = λ shape numbers. record { tree_is = c.in_ok-tree.ensures.content (c.requires.2.rest.order.none_set c.requires.2.rest.unbatched) (c.a_world_begins.ensures.tree c.requires.0 c.requires.1 c.args.k.now c.requires.2).none; shape_is = numbers };
  files = c.in_ok-tables.ensures;
  sizes = c.in_ok-files.ensures;
  empty = c.in_ok-spare.ensures.items;
  one = c.in_ok-spare.ensures.capacity;
}
