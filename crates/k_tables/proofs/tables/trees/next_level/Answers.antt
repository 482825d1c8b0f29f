use Rattle.k_tables.proofs.TreeLaws.{part-more, part-all}
use Rattle.k_tables.proofs.tables.trees.next_level.Goals as goal

pub loop-place-preserved : goal.loop-place-preserved
loop-place-preserved c =
    part-more c.args.names.now c.args.level.now c.loop-place.place-index c.loop-place.next.items c.push_children.new.found.items c.place-item.result
    c.requires.keyed c.requires.standing c.loop-place-test.true c.place-item.is c.loop-place.invariant c.in_ok-push_children.ensures

pub returns-clause-count : goal.returns-clause-count
returns-clause-count c = part-all c.args.names.now c.args.level.now c.loop-place.place-index c.loop-place.next.items c.loop-place.invariant c.loop-place-test.false
