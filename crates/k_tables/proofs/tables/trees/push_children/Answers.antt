use Rattle.std.proofs.Common.{ap, ◌∙◌, ◌++◌, map}
use Rattle.k_tables.specs.TablesTrees.{child_place}
use Rattle.k_tables.proofs.TreeLaws.{pushed-one, pushed-all}
use Rattle.k_tables.proofs.tables.trees.push_children.Goals as goal

pub loop-name-preserved : goal.loop-name-preserved
loop-name-preserved c =
    pushed-one (child_place c.args.names.now c.args.place.now) c.deref-name-items.result.now c.loop-name.name-index c.name-item.result c.in_ok-child_place.field-0
    c.loop-name.found.items c.push.new.self.items _ c.loop-name-test.true c.name-item.is c.in_ok-push.ensures.items c.in_ok-child_place.ensures c.loop-name.invariant

pub returns : goal.returns
returns c = record {
  names = c.in_ok-children.children.items;
  are = c.in_ok-children.ensures.names;
  is =
      pushed-all (child_place c.args.names.now c.args.place.now) c.deref-name-items.result.now c.loop-name.name-index c.loop-name.found.items _
      c.loop-name-test.false c.loop-name.invariant
      ∙ ap (λ names. c.args.found.now.items ++ map (child_place c.args.names.now c.args.place.now) names) c.deref-name-items.ensures.value;
}
