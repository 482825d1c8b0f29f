use Rattle.std.proofs.Common.{ap, ◌∙◌}
use Rattle.std.specs.Prelude.{sum_by}
use Rattle.k_tables.specs.TablesTrees.{children_at}
use Rattle.k_tables.proofs.TreeLaws.{level-next, level-root, short-more, short-none}
use Rattle.k_tables.proofs.tables.trees.places_by_length.Goals as goal

pub loop-length-init : goal.loop-length-init
loop-length-init c = (
  short-none c.args.names.now c.new-places.result.items c.new-places.ensures.items,
  level-root c.args.names.now c.in_ok-level.level.items c.in_ok-level.ensures,
)

pub loop-length-preserved : goal.loop-length-preserved
loop-length-preserved c = (
  short-more c.args.names.now c.loop-length._length c.loop-length.places.items c.loop-length.level.items c.append.new.self.items
      c.loop-length.invariant.0 c.loop-length.invariant.1 c.in_ok-append.ensures.items,
  level-next c.args.names.now c.loop-length._length c.loop-length.level.items c.in_ok-next.next.items c.loop-length.invariant.1
      c.in_ok-next.ensures.standing
      (λ path. c.in_ok-next.ensures.count path ∙ ap (sum_by (children_at c.args.names.now path)) c.deref.ensures.value),
)
