use Rattle.std.proofs.Common.{◌<◌, ◌++◌, subst, sym}
use Rattle.layout_model.specs.Names.{names_of}
use Rattle.k_tables.specs.image_model.Volume.{Volume}
use Rattle.k_tables.specs.name_laws.KeptLaws.{kept-acyclic}
use Rattle.k_plans.specs.View.{map_blocks, tables_view, TablesView}
use Rattle.k_reading.specs.block_pool.FreeSets.{free_list}
use Rattle.k_plans.proofs.NamedNodes.{below-named, named-below}
use Rattle.k_plans.proofs.plans.tables.Tables.named.Goals as goal

pub below-requires : goal.below-requires
below-requires c =
    let whole = c.self.invariant.whole in
    kept-acyclic _ whole.kept.kept whole.kept.all

pub returns-then-ino-ne0 : goal.returns-then-ino-ne0
returns-then-ino-ne0 c =
    let k = c.self.inside in
    let v : Volume = (tables_view k.geometry k.base k.inodes.items k.names k.chains.items k.maps.items (map_blocks k.dropped ++ k.aside.items) (free_list k.held)).volume in (
      λ is.
          subst (λ (t : TablesView). 0 < names_of t.volume.names c.args.ino) c.self.view_is
          (below-named v c.args.ino c.if-ino-ne0.true (c.below.ensures.0 is)),
      λ some.
          c.below.ensures.1
          (named-below v c.args.ino c.self.invariant.whole.kept
          (subst (λ (t : TablesView). 0 < names_of t.volume.names c.args.ino) (sym c.self.view_is) some)).1,
    )
