use Rattle.std.proofs.Common.{subst, sym}
use Rattle.k_reading.specs.Pools.{AreInData}
use Rattle.k_plans.proofs.TableLists.{whole-in_data}
use Rattle.k_plans.proofs.plans.tables.Tables.of.Goals as goal

pub free_blocks-requires : goal.free_blocks-requires
free_blocks-requires c = record {
  in_data =
      subst (λ maps. AreInData c.args.geometry c.deref.result.now maps) (sym c.deref-2.ensures.value)
      (subst (λ chains. AreInData c.args.geometry chains c.args.maps.maps.items) (sym c.deref.ensures.value)
      (whole-in_data _ c.requires));
}
