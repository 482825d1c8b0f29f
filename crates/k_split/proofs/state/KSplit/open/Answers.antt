use Rattle.std.proofs.Common.{ap, subst}
use Rattle.block_io.specs.layout_model.Places.{IsGeometry}
use Rattle.k_map_plans.specs.k_plans.View.{TablesView}
use Rattle.k_split.proofs.OpenLaws.{openable, opened-as, opened-ready}
use Rattle.k_split.proofs.Steady.{steady-ready}
use Rattle.k_split.proofs.state.KSplit.open.Goals as goal

pub invariant_of-result-2 : goal.invariant_of-result-2
invariant_of-result-2 c on =
    let r = c.requires in
    opened-ready c.args.geometry c.args.pm c.in_ok-tables.tables c.args.batched c.in_ok-group.group c.in_ok-batch.batch
    (subst IsGeometry c.geometry.view_is c.geometry.invariant)
    (openable c.args.geometry c.args.pm r.size r.single r.idle r.numbers r.checked) c.in_ok-tables.ensures c.in_ok-group.ensures c.in_ok-batch.ensures

pub returns : goal.returns
returns c =
    let r = c.requires in
    opened-as c.args.geometry c.args.pm c.in_ok-tables.tables c.args.batched c.in_ok-group.group c.in_ok-batch.batch (subst IsGeometry c.geometry.view_is c.geometry.invariant)
    (openable c.args.geometry c.args.pm r.size r.single r.idle r.numbers r.checked) c.in_ok-tables.ensures c.in_ok-group.ensures c.in_ok-batch.ensures

pub invariant_of-result : goal.invariant_of-result
invariant_of-result c =
    let r = c.requires in
    let ready =
    opened-ready c.args.geometry c.args.pm c.in_ok-tables.tables c.args.batched c.in_ok-group.group c.in_ok-batch.batch
    (subst IsGeometry c.geometry.view_is c.geometry.invariant)
    (openable c.args.geometry c.args.pm r.size r.single r.idle r.numbers r.checked) c.in_ok-tables.ensures c.in_ok-group.ensures c.in_ok-batch.ensures
    in (
      ap (λ (u : TablesView). u.aside) c.in_ok-tables.ensures,
      (λ on. steady-ready c.in_ok-tables.tables c.in_ok-group.group c.in_ok-batch.batch c.args.pm c.args.batched ready, tt),
    )
