use Rattle.std.proofs.Common.{[], sym, ◌∙◌, subst}
use Rattle.block_io.specs.layout_model.Places.{IsGeometry}
use Rattle.k_map_plans.specs.k_plans.View.{tables_view}
use Rattle.k_split.proofs.OpenLaws.{if-tables, keyed, openable, tables-read, tables-whole}
use Rattle.k_split.proofs.opening.read_tables.Goals as goal

pub read_names-requires-clause-keyed : goal.read_names-requires-clause-keyed
read_names-requires-clause-keyed c =
    let r = c.requires in
    keyed c.args.geometry c.args.pm.now (subst IsGeometry c.geometry.view_is c.geometry.invariant)
    (openable c.args.geometry c.args.pm.now r.size r.single r.idle r.numbers r.checked)

pub of-requires : goal.of-requires
of-requires c =
    let r = c.requires in
    let open_is = openable c.args.geometry c.args.pm.now r.size r.single r.idle r.numbers r.checked in
    let is : IsGeometry c.args.geometry = subst IsGeometry c.geometry.view_is c.geometry.invariant in
    tables-whole c.args.geometry c.args.pm.now
    (tables_view c.args.geometry c.read_base-base.result c.in_ok-inodes.inodes.items c.in_ok-names.names c.in_ok-maps.maps.chains.items
    c.in_ok-maps.maps.maps.items [] []) is open_is
    (tables-read c.args.geometry c.args.pm.now c.read_base-base.result c.in_ok-inodes.inodes.items c.in_ok-names.names c.in_ok-maps.maps.chains.items
    c.in_ok-maps.maps.maps.items is open_is c.read_base-base.ensures c.in_ok-inodes.ensures c.in_ok-names.ensures
    (λ h w size reads same. c.in_ok-maps.ensures.reads h w size reads (same ∙ sym c.deref.ensures.value)))

pub returns : goal.returns
returns c =
    let r = c.requires in
    let open_is = openable c.args.geometry c.args.pm.now r.size r.single r.idle r.numbers r.checked in
    let is : IsGeometry c.args.geometry = subst IsGeometry c.geometry.view_is c.geometry.invariant in
    if-tables c.args.geometry c.args.pm.now
    (tables_view c.args.geometry c.read_base-base.result c.in_ok-inodes.inodes.items c.in_ok-names.names c.in_ok-maps.maps.chains.items
    c.in_ok-maps.maps.maps.items [] []) c.of.result c.of.ensures
    (tables-read c.args.geometry c.args.pm.now c.read_base-base.result c.in_ok-inodes.inodes.items c.in_ok-names.names c.in_ok-maps.maps.chains.items
    c.in_ok-maps.maps.maps.items is open_is c.read_base-base.ensures c.in_ok-inodes.ensures c.in_ok-names.ensures
    (λ h w size reads same. c.in_ok-maps.ensures.reads h w size reads (same ∙ sym c.deref.ensures.value)))
