use Rattle.std.proofs.Common.{◌+◌, subst, arith}
use Rattle.extent_map.specs.Pieces.{AppendsBetween}
use Rattle.extent_map.proofs.Whole.{with_run_map, overlaps_count}
use Rattle.extent_map.proofs.pieces.with_run.Goals as goal

pub returns-clause-map : goal.returns-clause-map
returns-clause-map c =
    let first = subst (λ xs. AppendsBetween 0 c.args.run.file c.args.source.now xs c.append_between.new.extents.items) c.new-extents.ensures.items c.in_ok-append_between.ensures in
    with_run_map _ _ _ _ _ c.requires.in_file c.requires.source first c.in_ok-append_run.ensures c.in_ok-append_between-2.ensures

pub returns-clause-few : goal.returns-clause-few
returns-clause-few c =
    let first = c.in_ok-append_between.ensures in
    let run = c.in_ok-append_run.ensures in
    let second = c.in_ok-append_between-2.ensures in
    omega (arith, first.few, run.few, second.few, overlaps_count c.args.run.file (c.args.run.file + c.args.run.count) c.args.source.now (omega arith) c.requires.source)
