use Rattle.std.proofs.Common.{subst, arith}
use Rattle.extent_map.specs.Pieces.{AppendsBetween}
use Rattle.extent_map.proofs.Whole.{outside_part, overlaps_count}
use Rattle.extent_map.proofs.pieces.outside.Goals as goal

pub returns-clause-part : goal.returns-clause-part
returns-clause-part c =
    let first = subst (λ xs. AppendsBetween 0 c.args.from c.args.source.now xs c.append_between.new.extents.items) c.new-extents.ensures.items c.in_ok-append_between.ensures in
    outside_part _ _ _ _ _ c.requires.from c.requires.to c.requires.source first c.in_ok-append_between-2.ensures

pub returns-clause-few : goal.returns-clause-few
returns-clause-few c =
    let first = c.in_ok-append_between.ensures in
    let second = c.in_ok-append_between-2.ensures in
    omega (arith, first.few, second.few, overlaps_count c.args.from c.args.to c.args.source.now c.requires.from c.requires.source)
