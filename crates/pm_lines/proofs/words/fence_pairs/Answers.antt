use Rattle.std.proofs.Common.{◌≡◌, ◌-◌, ◌+◌, ◌<◌, length, sym, ◌∙◌, arith, rules}
use Rattle.pm_lines.proofs.WordCells.{DropsPair-linked, DropsPair-fenced, fenced-none_marked}
use Rattle.pm_lines.proofs.words.fence_pairs.Goals as goal

pub loop-left-preserved : goal.loop-left-preserved
loop-left-preserved c =
    let place = c.loop-left.left - 1 in
    let one_more : place + 1 ≡ c.loop-left.left = omega (arith, c.loop-left-test.true) in
    let below : place < length c.loop-left.pairs.items = omega (arith, c.loop-left.invariant.in_range, c.loop-left-test.true) in
    let drops = c.drop_pair.ensures.drops in
    record {
      in_range = omega (arith, drops.count, below);
      linked = DropsPair-linked place c.loop-left.values.items c.loop-left.pairs.items _ _ c.loop-left.invariant.linked below drops;
      capacity = c.drop_pair.ensures.capacity ∙ c.loop-left.invariant.capacity;
      size = drops.size ∙ c.loop-left.invariant.size;
      cells = λ i. rw one_more at (DropsPair-fenced place c.loop-left.values.items c.loop-left.pairs.items _ _ c.loop-left.invariant.linked below drops i)
          ∙ c.loop-left.invariant.cells i;
    }

pub returns-clause-cells : goal.returns-clause-cells
returns-clause-cells c i =
    let none : c.loop-left.left ≡ 0 = omega (arith, c.loop-left-test.false) in
    sym (fenced-none_marked c.loop-left.values.items c.loop-left.pairs.items i c.loop-left.invariant.linked) ∙ rw none at (c.loop-left.invariant.cells i)

pub loop-left-init : goal.loop-left-init
loop-left-init c = search rules
