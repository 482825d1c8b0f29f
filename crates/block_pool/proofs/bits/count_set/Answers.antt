use Rattle.std.proofs.Common.{refl, sym, ◌∙◌, ap, arith}
use Rattle.extent_map.specs.extent_model.Counts.{one_if, count_below, count_below-more}
use Rattle.block_pool.specs.Bits.{is_set}
use Rattle.block_pool.proofs.bits.count_set.Goals as goal
use Rattle.block_pool.proofs.bits.count_set.Goals.{then-is_set, else-is_set}

pub loop-place-init : goal.loop-place-init
unfolding count_below
loop-place-init c = record { counted = refl; few = omega arith }

-- a place whose bit is set counts one
pub loop-place-preserved : goal.loop-place-preserved
loop-place-preserved c =
    let more = count_below-more (is_set c.args.words.now) c.loop-place.place in
    elim c.if-is_set.branch [
      | then-is_set w ↦
          let one = ap one_if (sym c.is_set.ensures ∙ w.if-is_set.true) in
          record { counted = omega (arith, more, one, c.loop-place.invariant.counted); few = omega arith }
      | else-is_set w ↦
          let none = ap one_if (sym c.is_set.ensures ∙ w.if-is_set.false) in
          record { counted = omega (arith, more, none, c.loop-place.invariant.counted); few = omega arith }
    ]
