use Rattle.std.proofs.Common.{below_more, sym, subst, ap, arith}
use Rattle.std.proofs.lemmas.Bool.{both_ways}
use Rattle.oplog_entry.specs.pm_model.Cells.{cell}
use Rattle.oplog_entry.specs.layout_model.Places.{Geometry}
use Rattle.check_image.specs.image_model.Honest.{SomeHasTwo}
use Rattle.k_check.proofs.crashes.log_has_two.Goals as goal

pub loop-slot-preserved : goal.loop-slot-preserved
loop-slot-preserved c =
    below_more _ _ c.loop-slot.invariant
    (λ some. both_ways c.some_has_two.result c.if-some_has_two.false (c.some_has_two.ensures.1 (subst (SomeHasTwo (cell c.args.pm.now)) (sym c.log_line.ensures) some)))

pub returns : goal.returns
returns c none slot below = c.loop-slot.invariant slot (omega (arith, c.loop-slot-test.false, ap (λ (g : Geometry). g.log) c.geometry.view_is))
