use Rattle.std.proofs.Common.{◌∙◌, ◌+◌, ap, subst, sym, arith, length}
use Rattle.k_journal.specs.layout_model.Places.{first_data}
use Rattle.k_reading.specs.image_model.Broken.{FailsFirst}
use Rattle.check_image.specs.Marks.{AreFew, IsFirstTwice}
use Rattle.check_image.specs.Readings.{blocks_rule}
use Rattle.check_image.proofs.UseFacts.{marks-owners, blocks-once, blocks-twice}
use Rattle.check_image.proofs.volumes.check_blocks.Goals as goal

pub first_twice-requires : goal.first_twice-requires
first_twice-requires c =
    omega (arith, ap length c.deref-3.ensures.value, c.in_ok-marks.ensures.count, c.first_data-first.ensures.in_range.most_blocks)

pub returns-in-Some-clause-bad : goal.returns-in-Some-clause-bad
returns-in-Some-clause-bad c v of =
    let are = marks-owners c.args.geometry.now c.args.maps.now.chains.items c.args.maps.now.maps.items c.in_ok-marks.marks.items v of c.in_ok-marks.ensures.count (rw (c.deref.ensures.value, c.deref-2.ensures.value) at c.in_ok-marks.ensures.uses) in
    let twice : IsFirstTwice c.in_ok-marks.marks.items c.in-Some.place = rw c.deref-3.ensures.value at c.in-Some.ensures in
    let place = ap first_data of.geometry ∙ sym c.first_data-first.ensures.number in
    subst (λ first. FailsFirst (blocks_rule v) (first + c.in-Some.place)) place (blocks-twice v c.in_ok-marks.marks.items c.in-Some.place are twice)

pub returns-in-None-clause-marks : goal.returns-in-None-clause-marks
returns-in-None-clause-marks c v of =
    marks-owners c.args.geometry.now c.args.maps.now.chains.items c.args.maps.now.maps.items c.in_ok-marks.marks.items v of c.in_ok-marks.ensures.count (rw (c.deref.ensures.value, c.deref-2.ensures.value) at c.in_ok-marks.ensures.uses)

pub returns-in-None-clause-ok : goal.returns-in-None-clause-ok
returns-in-None-clause-ok c v of =
    let are = marks-owners c.args.geometry.now c.args.maps.now.chains.items c.args.maps.now.maps.items c.in_ok-marks.marks.items v of c.in_ok-marks.ensures.count (rw (c.deref.ensures.value, c.deref-2.ensures.value) at c.in_ok-marks.ensures.uses) in
    let few : AreFew c.in_ok-marks.marks.items (length c.in_ok-marks.marks.items) = rw c.deref-3.ensures.value at c.in-None.ensures in
    blocks-once v c.in_ok-marks.marks.items are few
