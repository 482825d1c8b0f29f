use Rattle.std.proofs.Common.{◌≡◌, ◌+◌, length, sym, ◌∙◌, ap, subst, arith}
use Rattle.std.proofs.lemmas.List.{with_items_is}
use Rattle.k_journal.specs.layout_model.Places.{first_data}
use Rattle.check_image.specs.Marks.{AreMarks, uses_in}
use Rattle.check_image.proofs.MarkFacts.{marks-none, marks-agree}
use Rattle.check_image.proofs.blocks.count_uses.Goals as goal

pub returns-clause-uses : goal.returns-clause-uses
returns-clause-uses c =
    let new = c.mark_all.new.marks in
    let size : length new ≡ c.in_ok-marks.marks.len = omega (arith, c.mark_all.auto.marks, c.deref_mut.ensures.len) in
    let blank = c.deref_mut.ensures.value ∙ c.in_ok-marks.ensures.items_if_clones_equal (λ y same. same) in
    let uses : AreMarks new (λ i. 0 + uses_in c.args.chains.now c.args.maps.now (c.first_data-first.result + i)) =
    c.mark_all.ensures (λ i. 0) (marks-none c.deref_mut.result.now _ blank)
    in
    subst (λ marks. AreMarks marks (λ i. uses_in c.args.chains.now c.args.maps.now (first_data c.args.geometry.now + i)))
    (sym (with_items_is c.in_ok-marks.marks new size))
    (marks-agree new _ _ (λ i below. ap (λ f. 0 + uses_in c.args.chains.now c.args.maps.now (f + i)) c.first_data-first.ensures.number ∙ omega arith) uses)
