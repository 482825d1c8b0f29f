use Rattle.std.proofs.Common.{◌≡◌, ◌+◌, length, sym, ◌∙◌, subst, arith}
use Rattle.std.proofs.lemmas.List.{with_items_is}
use Rattle.k_reading.specs.layout_model.Names.{names_of}
use Rattle.check_image.specs.Marks.{AreMarks}
use Rattle.check_image.proofs.MarkFacts.{marks-none, marks-agree}
use Rattle.check_image.proofs.names.count_names.Goals as goal

pub returns-clause-names : goal.returns-clause-names
returns-clause-names c =
    let new = c.mark_children.new.marks in
    let size : length new ≡ c.in_ok-marks.marks.len = omega (arith, c.mark_children.auto.marks, c.deref_mut.ensures.len) in
    let blank = c.deref_mut.ensures.value ∙ c.in_ok-marks.ensures.items_if_clones_equal (λ y same. same) in
    let named : AreMarks new (λ ino. 0 + names_of c.args.names.now ino) = c.mark_children.ensures (λ i. 0) (marks-none c.deref_mut.result.now _ blank) in
    subst (λ marks. AreMarks marks (names_of c.args.names.now)) (sym (with_items_is c.in_ok-marks.marks new size))
    (marks-agree new _ _ (λ i below. omega arith) named)
