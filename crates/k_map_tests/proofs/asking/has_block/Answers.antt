use Rattle.std.proofs.Common.{◌≡◌, ◌∙◌, ℕ, Option, List, Some, None, true, refl, sym, ap}
use Rattle.std.specs.Option.{is_some}
use Rattle.k_check.specs.extent_model.Extents.{disk_at}
use Rattle.k_check.specs.extent_model.declared.extent_words.Extent.{Extent}
use Rattle.k_map_tests.proofs.asking.has_block.Goals as goal

some-at : (o : Option ℕ) → is_some o ≡ true → (b : ℕ) × (o ≡ Some b)
some-at (Some b) is = (b, refl)
some-at None is = absurd cc

pub returns-in-Some-clause-there : goal.returns-in-Some-clause-there
returns-in-Some-clause-there c = λ is.
    let found = some-at c.lookup.result (sym c.is_some.ensures ∙ is) in
    (found.0, ap (λ (es : List Extent). disk_at es c.args.block) (sym c.in-Some.ensures.map) ∙ (sym c.lookup.ensures.disk ∙ found.1))
