use Rattle.std.proofs.Common.{◌≡◌, Err, sym, ◌∙◌, refl, rules}
use Rattle.std.specs.Prelude.{IsErrOf}
use Rattle.std.proofs.lemmas.Bool.{not-true, true≢false}
use Rattle.image_layout.specs.declared.layout.superblock.SuperFault.TheVariants.{Magic, Numbers}
use Rattle.image_layout.proofs.layout.superblock.read_superblock.Goals as goal

is_not_numbers : {T : Type 0} → IsErrOf {T = T} (Err Magic) Numbers → ⊥
is_not_numbers = search rules

pub returns-then-ne-clause-magic : goal.returns-then-ne-clause-magic
returns-then-ne-clause-magic c =
    let told = rw c.as_slice.ensures at c.ne.ensures in
    ((λ _. not-true _ (sym told ∙ c.if-ne.true)), λ _. refl)

pub returns-then-ne-clause-numbers : goal.returns-then-ne-clause-numbers
returns-then-ne-clause-numbers c =
    let told = rw c.as_slice.ensures at c.ne.ensures in (
      (λ e. absurd (is_not_numbers e)),
      λ w. absurd (true≢false (sym w.0 ∙ not-true _ (sym told ∙ c.if-ne.true))),
    )
