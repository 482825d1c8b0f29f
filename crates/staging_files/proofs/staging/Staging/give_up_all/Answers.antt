use Rattle.std.proofs.Common.{◌∷◌, [], sym, subst}
use Rattle.staging_files.specs.Keeps.{IsStaged}
use Rattle.staging_files.proofs.GiveUpLaws.{staged-nothing}
use Rattle.staging_files.proofs.staging.Staging.give_up_all.Goals as goal

pub invariant_of-self : goal.invariant_of-self
invariant_of-self c = subst (λ xs. IsStaged (record { out = xs; given = 0 ∷ 0 ∷ 0 ∷ 0 ∷ [] })) (sym c.clear.ensures.items) staged-nothing
