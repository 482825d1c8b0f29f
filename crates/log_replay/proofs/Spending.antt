-- What is taken of the power by one step after the other.
use Rattle.std.proofs.Common.{ℕ, refl, ◌∙◌, arith}
use Rattle.k_check.specs.pm_model.Powers.{Steps, Supply}
use Rattle.log_replay.specs.Quiet.{IsSpent}

pub spent-none : (a : Supply) → IsSpent a a
spent-none a = record { given = refl; on_before = λ on. on; later = omega arith }

pub spent-steps : (n : ℕ) (a b : Supply) → Steps n a b → IsSpent a b
spent-steps n a b steps = record { given = steps.given; on_before = steps.on_before; later = steps.later }

pub spent-then : (a b c : Supply) → IsSpent a b → IsSpent b c → IsSpent a c
spent-then a b c first second = record {
  given = second.given ∙ first.given;
  on_before = λ on. first.on_before (second.on_before on);
  later = omega (arith, first.later, second.later);
}
