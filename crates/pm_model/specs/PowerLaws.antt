-- Laws of powers that the layers above cite.
use Rattle.std.specs.Prelude.{◌≡◌, ◌+◌, ℕ, Option, Some, None, false}
use Rattle.std.proofs.Common.{refl, ap, arith, ◌∙◌}
use Rattle.pm_model.specs.Powers.{Supply, is_on, is_left, stepped, taken_after, Steps}

-- a step that is asked for in vain changes nothing
pub stepped-off : (p : Supply) → is_on p ≡ false → stepped p ≡ p
stepped-off p off = ap (λ (t : ℕ). record { given = p.given; taken = t }) (unchanged p.given p.taken off)
  where
    unchanged : (given : Option ℕ) (taken : ℕ) → is_left given taken ≡ false → taken_after given taken ≡ taken
    unchanged None taken off = refl
    unchanged (Some given) taken off = rw off refl

-- steps, and then more
pub Steps-then : (m n : ℕ) (a b c : Supply) → Steps m a b → Steps n b c → Steps (m + n) a c
Steps-then m n a b c first second = record {
  given = second.given ∙ first.given;
  on_before = λ on. first.on_before (second.on_before on);
  later = omega (arith, first.later, second.later);
  bound = omega (arith, first.bound, second.bound);
}

-- no step
pub Steps-none : (a : Supply) → Steps 0 a a
Steps-none a = record { given = refl; on_before = λ on. on; later = omega arith; bound = omega arith }
