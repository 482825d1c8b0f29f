-- An image of another length.
use Rattle.std.proofs.Common.{◌≡◌, ◌≢◌, ◌⊎◌, ◌≤◌, ◌<◌, ◌/◌, ◌%◌, ℕ, refl, arith, inl, inr}
use Rattle.command_line.specs.pm_model.Words.{Words}
use Rattle.split_machine.specs.image_model.Broken.{at_one, Breaks, FailsFirst}
use Rattle.split_machine.specs.image_model.Rules.{IsWholeBlocks}

-- rule 1
pub other-length : (n : ℕ) → (n % 4096 ≢ 0) ⊎ (n / 4096 < 64) ⊎ (16384 < n / 4096) → IsWholeBlocks n → ⊥
other-length n (inl part) w = part (omega (arith, w.whole))
other-length n (inr (inl few)) w = omega (arith, few, w.whole, w.least)
other-length n (inr (inr many)) w = omega (arith, many, w.whole, w.most)

pub whole-blocks : (n : ℕ) → n % 4096 ≡ 0 → 64 ≤ n / 4096 → n / 4096 ≤ 16384 → IsWholeBlocks n
whole-blocks n whole least most = record { blocks = n / 4096; whole = omega arith; least = least; most = most }

pub breaks-length : (bytes : ℕ) (f : Words) → (IsWholeBlocks bytes → ⊥) → Breaks bytes f 1 bytes
breaks-length bytes f none = inl (refl, fails) where
  fails : FailsFirst (at_one 1 bytes (IsWholeBlocks bytes)) bytes
  fails = record { from = omega arith; within = omega arith; before = λ p from early. absurd (omega arith); fails = none }
