-- The rules of the head, in parts.
use Rattle.std.specs.Prelude.{◌≡◌, ℕ, List, [], ◌∷◌, true}
use Rattle.k_journal.specs.pm_model.Words.{Words}
use Rattle.k_journal.specs.layout_model.Places.{Geometry}
use Rattle.k_journal.specs.layout_model.Superblock.{has_magic, has_version, has_numbers}
use Rattle.k_reading.specs.image_model.Broken.{Rule, at_one, below}
use Rattle.k_reading.specs.image_model.Rules.{HasMagic, HasVersion, HasNumbers, HasTarget, HasState}

-- rules 2 to 4 and rule 11
abbrev pub block_0_rules : ℕ → Words → List Rule
block_0_rules bytes f = at_one 2 0 (HasMagic f) ∷ at_one 3 0 (HasVersion f) ∷ at_one 4 0 (HasNumbers bytes f) ∷ []

abbrev pub journal_rules : Geometry → Words → List Rule
journal_rules g f = below 11 128 (HasTarget g f) ∷ at_one 11 128 (HasState f) ∷ []

-- the line is a superblock; or why it is none
pub record IsSuperKept (bytes : List ℕ) : Type 0 where
  pub magic : has_magic bytes ≡ true
  pub version : has_version bytes ≡ true
  pub numbers : has_numbers bytes ≡ true
