-- The rules of the log behind all others.
use Rattle.std.proofs.Common.{◌≡◌, ℕ, ◌*◌, ◌≤◌, ◌^◌, refl, sym, ◌∙◌, ap, subst, arith, inl, inr}
use Rattle.oplog_entry.specs.pm_model.Words.{Words}
use Rattle.oplog_entry.specs.layout_model.Journal.{journaled}
use Rattle.oplog_entry.specs.layout_model.Places.{Geometry, base_word}
use Rattle.check_image.specs.image_model.Broken.{at_one, Holds, HoldAll, FailsFirst, BreaksFirst, Breaks, log_rules}
use Rattle.check_image.specs.image_model.Checked.{HasHead}
use Rattle.check_image.specs.image_model.Rules.{geometry_of, CanRecover, IsChecked}
use Rattle.check_image.specs.image_model.Volume.{Volume, volume}
use Rattle.check_image.specs.image_laws.BrokenLaws.{HoldAll-append, BreaksFirst-behind, BreaksFirst-before}
use Rattle.check_image.specs.image_laws.CheckedLaws.{checked-HoldAll, checked-unbroken}
use Rattle.check_image.specs.volume_laws.ReadingLaws.{volume-geometry}
use Rattle.check_image.specs.Readings.{AreTables, front_rules}
use Rattle.check_image.specs.declared.reading.Tables.{Tables}
use Rattle.k_check.specs.Slots.{later_rule}

-- the volume of an image
abbrev pub volume_of : Words → Volume
volume_of f = volume (geometry_of f) (journaled f)

pub geometry-read : (f : Words) (t : Tables) → AreTables (volume_of f) t → t.geometry ≡ geometry_of f
geometry-read f t are = sym are.geometry ∙ volume-geometry (geometry_of f) (journaled f)

pub size-read : (n : ℕ) (f : Words) (t : Tables) → AreTables (volume_of f) t → HasHead (8 * n) f → n ≡ 512 * t.geometry.blocks
size-read n f t are head =
    omega (arith, head.numbers.whole, ap (λ (g : Geometry). g.blocks) (geometry-read f t are))

base-of : (g : Geometry) (j : Words) → (volume g j).base ≡ j base_word
unfolding volume
base-of g j = refl

pub base-read : (bytes : ℕ) (f : Words) (t : Tables) → AreTables (volume_of f) t → HasHead bytes f → t.base ≤ 2 ^ 63
base-read bytes f t are head =
    subst (λ b. b ≤ 2 ^ 63) (sym (base-of (geometry_of f) (journaled f)) ∙ are.base) head.state.most_base

-- the first broken rule
pub breaks-front : (bytes : ℕ) (f : Words) (number place : ℕ) → BreaksFirst (front_rules bytes f) number place → Breaks bytes f number place
breaks-front bytes f number place = BreaksFirst-before (front_rules bytes f) (log_rules (volume_of f) (journaled f)) number place

pub breaks-recovery : (bytes : ℕ) (f : Words) → HoldAll (front_rules bytes f) → (CanRecover (volume_of f) (journaled f) → ⊥) → Breaks bytes f 12 0
breaks-recovery bytes f front none =
    BreaksFirst-behind (front_rules bytes f) (log_rules (volume_of f) (journaled f)) 12 0 front (inl (refl, fails))
  where
    fails : FailsFirst (at_one 12 0 (CanRecover (volume_of f) (journaled f))) 0
    fails = record { from = omega arith; within = omega arith; before = λ p low early. absurd (omega arith); fails = none }

pub breaks-later : (bytes : ℕ) (f : Words) (place : ℕ) → HoldAll (front_rules bytes f) → CanRecover (volume_of f) (journaled f)
    → FailsFirst (later_rule (volume_of f) (journaled f)) place → Breaks bytes f 13 place
breaks-later bytes f place front can fails =
    BreaksFirst-behind (front_rules bytes f) (log_rules (volume_of f) (journaled f)) 13 place front (inr (λ p low below. can, inl (refl, fails)))

-- an image that was checked is read whole
pub read-whole : (bytes : ℕ) (f : Words) (number place : ℕ) → IsChecked bytes f → BreaksFirst (front_rules bytes f) number place → ⊥
read-whole bytes f number place checked breaks = checked-unbroken bytes f number place checked (breaks-front bytes f number place breaks)

-- no rule is broken
pub all-kept : (bytes : ℕ) (f : Words) → HoldAll (front_rules bytes f) → CanRecover (volume_of f) (journaled f)
    → Holds (later_rule (volume_of f) (journaled f)) → IsChecked bytes f
all-kept bytes f front can later =
    (checked-HoldAll bytes f).1 (HoldAll-append (front_rules bytes f) (log_rules (volume_of f) (journaled f)) front (λ p low below. can, (later, tt)))
