-- Rules with one place, and the head's rules as they are tried.
use Rattle.std.proofs.Common.{◌≡◌, ℕ, ◌*◌, ◌<◌, ◌≤◌, ◌/◌, ◌%◌, ◌⊎◌, true, false, List, ◌++◌, refl, sym, ap, ◌∙◌, arith, inl, inr}
use Rattle.std.proofs.lemmas.Bool.{both_ways}
use Rattle.k_journal.specs.pm_model.Words.{Words, line_bytes}
use Rattle.k_journal.specs.layout_model.Journal.{committed, record_target}
use Rattle.k_journal.specs.layout_model.Places.{Geometry, is_journaled_line}
use Rattle.k_journal.specs.layout_model.Superblock.{has_magic, has_version, has_numbers}
use Rattle.k_reading.specs.image_model.Broken.{at_one, below, Holds, HoldAll, FailsFirst, BreaksFirst, head_rules}
use Rattle.k_reading.specs.image_model.Checked.{HasHead}
use Rattle.k_reading.specs.image_model.Rules.{geometry_of, IsWholeBlocks, HasMagic, HasVersion, HasNumbers, HasTarget, HasState}
use Rattle.k_reading.specs.image_laws.BrokenLaws.{BreaksFirst-before}
use Rattle.check_image.specs.Heads.{block_0_rules, journal_rules, IsSuperKept}

-- a rule with one place holds, or fails there
pub holds-one : (number place : ℕ) (P : Type 0) → P → Holds (at_one number place P)
holds-one number place P here = λ p from below. here

pub fails-one : (number place : ℕ) (P : Type 0) → (P → ⊥) → FailsFirst (at_one number place P) place
fails-one number place P none = record {
  from = omega arith;
  within = omega arith;
  before = λ p from early. absurd (omega arith);
  fails = none;
}

-- block 0
pub breaks-magic : (bytes : ℕ) (f : Words) → has_magic (line_bytes f 0) ≡ false → BreaksFirst (block_0_rules bytes f) 2 0
breaks-magic bytes f none = inl (refl, fails-one 2 0 (HasMagic f) (λ some. both_ways (has_magic (line_bytes f 0)) none some))

pub breaks-version : (bytes : ℕ) (f : Words) → HasMagic f → has_version (line_bytes f 0) ≡ false → BreaksFirst (block_0_rules bytes f) 3 0
breaks-version bytes f magic none =
    inr (holds-one 2 0 (HasMagic f) magic, inl (refl, fails-one 3 0 (HasVersion f) (λ some. both_ways (has_version (line_bytes f 0)) none some)))

pub breaks-numbers : (bytes : ℕ) (f : Words) → HasMagic f → HasVersion f → (HasNumbers bytes f → ⊥) → BreaksFirst (block_0_rules bytes f) 4 0
breaks-numbers bytes f magic version none =
    inr (holds-one 2 0 (HasMagic f) magic, inr (holds-one 3 0 (HasVersion f) version, inl (refl, fails-one 4 0 (HasNumbers bytes f) none)))

-- the journal
pub breaks-target : (g : Geometry) (f : Words) (place : ℕ) → FailsFirst (below 11 128 (HasTarget g f)) place → BreaksFirst (journal_rules g f) 11 place
breaks-target g f place fails = inl (refl, fails)

pub breaks-state : (g : Geometry) (f : Words) → Holds (below 11 128 (HasTarget g f)) → (HasState f → ⊥) → BreaksFirst (journal_rules g f) 11 128
breaks-state g f holds none = inr (holds, inl (refl, fails-one 11 128 (HasState f) none))

pub targets-hold : (g : Geometry) (f : Words) → ((r : ℕ) → r < committed f → HasTarget g f r) → Holds (below 11 128 (HasTarget g f))
targets-hold g f each = λ r from within below. each r below below

pub target-fails : (g : Geometry) (f : Words) (r : ℕ) → committed f ≤ 128 → r < committed f → ((s : ℕ) → s < r → HasTarget g f s)
    → is_journaled_line g (record_target f r) ≡ false → FailsFirst (below 11 128 (HasTarget g f)) r
target-fails g f r few below before none = record {
  from = omega arith;
  within = omega arith;
  before = λ s from early. before s early;
  fails = λ has. both_ways (is_journaled_line g (record_target f r)) none (has below);
}

-- the head
pub head-kept : (bytes : ℕ) (f : Words) → IsWholeBlocks bytes → HasMagic f → HasVersion f → HasNumbers bytes f
    → HoldAll (journal_rules (geometry_of f) f) → HasHead bytes f
head-kept bytes f whole magic version numbers (targets, (state, end)) = record {
  whole_blocks = whole;
  magic = magic;
  version = version;
  numbers = numbers;
  records = λ r below. targets r (omega arith) (omega arith);
  state = state 128 (omega arith) (omega arith);
}

pub breaks-length : (bytes : ℕ) (f : Words) → (IsWholeBlocks bytes → ⊥) → BreaksFirst (head_rules bytes f) 1 bytes
breaks-length bytes f none = inl (refl, fails-one 1 bytes (IsWholeBlocks bytes) none)

-- the first broken rule of block 0 is that of the head
pub breaks-block_0 : (bytes : ℕ) (f : Words) (number place : ℕ) → IsWholeBlocks bytes → BreaksFirst (block_0_rules bytes f) number place
    → BreaksFirst (head_rules bytes f) number place
breaks-block_0 bytes f number place whole breaks = inr (holds-one 1 bytes (IsWholeBlocks bytes) whole, later breaks)
  where
    later : BreaksFirst (block_0_rules bytes f) number place
        → BreaksFirst (block_0_rules bytes f ++ journal_rules (geometry_of f) f) number place
    later b = BreaksFirst-before (block_0_rules bytes f) (journal_rules (geometry_of f) f) number place b

pub breaks-journal : (bytes : ℕ) (f : Words) (number place : ℕ) → IsWholeBlocks bytes → HasMagic f → HasVersion f → HasNumbers bytes f
    → BreaksFirst (journal_rules (geometry_of f) f) number place → BreaksFirst (head_rules bytes f) number place
breaks-journal bytes f number place whole magic version numbers breaks =
    inr (
      holds-one 1 bytes (IsWholeBlocks bytes) whole,
      inr (
        holds-one 2 0 (HasMagic f) magic,
        inr (
          holds-one 3 0 (HasVersion f) version,
          inr (holds-one 4 0 (HasNumbers bytes f) numbers, breaks),
        ),
      ),
    )

-- a line that was read
pub super-kept : (bytes : List ℕ) → (has_magic bytes ≡ true) × (has_version bytes ≡ true) × (has_numbers bytes ≡ true) → IsSuperKept bytes
super-kept bytes parts = record { magic = parts.0; version = parts.1; numbers = parts.2 }

pub super-numbers : (size : ℕ) (f : Words) (bytes : List ℕ) → bytes ≡ line_bytes f 0
    → (has_magic bytes ≡ true) × (has_version bytes ≡ true) × (has_numbers bytes ≡ false) → BreaksFirst (block_0_rules size f) 4 0
super-numbers size f bytes is parts =
    breaks-numbers size f (ap has_magic (sym is) ∙ parts.0) (ap has_version (sym is) ∙ parts.1)
    (λ kept. both_ways (has_numbers (line_bytes f 0)) (ap has_numbers (sym is) ∙ parts.2) kept.numbers)

-- rule 1
pub few-blocks : (words : ℕ) → words % 512 ≡ 0 → (words / 512 < 64) ⊎ (16384 < words / 512) → IsWholeBlocks (8 * words) → ⊥
few-blocks words whole (inl few) w = omega (arith, w.whole, w.least)
few-blocks words whole (inr many) w = omega (arith, w.whole, w.most)

pub whole-blocks : (words : ℕ) → words % 512 ≡ 0 → 64 ≤ words / 512 → words / 512 ≤ 16384 → IsWholeBlocks (8 * words)
whole-blocks words whole least most = record { blocks = words / 512; whole = omega arith; least = least; most = most }
