-- Bytes of a block of a staging file that is not lent, written over in place.
use Rattle.std.proofs.Common.{◌≡◌, ℕ, ◌+◌, ◌*◌, ◌/◌, ◌<◌, ◌≤◌, List, length, Option, None, Some, refl, sym, ◌∙◌, ap, subst, arith, inl, inr}
use Rattle.std.specs.Prelude.{IsSome}
use Rattle.std.proofs.lemmas.Bool.{cases_lt}
use Rattle.std.proofs.lemmas.Option.{same_Some}
use Rattle.block_io.specs.pm_model.declared.Cell.{Cell}
use Rattle.block_io.specs.pm_model.Words.{Words}
use Rattle.block_io.specs.image_model.Reading.{Reads}
use Rattle.block_io.specs.extent_model.Extents.{disk_at, IsCanonical}
use Rattle.block_io.specs.extent_model.Facts.{disk_at-past}
use Rattle.block_io.specs.image_model.Volume.{extents, Volume}
use Rattle.block_io.specs.Overwrites.{MayOverwrite}
use Rattle.k_map_plans.specs.k_plans.Whole.{IsWhole}
use Rattle.k_split.specs.Loans.{MayLend}
use Rattle.k_split.proofs.ByteLaws.{may_overwrite}

module _ (v : Volume) (d : List Cell) (staging block b : ℕ) (whole : IsWhole v) where
  pub staged_below : MayLend v d staging block b → staging < length v.inodes
  staged_below may = omega (arith, may.most, whole.kept.geometry.least_inodes, whole.kept.all.inode_count)

  module _ (size : length d ≡ 512 * v.geometry.blocks) (f : Words) (reads : Reads v.geometry f v) (may : MayLend v d staging block b) where
    pub block_short : block < 4096
    block_short = elim (cases_lt block 4096) [
      | inl below ↦ below
      | inr past ↦
          let canonical : IsCanonical (extents v staging) =
          (reads.chains staging (omega (arith, staged_below may, whole.kept.all.inode_count))).map.canonical
          in
          let never : Some b ≡ None = sym may.at ∙ disk_at-past (extents v staging) block canonical past in
          absurd (cc)
    ]

    -- the range is one of the block
    pub staged_overwrite : (offset count : ℕ) → offset + count ≤ 4096 → MayOverwrite (extents v staging) (4096 * block + offset) count d
    staged_overwrite offset count short =
        may_overwrite v d staging (4096 * block + offset) count whole size (staged_below may)
        (λ p from below. subst (λ (o : Option ℕ). IsSome o) (sym (ap (disk_at (extents v staging)) (at p from below) ∙ may.at)) refl)
        (λ p c i is same.
        let of_block : Some c ≡ Some b = sym is.at ∙ ap (disk_at (extents v staging)) (at p is.from is.below) ∙ may.at in
        may.single i (same ∙ same_Some c b of_block))
      where
        at : (p : ℕ) → 4096 * block + offset ≤ p → p < 4096 * block + offset + count → p / 4096 ≡ block
        at p from below = omega (arith, short)
