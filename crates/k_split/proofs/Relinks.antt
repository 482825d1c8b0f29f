-- A relink: words of data blocks that no staging file has stay single.
use Rattle.std.proofs.Common.{◌≡◌, ◌≢◌, ◌⊎◌, ◌≤◌, ◌/◌, ◌++◌, ◌∷◌, [], ℕ, Bool, true, List, sym, ◌∙◌, ap, inl, inr, arith, subst}
use Rattle.std.proofs.lemmas.Bool.{both_ways, cases_Bool, cases_eq}
use Rattle.std.proofs.lemmas.List.{append-nil}
use Rattle.block_io.specs.pm_model.declared.Cell.{Cell}
use Rattle.block_io.specs.pm_model.Cells.{cell, is_single}
use Rattle.layout_model.specs.declared.lines.Kind.TheVariants.{Staging}
use Rattle.block_io.specs.image_model.Rules.{IsKindAt}
use Rattle.block_io.specs.image_model.Volume.{Volume, extents, inode}
use Rattle.block_io.specs.extent_model.Covers.{covers-disk_at, disk_at-covers}
use Rattle.block_io.specs.extent_model.declared.extent_words.Extent.{Extent}
use Rattle.block_io.specs.extent_model.Extents.{covers, disk_at, is_within, IsCanonical}
use Rattle.k_map_plans.specs.k_plans.LandingsPlans.{NewChain, blocks_of}
use Rattle.k_map_plans.specs.Plans.{MayMove}
use Rattle.k_map_plans.specs.k_plans.Whole.{IsWhole}
use Rattle.block_io.specs.k_split_model.MapChangesChanges.{IsMoved, with_length}
use Rattle.block_io.specs.k_split_model.Taken.{switched, with_map}
use Rattle.block_io.specs.k_split_model.declared.map_changes.moves.Move.{Move}
use Rattle.k_tables.specs.volume_laws.Changes.{extents-set_other, extents-set_same}
use Rattle.k_split.specs.MapChanges.{IsMovedSingle}
use Rattle.k_split.specs.Order.{IsUnstaged}

module _ (free : ℕ → Bool) (m : Move) (v w : Volume) (displaced : List Extent) (whole : IsWhole v) (may : MayMove m v)
    (moved : IsMoved free m v w displaced) (canonical : IsCanonical (extents v m.staging)) where
  file-behind : 5 ≤ m.ino
  file-behind =
      let kept = whole.kept.kept.kinds m.ino (omega (arith, may.file.below, whole.kept.all.inode_count)) in
      subst (IsKindAt m.ino) may.file.file kept

  -- the other staging files have the maps that they had, and this one what is left
  others-still : (ino : ℕ) → ino ≢ m.staging → ino ≤ 4 → extents w ino ≡ extents v ino
  others-still ino apart most =
      ap (λ y. extents y ino) moved.is_moved
      ∙ extents-set_other m.ino (with_map moved.blocks moved.linked (with_length m.size m.applied (inode v m.ino))) moved.blocks moved.linked
      (switched m.staging (inode v m.staging) moved.rest moved.left v) ino (λ same. omega (arith, same, most, file-behind))
      ∙ extents-set_other m.staging (with_map moved.rest moved.left (inode v m.staging)) moved.rest moved.left v ino apart

  left-there : m.staging ≤ 4 → extents w m.staging ≡ moved.left
  left-there most =
      ap (λ y. extents y m.staging) moved.is_moved
      ∙ extents-set_other m.ino (with_map moved.blocks moved.linked (with_length m.size m.applied (inode v m.ino))) moved.blocks moved.linked
      (switched m.staging (inode v m.staging) moved.rest moved.left v) m.staging (λ same. omega (arith, same, most, file-behind))
      ∙ extents-set_same m.staging (with_map moved.rest moved.left (inode v m.staging)) moved.rest moved.left v
      (omega (arith, may.staging.below, whole.maps.map_count))

  -- a block of the staging file moves, or is left
  pub moved-unstaged : (d : List Cell) → IsMovedSingle m v d → (i : ℕ) → IsUnstaged w (i / 512)
      → IsUnstaged v (i / 512) ⊎ (is_single (cell d i) ≡ true)
  moved-unstaged d home i unstaged = elim (cases_Bool (covers (extents v m.staging) (i / 512))) [
    | inr none ↦ inl (λ ino least most. elim (cases_eq ino m.staging) [
      | inl same ↦ ap (λ n. covers (extents v n) (i / 512)) same ∙ none
      | inr apart ↦ ap (λ fs. covers fs (i / 512)) (sym (others-still ino apart most)) ∙ unstaged ino least most
    ])
    | inl has ↦
        let at = disk_at-covers (extents v m.staging) (i / 512) canonical has in
        elim (cases_Bool (is_within m.staging_block m.count at.0)) [
          | inl inside ↦ inr (home at.0 i inside at.1)
          | inr outside ↦
              let kept = whole.kept.kept.kinds m.staging (omega (arith, may.staging.below, whole.kept.all.inode_count)) in
              let numbers : IsKindAt m.staging Staging = subst (IsKindAt m.staging) may.staging.kind kept in
              let same : disk_at moved.left at.0 ≡ disk_at (extents v m.staging) at.0 = rw outside at (moved.moves.source.blocks at.0) in
              let still : covers (extents w m.staging) (i / 512) ≡ true =
              ap (λ es. covers es (i / 512)) (left-there numbers.1) ∙ covers-disk_at moved.left at.0 (i / 512) (same ∙ at.1)
              in
              absurd (both_ways (covers (extents w m.staging) (i / 512)) (unstaged m.staging numbers.0 numbers.1) still)
        ]
  ]

-- the blocks of two maps
pub blocks_of-two : (a b : NewChain) → blocks_of (a ∷ b ∷ []) ≡ a.blocks ++ b.blocks
blocks_of-two a b = ap (λ bs. a.blocks ++ bs) (append-nil b.blocks)
