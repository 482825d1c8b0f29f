-- Two places of a file share no block, whether it is staged or in the file's own map.
use Rattle.std.specs.Prelude.{◌≡◌, ◌≢◌, ◌+◌, ◌-◌, ℕ, List, [], Option, Some, None, refl}
use Rattle.std.proofs.Common.{arith, ap, ◌∙◌, inl, inr}
use Rattle.live_model.specs.layout_model.declared.lines.Draft.{Draft}
use Rattle.live_model.specs.layout_model.declared.lines.Kind.TheVariants.{Staging}
use Rattle.live_model.specs.extent_model.Extents.{disk_at}
use Rattle.live_model.specs.image_model.Content.{disk_by, disk_of, entry_of_block}
use Rattle.live_model.specs.image_model.Volume.{extents, inode, Volume}
use Rattle.live_model.specs.volume_laws.OwnerLaws.{IsOnePlace, one_owner}
use Rattle.live_model.specs.world_model.Landed.{within_bounds}
use Rattle.live_model.specs.world_model.Lent.{once_named}
use Rattle.live_model.specs.world_model.Stands.{IsSane, IsUsed, LogStands}
use Rattle.live_model.specs.world_model.TreeRules.{used_below}
use Rattle.world_write_laws.specs.PlaceSteps.{covering, staging_below, used_staging}

module _ (v : Volume) (live : List Draft) (sane : IsSane v) (log : LogStands v live) (ino b : ℕ) (used : IsUsed v ino) where
  -- a block of the file's own map is none of a staging file
  mapped_or_staged : (p q k : ℕ) → disk_at (extents v ino) p ≡ Some b → (inode v k).kind ≡ Staging → disk_at (extents v k) q ≡ Some b → ⊥
  mapped_or_staged p q k at staging staged =
      let low = staging_below v k staging in
      let one : IsOnePlace ino k p q = one_owner v b ino k p q (once_named v sane k q b low staged) (used_below v ino used) low at staged in
      used_staging (inode v ino).kind used (ap (λ n. (inode v n).kind) one.inode ∙ staging)

  once_mapped : (x y : ℕ) → disk_at (extents v ino) x ≡ Some b → disk_at (extents v ino) y ≡ Some b → x ≡ y
  once_mapped x y first second =
      let one : IsOnePlace ino ino x y = one_owner v b ino ino x y (once_named v sane ino x b (used_below v ino used) first) (used_below v ino used) (used_below v ino used) first second in
      one.place

  -- a block where the calls see it, and one of the file's own map
  pub place_mapped : (x y : ℕ) → disk_of v live ino x ≡ Some b → disk_of v [] ino y ≡ Some b → x ≡ y
  place_mapped x y first second = by (entry_of_block live ino x) refl first where
    by : (o : Option Draft) → entry_of_block live ino x ≡ o → disk_by v o ino x ≡ Some b → x ≡ y
    by None entry at = once_mapped x y at second
    by (Some d) entry at = absurd (mapped_or_staged y (d.staging_block + (x - d.file_block)) d.staging second (log.staging d (covering live ino x d entry).is) at)

  -- two where the calls see them
  pub place_seen : (x y : ℕ) → disk_of v live ino x ≡ Some b → disk_of v live ino y ≡ Some b → x ≡ y
  place_seen x y first second = by (entry_of_block live ino x) (entry_of_block live ino y) refl refl first second where
    by : (o q : Option Draft) → entry_of_block live ino x ≡ o → entry_of_block live ino y ≡ q → disk_by v o ino x ≡ Some b → disk_by v q ino y ≡ Some b → x ≡ y
    by None None one two a c = once_mapped x y a c
    by None (Some e) one two a c = absurd (mapped_or_staged x (e.staging_block + (y - e.file_block)) e.staging a (log.staging e (covering live ino y e two).is) c)
    by (Some d) None one two a c = absurd (mapped_or_staged y (d.staging_block + (x - d.file_block)) d.staging c (log.staging d (covering live ino x d one).is) a)
    by (Some d) (Some e) one two a c =
        let mine = covering live ino x d one in
        let its = covering live ino y e two in
        let d_low = staging_below v d.staging (log.staging d mine.is) in
        let e_low = staging_below v e.staging (log.staging e its.is) in
        let place : IsOnePlace d.staging e.staging (d.staging_block + (x - d.file_block)) (e.staging_block + (y - e.file_block)) =
        one_owner v b d.staging e.staging (d.staging_block + (x - d.file_block)) (e.staging_block + (y - e.file_block)) (once_named v sane d.staging (d.staging_block + (x - d.file_block)) b d_low a) d_low e_low a c
        in
        let d_in = within_bounds d.file_block d.count x mine.within in
        let e_in = within_bounds e.file_block e.count y its.within in
        elim (log.apart d e mine.is its.is) [
          | inl same ↦ (
              let blocks : d.staging_block ≡ e.staging_block = ap (λ (z : Draft). z.staging_block) same in
              let files : d.file_block ≡ e.file_block = ap (λ (z : Draft). z.file_block) same in
              omega (arith, place.place, blocks, files, d_in.0, e_in.0))
          | inr apart ↦ elim (apart place.inode) [
            | inl before ↦ absurd (omega (arith, place.place, before, d_in.0, d_in.1, e_in.0, e_in.1))
            | inr behind ↦ absurd (omega (arith, place.place, behind, d_in.0, d_in.1, e_in.0, e_in.1))
          ]
        ]

  -- a block of a staged run is none of the file's own map, and none of another run
  pub staged_mapped : (k q y : ℕ) → (inode v k).kind ≡ Staging → disk_at (extents v k) q ≡ Some b → disk_of v [] ino y ≡ Some b → ⊥
  staged_mapped k q y staging staged at = mapped_or_staged y q k at staging staged

-- nor do two files
pub apart_mapped : (v : Volume) (live : List Draft) → IsSane v → LogStands v live → (i j x y b : ℕ) → IsUsed v i → IsUsed v j → i ≢ j → disk_of v live i x ≡ Some b → disk_of v [] j y ≡ Some b → ⊥
apart_mapped v live sane log i j x y b i_used j_used other first second = by (entry_of_block live i x) refl first where
  by : (o : Option Draft) → entry_of_block live i x ≡ o → disk_by v o i x ≡ Some b → ⊥
  by None entry at =
      let one : IsOnePlace i j x y = one_owner v b i j x y (once_named v sane i x b (used_below v i i_used) at) (used_below v i i_used) (used_below v j j_used) at second in
      other one.inode
  by (Some d) entry at = staged_mapped v live sane log j b j_used d.staging (d.staging_block + (x - d.file_block)) y (log.staging d (covering live i x d entry).is) at second
