-- Where nothing is live in a staging file that changes, the same entries are live, and the same files are shown.
use Rattle.std.proofs.Common.{◌≡◌, ◌≢◌, ◌+◌, ◌-◌, ◌==◌, ◌&&◌, ℕ, Bool, true, false, refl, sym, ◌∙◌, ap, subst, inl, inr}
use Rattle.std.specs.Prelude.{filter, nat_lt, Option, Some, None}
use Rattle.std.proofs.lemmas.Bool.{cases_eq}
use Rattle.world_write_laws.specs.pm_model.Words.{Words}
use Rattle.world_write_laws.specs.layout_model.declared.lines.Draft.{Draft}
use Rattle.world_write_laws.specs.layout_model.declared.lines.Inode.{Inode}
use Rattle.world_write_laws.specs.layout_model.declared.lines.Kind.TheVariants.{File, Staging}
use Rattle.world_write_laws.specs.image_model.Content.{disk_by, disk_of, entry_of_block, size_by, size_of}
use Rattle.world_write_laws.specs.image_model.Live.{is_file, is_live, latest, live_entries, valid_entries}
use Rattle.world_write_laws.specs.image_model.Volume.{inode, Volume}
use Rattle.world_write_laws.specs.extent_model.Extents.{disk_at, is_within}
use Rattle.world_write_laws.specs.list_laws.Filters.{filter-agree, filter-In, In-filter}
use Rattle.world_write_laws.specs.list_laws.Members.{In}
use Rattle.world_write_laws.specs.world_model.Latest.{latest-In}
use Rattle.world_write_laws.specs.Restages.{Restages}
use Rattle.log_laws.specs.LiveLaws.{KeepsFilesRestaged}
use Rattle.log_laws.specs.Logs.{HasSameFiles, IsDeadIn}
use Rattle.log_laws.proofs.FoundLaws.{valid-same}

module _ (v w : Volume) (f : Words) (x : ℕ) (change : Restages v w x) (base : w.base ≡ v.base) (dead : IsDeadIn v f x) (after : IsDeadIn w f x) where
  kind-same : (i : ℕ) → (inode w i).kind ≡ (inode v i).kind
  kind-same i = elim (cases_eq i x) [
    | inl own ↦ ap (λ k. (inode w k).kind) own ∙ (change.kind ∙ (sym change.staging ∙ ap (λ k. (inode v k).kind) (sym own)))
    | inr other ↦ ap (λ (y : Inode). y.kind) (change.others i other)
  ]

  -- of an entry with its blocks elsewhere
  live-elsewhere : (d : Draft) → d.staging ≢ x → is_live w d ≡ is_live v d
  live-elsewhere d elsewhere = elim (cases_eq d.ino x) [
    | inr other ↦
        λ i. (is_file (change.others d.ino other i).kind && ((change.others d.ino other i).generation == d.generation))
        && nat_lt (change.others d.ino other i).applied d.order
        && ((change.others d.staging elsewhere i).generation == d.staging_generation)
    | inl own ↦
        no-file w d (ap (λ k. (inode w k).kind) own ∙ change.kind) ∙ sym (no-file v d (ap (λ k. (inode v k).kind) own ∙ change.staging))
  ]
    where
      no-file : (y : Volume) (d : Draft) → (inode y d.ino).kind ≡ Staging → is_live y d ≡ false
      no-file y d staging =
          λ i. (is_file (staging i) && ((inode y d.ino).generation == d.generation)) && nat_lt (inode y d.ino).applied d.order
          && ((inode y d.staging).generation == d.staging_generation)

  live-in : (y : Volume) (d : Draft) → IsDeadIn y f x → In d (valid_entries y f) → d.staging ≡ x → is_live y d ≡ false
  live-in y d none is own = by (is_live y d) refl where
    by : (b : Bool) → is_live y d ≡ b → b ≡ false
    by true alive = absurd (none d (In-filter (is_live y) (valid_entries y f) d is alive) own)
    by false alive = refl

  valid : valid_entries w f ≡ valid_entries v f
  valid = valid-same v w f change.geometry base

  live-same : live_entries w f ≡ live_entries v f
  live-same =
      filter-agree (is_live w) (is_live v) (valid_entries w f) (λ d is. elim (cases_eq d.staging x) [
        | inl own ↦ live-in w d after is own ∙ sym (live-in v d dead (subst (In d) valid is) own)
        | inr elsewhere ↦ live-elsewhere d elsewhere
      ])
      ∙ ap (filter (is_live v)) valid

  file-other : (ino : ℕ) → (inode v ino).kind ≡ File → ino ≢ x
  file-other ino file same = let never : File ≡ Staging = sym file ∙ (ap (λ k. (inode v k).kind) same ∙ change.staging) in cc

  disk-same : (ino block : ℕ) → (inode v ino).kind ≡ File → disk_of w (live_entries v f) ino block ≡ disk_of v (live_entries v f) ino block
  disk-same ino block file = by (entry_of_block (live_entries v f) ino block) refl where
    by : (o : Option Draft) → entry_of_block (live_entries v f) ino block ≡ o → disk_by w o ino block ≡ disk_by v o ino block
    by None entry = ap (λ es. disk_at es block) (change.maps ino (file-other ino file))
    by (Some d) entry =
        let there = (filter-In (λ (e : Draft). (e.ino == ino) && is_within e.file_block e.count block) (live_entries v f) d (latest-In _ d entry)).0 in
        ap (λ es. disk_at es (d.staging_block + (block - d.file_block))) (change.maps d.staging (dead d there))

  pub same-files : HasSameFiles v w f
  same-files = record {
    names = change.names;
    kind = kind-same;
    size = λ ino file.
        ap (λ ds. size_of w ds ino) live-same
        ∙ ap (λ (y : Inode). size_by (latest (filter (λ (e : Draft). e.ino == ino) (live_entries v f))) y.size) (change.others ino (file-other ino file));
    disk = λ ino block file. ap (λ ds. disk_of w ds ino block) live-same ∙ disk-same ino block file;
  }

pub keeps-files : KeepsFilesRestaged
keeps-files v w f x change base dead after = (live-same v w f x change base dead after, same-files v w f x change base dead after)
