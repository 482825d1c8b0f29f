-- What reads zero behind the end of a file.
use Rattle.std.specs.Prelude.{◌≡◌, ◌⊎◌, ◌≤◌, ◌<◌, ◌-◌, ◌/◌, ◌%◌, ℕ, Bool, true, Option, Some, None, refl}
use Rattle.std.proofs.Common.{arith, ap, ◌∙◌, sym, subst, inl, inr}
use Rattle.std.proofs.lemmas.Bool.{cases_lt}
use Rattle.live_step_laws.specs.fsync_relink.pm_model.Images.{ComesFrom, IsImage}
use Rattle.live_step_laws.specs.fsync_relink.pm_model.Words.{Words}
use Rattle.live_step_laws.specs.fsync_relink.layout_model.declared.lines.Kind.TheVariants.{File}
use Rattle.live_step_laws.specs.fsync_relink.layout_model.Journal.{IsSound, journaled}
use Rattle.live_step_laws.specs.fsync_relink.layout_model.Places.{Geometry, is_data_block}
use Rattle.live_step_laws.specs.image_model.Content.{byte_in, disk_of}
use Rattle.live_step_laws.specs.image_model.Volume.{extents, inode, Volume}
use Rattle.live_step_laws.specs.fsync_relink.block_io.Overwrites.{IsOverwrittenWhole}
use Rattle.write_plan.specs.live_model.file_reads.Reads.{block_in}
use Rattle.write_plan.specs.live_model.file_table.Files.{runs_in, size_in}
use Rattle.live_step_laws.specs.k_split_model.View.{View}
use Rattle.live_step_laws.specs.fsync_relink.k_split.Bytes.{tail_zeros}
use Rattle.write_plan.proofs.live_model_proofs.OverlaysOverlays.{overlay_is_log}
use Rattle.live_step_laws.specs.fsync_relink.posix_tables.Open.{Tables}
use Rattle.live_step_laws.specs.posix_spec.State.{State}
use Rattle.live_step_laws.specs.world_image_laws.Changed.{sound_headed}
use Rattle.live_step_laws.specs.world_model.Lent.{disk_of-in_data}
use Rattle.live_step_laws.specs.world_model.Jobs.{live_claims}
use Rattle.live_step_laws.specs.world_model.Stands.{is_used, IsSane}
use Rattle.live_step_laws.specs.world_step_laws.Worlds.{IsWorld}
use Rattle.write_plan.specs.live_model.Standing.{Kept, StandsAt}
use Rattle.in_place.specs.ZerosLaws.{ZeroedReadZero}
use Rattle.in_place.specs.Zeros.{block_end, ReadZero}
use Rattle.in_place.proofs.Places.{same_or_zero, zero_at}

-- a byte before the block of `from`, or in it from there on
split_at : (from i : ℕ) → i < block_end from → (i < from) ⊎ ((from ≤ i) × (i / 4096 ≡ from / 4096))
split_at from i below = elim (cases_lt i from) [ inl low ↦ inl low | inr high ↦ inr (high, omega (arith, high, below)) ]

module _ (g : Geometry) (k : View) (t : Tables) (kept : Kept) (lines : Bool) (n : ℕ) (s : State) (stands : StandsAt g k t kept lines n s) (ino : ℕ) (file : (inode k.volume ino).kind ≡ File) where
  world_at : (before : Words) → IsImage k.cells before → IsWorld k.volume kept.claims stands.jobs (journaled before) stands.numbers s stands.count
  world_at before is = stands.flying.device.world before is

  sound_at : (before : Words) → IsImage k.cells before → IsSound k.volume.geometry before
  sound_at before is = sound_headed k.volume.geometry before (stands.flying.device.headed before is)

  -- the block by what is kept is that by the log
  by_log : (before : Words) → IsImage k.cells before → (block : ℕ) → block_in k.volume (runs_in kept.files ino) ino block ≡ disk_of k.volume (live_claims k.volume kept.claims) ino block
  by_log before is block = overlay_is_log k.volume (live_claims k.volume kept.claims) ino (size_in kept.files ino) (runs_in kept.files ino) block (world_at before is).valid.stands.log (stands.flying.overlays ino file)

  -- and a data block
  data_in : (before : Words) → IsImage k.cells before → (block b : ℕ) → block_in k.volume (runs_in kept.files ino) ino block ≡ Some b → is_data_block k.volume.geometry b ≡ true
  data_in before is block b at =
      disk_of-in_data k.volume (live_claims k.volume kept.claims) (world_at before is).valid.stands.sane (world_at before is).valid.stands.log ino block b (ap is_used file) (sym (by_log before is block) ∙ at)

-- ---- zeroed

pub zeroed_read_zero : ZeroedReadZero
zeroed_read_zero g k l t kept lines n s ino a from x p stands file x_below at off done zero =
    subst (λ y. ReadZero y kept.files ino a (block_end from)) (sym done.same) (λ image is i high low. by image is i high low (block_in k.volume (runs_in kept.files ino) ino (i / 4096)) refl)
  where
    sound_then : (image : Words) → IsImage l.cells image → IsSound k.volume.geometry image
    sound_then image is = subst (λ (u : Volume). IsSound u.geometry image) (stands.order.settled stands.unbatched) (done.over.each_image image is).2.sound

    by : (image : Words) → IsImage l.cells image → (i : ℕ) → a ≤ i → i < block_end from → (o : Option ℕ) → block_in k.volume (runs_in kept.files ino) ino (i / 4096) ≡ o → byte_in (journaled image) o i ≡ 0
    by image is i high low None block = refl
    by image is i high low (Some b) block = elim (split_at from i low) [
      | inl early ↦ (elim (same_or_zero k.volume sane x p x_below from_one.0 image b (i % 4096) sound_before (sound_then image is) there (omega arith) from_one.2) [
        | inl same ↦ same ∙ (ap (λ o. byte_in (journaled from_one.0) o i) (sym block) ∙ zero from_one.0 from_one.1.is_image i high early)
        | inr none ↦ none
      ])
      | inr own ↦
          zero_at k.volume sane x p x_below from_one.0 image b (i % 4096) (sound_then image is) there (omega arith) from_one.2
          (at ∙ (ap (λ m. block_in k.volume (runs_in kept.files ino) ino m) (sym own.1) ∙ block)) (omega (arith, own, off))
    ] where
      from_one : (before : Words) × ComesFrom k.cells image before × IsOverwrittenWhole (extents k.volume x) p (tail_zeros k.volume x p) before image
      from_one = done.whole image is

      sane : IsSane k.volume
      sane = (world_at g k t kept lines n s stands ino file from_one.0 from_one.1.is_image).valid.stands.sane

      sound_before : IsSound k.volume.geometry from_one.0
      sound_before = sound_at g k t kept lines n s stands ino file from_one.0 from_one.1.is_image

      there : is_data_block k.volume.geometry b ≡ true
      there = data_in g k t kept lines n s stands ino file from_one.0 from_one.1.is_image (i / 4096) b block
