-- Each file can be read while writes are in flight.
use Rattle.std.specs.Prelude.{◌≡◌, ◌<◌, ◌+◌, ◌*◌, ◌%◌, ◌-◌, ◌/◌, ◌==◌, ◌&&◌, ℕ, Bool, true, false, List, length, Option, Some, None, option_map, refl}
use Rattle.std.proofs.Common.{arith, ap, ◌∙◌, sym, subst, inl, inr}
use Rattle.std.proofs.lemmas.Bool.Decides.{nat_tests}
use Rattle.write_jobs.specs.pm_model.declared.Cell.{Cell}
use Rattle.write_jobs.specs.pm_model.Cells.{cell, is_lent}
use Rattle.write_jobs.specs.pm_model.ImageLaws.{IsImage-words_of}
use Rattle.write_jobs.specs.pm_model.Images.{words_of}
use Rattle.write_jobs.specs.layout_model.Journal.{journaled}
use Rattle.write_jobs.specs.layout_model.Places.{Geometry, is_data_block, log_line}
use Rattle.file_reads.specs.data_route.declared.reads.Source.TheVariants.{Staged}
use Rattle.file_reads.specs.data_route.Reads.{source_by, source_of}
use Rattle.write_jobs.specs.layout_model.declared.lines.Draft.{Draft}
use Rattle.write_jobs.specs.layout_model.declared.lines.Kind.TheVariants.{File}
use Rattle.write_jobs.specs.world_model.image_model.Content.{disk_of, entry_of_block}
use Rattle.write_jobs.specs.world_model.image_model.Volume.{extents, inode, Volume}
use Rattle.write_jobs.specs.extent_model.Extents.{disk_at, is_within}
use Rattle.file_reads.specs.file_overlay.Runs.{place_in}
use Rattle.file_reads.specs.Reads.{IsReadable, SourceCanBeRead}
use Rattle.write_jobs.specs.list_laws.Filters.{filter-In}
use Rattle.write_jobs.specs.list_laws.Members.{In}
use Rattle.write_jobs.specs.world_model.posix_spec.State.{State}
use Rattle.write_jobs.specs.world_model.Latest.{latest-In}
use Rattle.write_jobs.specs.world_model.Lent.{disk_of-in_data, not_lent}
use Rattle.write_jobs.specs.world_model.Jobs.{IsStagedIn, Job, live_claims}
use Rattle.write_jobs.specs.world_model.Stands.{is_used}
use Rattle.write_jobs.specs.world_step_laws.Worlds.{IsWorld}
use Rattle.live_model.specs.Overlays.{run_of}
use Rattle.live_model.proofs.OverlaysOverlays.{overlay_is_log, source_is_log}
use Rattle.live_model.specs.Flying.{FileState, IsFlying}
use Rattle.live_model.specs.FlightsLaws.{FliesReadable}
use Rattle.live_model.proofs.Members.{job_lent, staging_below}

-- a data block lies behind the log lines
data_behind_log : (g : Geometry) (b j slot : ℕ) → is_data_block g b ≡ true → j < 512 → slot < g.log → (512 * b + j) / 8 ≡ log_line g slot → ⊥
data_behind_log g b j slot in_data word below e = grind (arith, nat_tests)

module _ (v : Volume) (d : List Cell) (claims : List (ℕ × Draft)) (jobs : List Job) (files : ℕ → FileState) (numbers : List ℕ) (s : State) (count ino : ℕ)
    (fly : IsFlying v d claims jobs files numbers s count) (file : (inode v ino).kind ≡ File) where
  world : IsWorld v claims jobs (journaled (words_of d)) numbers s count
  world = fly.device.world (words_of d) (IsImage-words_of d)

  -- a staged block is one of a staging file
  named_staging : (block : ℕ) (o : Option Draft) (disk : Option ℕ) → entry_of_block (live_claims v claims) ino block ≡ o
      → (staging k : ℕ) → source_by (option_map (place_in block) (option_map run_of o)) disk ≡ Staged staging k → staging < length v.inodes
  named_staging block None None is staging k same = cc
  named_staging block None (Some b) is staging k same = cc
  named_staging block (Some e) disk is staging k same =
      let there : In e (live_claims v claims) = (filter-In (λ (x : Draft). (x.ino == ino) && is_within x.file_block x.count block) (live_claims v claims) e (latest-In _ e is)).0 in
      let own : e.staging ≡ staging = cc in
      subst (λ x. x < length v.inodes) own (staging_below v e.staging (world.valid.stands.log.staging e there))

  -- a block of the file is a data block, and at home
  block_readable : (block b : ℕ) → disk_of v (live_claims v claims) ino block ≡ Some b → IsReadable d b
  block_readable block b at = record { inside = inside; home = λ i word. by i word (is_lent (cell d i)) refl } where
    in_data : is_data_block v.geometry b ≡ true
    in_data = disk_of-in_data v (live_claims v claims) world.valid.stands.sane world.valid.stands.log ino block b (ap is_used file) at

    inside : b < length d / 512
    inside = let size = fly.device.stands.size in grind (arith, nat_tests, in_data, size)

    by : (i : ℕ) → i / 512 ≡ b → (c : Bool) → is_lent (cell d i) ≡ c → is_lent (cell d i) ≡ false
    by i word false is = is
    by i word true is = elim (fly.home i is) [
      | inl line ↦ (let same : 512 * b + i % 512 ≡ i = omega (arith, word) in absurd (data_behind_log v.geometry b (i % 512) line.0 in_data (omega arith) line.1 (ap (λ n. n / 8) same ∙ line.2)))
      | inr job ↦
          absurd
          (not_lent v (live_claims v claims) (journaled (words_of d)) numbers s jobs world.valid.stands.sane world.valid.stands.log world.valid.out ino block b (ap is_used file) at
          (job_lent v jobs job.0 b job.1 (subst (λ n. IsStagedIn v job.0.draft n) word job.2)))
    ]

  pub can_be_read : (block : ℕ) → SourceCanBeRead v d (source_of (files ino).runs (extents v ino) block)
  can_be_read block = record {
    staged = λ staging k same.
        named_staging block (entry_of_block (live_claims v claims) ino block) (disk_at (extents v ino) block) refl staging k
        (sym (source_is_log v (live_claims v claims) ino (files ino).size (files ino).runs block world.valid.stands.log (fly.overlays ino file)) ∙ same);
    readable = λ b at. block_readable block b (sym (overlay_is_log v (live_claims v claims) ino (files ino).size (files ino).runs block world.valid.stands.log (fly.overlays ino file)) ∙ at);
  }

pub flies_readable : FliesReadable
flies_readable v d claims jobs files numbers s count ino fly file block = can_be_read v d claims jobs files numbers s count ino fly file block
