-- A block is zeroed.
use Rattle.std.specs.Prelude.{◌≡◌, ◌≤◌, ◌<◌, ◌/◌, ◌%◌, ℕ, length, Option, Some, None, refl}
use Rattle.std.proofs.Common.{arith, ap, ◌∙◌, sym}
use Rattle.live_step_laws.specs.k_split_laws.image_model.Volume.{extents, Volume}
use Rattle.write_plan.specs.live_model.data_route.Reads.{source_by}
use Rattle.live_step_laws.specs.k_split_laws.extent_model.Extents.{disk_at}
use Rattle.write_plan.specs.file_overlay.Runs.{staged_at}
use Rattle.write_plan.specs.live_model.file_reads.Reads.{block_of}
use Rattle.write_plan.specs.live_model.file_table.Files.{Files, runs_in, size_in}
use Rattle.in_place.specs.CleansLaws.{StandsCleaned}
use Rattle.in_place.specs.ZerosLaws.{StandsToZero, StandsZeroed, ZeroedReadZero}
use Rattle.in_place.specs.Zeros.{block_end, MayZero, ReadZero, staged_place}
use Rattle.in_place.proofs.Zeroed.{staging_there}
use Rattle.live_step_laws.specs.k_split_laws.k_split_model.View.{View}
use Rattle.live_step_laws.specs.k_split_laws.k_split.Bytes.{IsOverwriteDone, tail_zeros}
use Rattle.live_step_laws.specs.k_split_laws.k_split.Loans.{MayLend}
use Rattle.live_step_laws.specs.world_model.TreeRules.{used_below}
use Rattle.live_step_laws.specs.world_model.Stands.{is_used}
use Rattle.in_place.specs.Gaps.{Clears, HasFile, with_files}

place_in_block : (block from : ℕ) → (staged_place block from / 4096 ≡ block) × (staged_place block from % 4096 ≡ from % 4096)
place_in_block block from = (omega arith, omega arith)

mapped_alone : (v : Volume) (o : Option ℕ) → o ≡ block_of v (source_by None o)
mapped_alone v None = refl
mapped_alone v (Some b) = refl

module _ (k l : View) (files : Files) (ino from : ℕ) (some : HasFile k files ino) (behind : size_in files ino ≤ from) where
  pub below : ino < length k.volume.inodes
  below = used_below k.volume ino (ap is_used some.file)

  may_zero : (staging block : ℕ) → staged_at (runs_in files ino) (from / 4096) ≡ Some (staging, block) → (has : HasFile k files ino) → MayZero k (with_files has.kept files) has.stands.jobs ino from staging block
  may_zero staging block at has = record { file = has.file; behind = behind; others = has.others; at = at }

  -- a staged block can be written in place
  pub can_zero : (staging block : ℕ) → StandsToZero → staged_at (runs_in files ino) (from / 4096) ≡ Some (staging, block) → (b : ℕ) × MayLend k.volume k.cells staging block b
  can_zero staging block law at = law some.g k some.t (with_files some.kept files) some.lines some.n some.s ino from staging block some.stands (may_zero staging block at some)

  -- a block of its map
  pub cleared_mapped : StandsCleaned → ZeroedReadZero → staged_at (runs_in files ino) (from / 4096) ≡ None → IsOverwriteDone ino from (tail_zeros k.volume ino from) k l
      → ReadZero k files ino (size_in files ino) from → Clears ino files k l (block_end from)
  cleared_mapped cleaned zeroed at done zero = record {
    same = done.same;
    size = done.over.size;
    lent = done.over.lent;
    singles = done.singles;
    stays = λ has.
        let r = cleaned has.g k l has.t (with_files has.kept files) has.lines has.n has.s ino from has.stands (record { file = has.file; behind = behind; others = has.others }) done in
        record { now = r.0; jobs_are = r.1; numbers_are = r.2 };
    zero = zeroed some.g k l some.t (with_files some.kept files) some.lines some.n some.s ino (size_in files ino) from ino from some.stands some.file below
        (mapped_alone k.volume (disk_at (extents k.volume ino) (from / 4096)) ∙ ap (λ o. block_of k.volume (source_by o (disk_at (extents k.volume ino) (from / 4096)))) (sym at)) refl done zero;
  }

  -- a staged block
  pub cleared_staged : (staging block : ℕ) → StandsZeroed → ZeroedReadZero → staged_at (runs_in files ino) (from / 4096) ≡ Some (staging, block)
      → IsOverwriteDone staging (staged_place block from) (tail_zeros k.volume staging (staged_place block from)) k l
      → ReadZero k files ino (size_in files ino) from → Clears ino files k l (block_end from)
  cleared_staged staging block stands zeroed at done zero = record {
    same = done.same;
    size = done.over.size;
    lent = done.over.lent;
    singles = done.singles;
    stays = λ has.
        let r = stands has.g k l has.t (with_files has.kept files) has.lines has.n has.s ino from staging block has.stands (may_zero staging block at has) done in
        record { now = r.0; jobs_are = r.1; numbers_are = r.2 };
    zero = zeroed some.g k l some.t (with_files some.kept files) some.lines some.n some.s ino (size_in files ino) from staging (staged_place block from) some.stands some.file
        (staging_there some.g k some.t (with_files some.kept files) some.lines some.n some.s ino from staging block some.stands (record { file = some.file; at = at }))
        (ap (disk_at (extents k.volume staging)) (place_in_block block from).0 ∙ ap (λ o. block_of k.volume (source_by o (disk_at (extents k.volume ino) (from / 4096)))) (sym at))
        (place_in_block block from).1 done zero;
  }
