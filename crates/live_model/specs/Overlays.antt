-- The overlay of a file beside the live entries of the log.
use Rattle.std.specs.Prelude.{◌≡◌, ℕ, List, map}
use Rattle.write_jobs.specs.layout_model.declared.lines.Draft.{Draft}
use Rattle.write_jobs.specs.world_model.image_model.Content.{size_of}
use Rattle.write_jobs.specs.world_model.image_model.Volume.{Volume}
use Rattle.file_reads.specs.file_overlay.declared.runs.Run.{Run}
use Rattle.write_jobs.specs.world_model.Stands.{entries_of}

-- the run of an entry
abbrev pub run_of : Draft → Run
run_of d = record { file_block = d.file_block; staging = d.staging; staging_block = d.staging_block; count = d.count; order = d.order }

-- THE OVERLAY OF A FILE has the runs of its live entries, in the order in which they were made; and the file has the size that
-- they give it.
pub record IsOverlayOf (v : Volume) (live : List Draft) (ino : ℕ) (runs : List Run) (size : ℕ) : Type 0 where
  pub runs_are : runs ≡ map run_of (entries_of ino live)
  pub size_is : size ≡ size_of v live ino
