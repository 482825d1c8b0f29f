-- Runs that the log holds, and the content of the images of a publishing.
use Rattle.std.specs.Prelude.{◌≡◌, ◌↔◌, ℕ, List, AllPairs}
use Rattle.log_laws.specs.pm_model.Words.{Words}
use Rattle.log_laws.specs.layout_model.declared.lines.Draft.{Draft}
use Rattle.log_laws.specs.layout_model.Journal.{journaled}
use Rattle.log_laws.specs.image_model.Content.{content, disk_of, size_of}
use Rattle.log_laws.specs.image_model.Live.{live_entries}
use Rattle.log_laws.specs.image_model.Volume.{Volume}
use Rattle.file_overlay.specs.declared.runs.Run.{Run}
use Rattle.file_overlay.specs.Laws.{IsEarlier}
use Rattle.file_overlay.specs.Runs.{staged_at}
use Rattle.log_laws.specs.list_laws.Members.{In}
use Rattle.fsync_relink.specs.Publishes.{published_at}
use Rattle.log_laws.specs.Logs.{AreSound}

-- the run that a log entry is of
abbrev pub run_of : Draft → Run
run_of d =
    record { file_block = d.file_block; staging = d.staging; staging_block = d.staging_block; count = d.count; order = d.order }

-- THE LOG HOLDS THE RUNS: they are just the live entries of the file, the size is the file's, and the live entries are sound.
pub record IsLogged (ino size : ℕ) (runs : List Run) (v : Volume) (live : List Draft) : Type 0 where
  pub runs_are : (run : Run) → In run runs ↔ ((d : Draft) × In d live × (d.ino ≡ ino) × (run_of d ≡ run))
  pub size_is : size_of v live ino ≡ size
  pub sound : AreSound v live

-- An image of a publishing, or of a part of it, beside the image before, which was one of a volume v: where the log of that
-- one holds the runs, the content is the same.
abbrev pub HasSameContent : ℕ → ℕ → List Run → Volume → Words → Words → Type 0
HasSameContent ino size runs v before image =
    IsLogged ino size runs v (live_entries v (journaled before)) → content v.geometry image ≡ content v.geometry before

-- Where the log holds the runs of an overlay, with rising orders, the overlay gives each file block the disk block that it has
-- in the content.
abbrev pub ShowsLogged : Type 0
ShowsLogged =
    (ino size : ℕ) (runs : List Run) (v : Volume) (live : List Draft) → AllPairs IsEarlier runs → IsLogged ino size runs v live
    → (block : ℕ) → published_at v ino block (staged_at runs block) ≡ disk_of v live ino block
