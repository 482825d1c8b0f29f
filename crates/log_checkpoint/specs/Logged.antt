-- A log that holds the runs of all files, and the content of the images of a gathering.
use Rattle.std.specs.Prelude.{◌≡◌, ◌<◌, ℕ}
use Rattle.file_table.specs.pm_model.Words.{Words}
use Rattle.layout_model.specs.declared.lines.Draft.{Draft}
use Rattle.file_table.specs.layout_model.Journal.{journaled}
use Rattle.staging_files.specs.image_model.Content.{content}
use Rattle.staging_files.specs.image_model.Live.{live_entries}
use Rattle.staging_files.specs.image_model.Rules.{IsOfNoLater}
use Rattle.staging_files.specs.image_model.Volume.{Volume}
use Rattle.file_table.specs.Files.{Files, runs_in, size_in}
use Rattle.fsync_relink.specs.Logged.{IsLogged}
use Rattle.staging_files.specs.k_map_plans.Plans.{IsLiveFile}
use Rattle.staging_files.specs.list_laws.Members.{In}

-- THE LOG HOLDS THE RUNS OF ALL FILES: of each file just its runs are live, and it has the size of the table; no entry of
-- anything else is live; and no line is a valid entry of a lap to come.
pub record AreLogged (t : Files) (v : Volume) (f : Words) : Type 0 where
  pub each : (ino : ℕ) → IsLiveFile ino v → IsLogged ino (size_in t ino) (runs_in t ino) v (live_entries v f)
  pub files : (d : Draft) → In d (live_entries v f) → IsLiveFile d.ino v
  pub no_later : (slot : ℕ) → slot < v.geometry.log → IsOfNoLater v f slot

-- An image of a gathering, or of a part of it, beside the image before: where the log of that one holds the runs, the content
-- is the same.
abbrev pub KeepsLoggedContent : Files → Volume → Words → Words → Type 0
KeepsLoggedContent t v before image =
    AreLogged t v (journaled before) → content v.geometry image ≡ content v.geometry before
