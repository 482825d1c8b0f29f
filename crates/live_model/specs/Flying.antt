-- The World in flight: the device with writes out, and what is kept of files beside their inodes.
use Rattle.std.specs.Prelude.{◌≡◌, ◌⊎◌, ◌<◌, ◌/◌, ◌==◌, ℕ, true, List, [], ◌∷◌, ◌++◌, if◌then◌else◌}
use Rattle.write_jobs.specs.pm_model.declared.Cell.{Cell}
use Rattle.write_jobs.specs.pm_model.Cells.{AllHome, cell, is_lent}
use Rattle.write_jobs.specs.pm_model.Parts.{Part}
use Rattle.write_jobs.specs.layout_model.Places.{log_line}
use Rattle.write_jobs.specs.layout_model.declared.lines.Draft.{Draft}
use Rattle.write_jobs.specs.layout_model.declared.lines.Kind.TheVariants.{File}
use Rattle.write_jobs.specs.world_model.image_model.Volume.{inode, Volume}
use Rattle.file_reads.specs.file_overlay.declared.runs.Run.{Run}
use Rattle.write_jobs.specs.list_laws.Members.{In}
use Rattle.write_jobs.specs.commute_laws.posix_types.declared.call.Mode.{Mode}
use Rattle.write_jobs.specs.world_model.posix_spec.State.{State}
use Rattle.write_jobs.specs.world_image_laws.Images.{StandsFor}
use Rattle.write_jobs.specs.world_model.Jobs.{IsStagedIn, Job, live_claims}
use Rattle.write_jobs.specs.world_model.Promised.{AreWhole}
use Rattle.write_jobs.specs.Jobs.{loan_at}
use Rattle.write_jobs.specs.Blocks.{AreOut}
use Rattle.live_model.specs.Overlays.{IsOverlayOf, run_of}

-- what is kept of a file: its staged runs, in the order in which they were laid, and its size by them
pub record FileState : Type 0 where
  pub runs : List Run
  pub size : ℕ

-- with the run of an entry more
abbrev pub with_entry : (ℕ → FileState) → Draft → ℕ → FileState
with_entry files d ino = if ino == d.ino then record { runs = (files ino).runs ++ run_of d ∷ []; size = d.size } else files ino

-- what is kept of each file is what the log says of it
abbrev pub AreOverlays : Volume → List Draft → (ℕ → FileState) → Type 0
AreOverlays v live files = (ino : ℕ) → (inode v ino).kind ≡ File → IsOverlayOf v live ino (files ino).runs (files ino).size

-- A word that is lent is one of a log line, or of a block of a job.
abbrev pub IsOut : Volume → List Job → ℕ → Type 0
IsOut v jobs i = ((slot : ℕ) × (slot < v.geometry.log) × (i / 8 ≡ log_line v.geometry slot)) ⊎ ((j : Job) × In j jobs × IsStagedIn v j.draft (i / 512))

-- THE WORLD FLIES: the device stands for the state with these jobs in flight, whatever is in its log lines; in strict mode all
-- bytes of each job are found once it lands; the blocks of the jobs are out, and else nothing but log lines; and what is kept of each file
-- is what the log says of it.
pub record IsFlying (v : Volume) (d : List Cell) (claims : List (ℕ × Draft)) (jobs : List Job) (files : ℕ → FileState) (numbers : List ℕ) (s : State) (count : ℕ) : Type 0 where
  pub device : StandsFor v d claims jobs numbers s count
  pub whole : s.mode ≡ Mode.Strict → AreWhole jobs
  pub out : (j : Job) → In j jobs → AreOut v j.draft d
  pub home : (i : ℕ) → is_lent (cell d i) ≡ true → IsOut v jobs i
  pub overlays : AreOverlays v (live_claims v claims) files

-- no word of the loans is itself lent
abbrev pub AreHomeLoans : List Part → Type 0
AreHomeLoans loans = (k : ℕ) → AllHome (loan_at loans k).cells
