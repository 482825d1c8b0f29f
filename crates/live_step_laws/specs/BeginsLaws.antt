-- A job that begins in flight, as one statement.
use Rattle.std.specs.Prelude.{◌≡◌, ◌≤◌, ◌+◌, ℕ, true, Contains, List, [], ◌∷◌, ◌++◌, length}
use Rattle.live_model.specs.pm_model.declared.Cell.{Cell}
use Rattle.live_model.specs.pm_model.Images.{IsImage}
use Rattle.live_model.specs.pm_model.Words.{Words}
use Rattle.live_model.specs.layout_model.Journal.{journaled}
use Rattle.live_model.specs.layout_model.Places.{Geometry, reserve}
use Rattle.live_model.specs.image_model.Room.{unused_blocks}
use Rattle.live_model.specs.file_table.Files.{spare_in}
use Rattle.live_model.specs.write_jobs.Blocks.{GoOut}
use Rattle.live_model.specs.k_split_model.View.{View}
use Rattle.live_model.specs.k_split.Order.{IsInOrder}
use Rattle.live_model.specs.list_laws.Members.{In}
use Rattle.live_model.specs.posix_laws.Views.{need_of}
use Rattle.live_model.specs.commute_laws.posix_types.declared.call.Mode.{Mode}
use Rattle.live_model.specs.posix_tables.Open.{Tables}
use Rattle.live_model.specs.posix_spec.State.{room, State}
use Rattle.live_model.specs.world_model.JobLaws.{needs}
use Rattle.live_model.specs.world_model.Jobs.{AreApartJobs, Job, JobStands, live_claims}
use Rattle.live_model.specs.Standing.{AreOfTwoThreads, HasItsBlocks, Kept, JobOut, reserved_run, StandsAt}

-- what the World keeps, with one more job out, the last one
abbrev pub with_job : Kept → JobOut → Kept
with_job kept p = record kept { pending = kept.pending ++ p ∷ [] }

-- what K-Split is, with other cells
abbrev pub with_cells : View → List Cell → View
with_cells k cells = record k { cells = cells }

-- THE JOB MAY BEGIN: it is the pending one; it stands by each image, apart from the others, in strict mode all its bytes are found, and
-- it finds room; its caller is another one; its blocks are those of its entry, whose run is out; one run more is out than the live entries
-- and the jobs have; the blocks that all runs that are out want are free; and there is room to lay its run.
pub record MayBegin (k : View) (kept : Kept) (jobs : List Job) (numbers : List ℕ) (s : State) (p : JobOut)
    (j : Job) : Type 0 where
  pub who_is : j.who ≡ p.who
  pub call_is : j.call ≡ p.call
  pub draft_is : j.draft ≡ p.draft
  pub stands : (image : Words) → IsImage k.cells image
      → JobStands k.volume (live_claims k.volume kept.claims) (journaled image) numbers s j
  pub apart : (i : Job) → In i jobs → AreApartJobs i j
  pub whole : s.mode ≡ Mode.Strict → j.found ≡ j.whole
  pub fits : needs s jobs + need_of s j.who j.call ≤ room s
  pub caller : (q : JobOut) → In q kept.pending → AreOfTwoThreads q p
  pub blocks : HasItsBlocks k.volume p
  pub out : Contains kept.staging.out (reserved_run p.draft)
  pub owed : length (live_claims k.volume kept.claims) + length jobs + 1 ≤ length kept.staging.out
  pub free : length kept.staging.out + reserve k.volume.geometry ≤ unused_blocks k.volume + 3
  pub spare : 3 ≤ spare_in kept.files p.draft.ino

-- ITS BLOCKS GO OUT: they stand together with it.
abbrev pub StandsBegun : Type 0
StandsBegun =
    (g : Geometry) (k : View) (cells : List Cell) (t : Tables) (kept : Kept) (n : ℕ) (s : State) (p : JobOut) (j : Job)
    → (stands : StandsAt g k t kept true n s) → MayBegin k kept stands.jobs stands.numbers s p j
    → GoOut k.volume p.draft k.cells cells → IsInOrder (with_cells k cells)
    → (now : StandsAt g (with_cells k cells) t (with_job kept p) true n s) × (now.jobs ≡ stands.jobs ++ j ∷ [])
    × (now.numbers ≡ stands.numbers)
