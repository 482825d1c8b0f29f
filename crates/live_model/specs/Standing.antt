-- When K-Split, the open files, the staging files, what is kept of files, and the jobs that are out stand together in a state of
-- the calls.
use Rattle.std.specs.Prelude.{◌≡◌, ◌≢◌, ◌≤◌, ◌<◌, ◌+◌, ◌*◌, ◌/◌, ◌^◌, ℕ, Bool, true, false, Contains, AllPairs, List, [], ◌∷◌, length, Some, slice_index}
use Rattle.file_table.specs.pm_model.declared.Cell.{Cell}
use Rattle.file_table.specs.pm_model.Cells.{cell, is_lent, is_single}
use Rattle.file_table.specs.pm_model.Words.{line_bytes, Words}
use Rattle.file_table.specs.layout_model.declared.lines.Draft.{Draft}
use Rattle.file_table.specs.layout_model.declared.lines.Kind.TheVariants.{File}
use Rattle.file_table.specs.layout_model.Entries.{held_seq, is_draft, is_self_valid}
use Rattle.file_table.specs.layout_model.EntryLaws.{FitsDraft}
use Rattle.file_table.specs.layout_model.Journal.{is_journal_word}
use Rattle.file_table.specs.layout_model.Places.{Geometry, is_journaled_line, log_line}
use Rattle.world_model.specs.image_model.Volume.{inode, Volume}
use Rattle.open_files.specs.posix_laws.Orders.{AreOrdered}
use Rattle.file_table.specs.Files.{Files, runs_in, size_in, spare_in}
use Rattle.live_model.specs.Flying.{FileState, IsFlying}
use Rattle.world_model.specs.HeldLaws.{AreSizes}
use Rattle.staging_files.specs.k_split_model.View.{View}
use Rattle.staging_files.specs.k_split.Order.{IsInOrder}
use Rattle.open_files.specs.posix_laws.list_laws.Members.{In}
use Rattle.open_files.specs.Numbered.{numbered_as}
use Rattle.open_files.specs.posix_types.declared.call.Call.{Call}
use Rattle.open_files.specs.posix_types.declared.call.Who.{Who}
use Rattle.open_files.specs.posix_tables.Open.{is_open, Tables}
use Rattle.write_jobs.specs.commute_laws.Frames.{AreThreads}
use Rattle.open_files.specs.posix_laws.posix_spec.State.{State}
use Rattle.staging_files.specs.declared.runs.StageRun.{StageRun}
use Rattle.staging_files.specs.Keeps.{Agrees, AreFreeSingle, IsStaged, Staged}
use Rattle.write_jobs.specs.world_image_laws.Images.{HasLogHome}
use Rattle.world_model.specs.Jobs.{Job, live_claims, staged_block}
use Rattle.world_model.specs.Stands.{entries_of, number}

-- A job that is out, as the World keeps it: its caller and call, its entry, and the disk blocks that it was lent, in the order of
-- the entry's blocks.
pub record JobOut : Type 0 where
  pub who : Who
  pub call : Call
  pub draft : Draft
  pub blocks : List ℕ

-- What the World keeps beside K-Split and the open files: the staging; of each inode line what is staged and the size; the pairs
-- of slot and entry of this lap; the jobs that are out, in the order of beginning; and the words that the log lines had when
-- the lap began.
pub record Kept : Type 0 where
  pub staging : Staged
  pub files : Files
  pub claims : List (ℕ × Draft)
  pub pending : List JobOut
  pub first : Words

-- an entry that a log line can hold
pub record IsSpellable (d : Draft) : Type 0 where
  pub fields : is_draft d ≡ true
  pub fits : FitsDraft d

-- they are these jobs, in the order in which they began
abbrev pub AreJobsOf : List JobOut → List Job → Type 0
AreJobsOf [] [] = Unit {0}
AreJobsOf [] (j ∷ jobs) = ⊥
AreJobsOf (p ∷ pending) [] = ⊥
AreJobsOf (p ∷ pending) (j ∷ jobs) = (j.who ≡ p.who) × (j.call ≡ p.call) × (j.draft ≡ p.draft) × AreJobsOf pending jobs

-- the blocks that it was lent are those of its entry
pub record HasItsBlocks (v : Volume) (p : JobOut) : Type 0 where
  pub count : length p.blocks ≡ p.draft.count
  pub each : (k : ℕ) → k < p.draft.count → staged_block v p.draft k ≡ Some (slice_index p.blocks k)

-- of two jobs the callers are two threads: while a job of the set-up is out, no other is
abbrev pub AreOfTwoThreads : JobOut → JobOut → Type 0
AreOfTwoThreads p q = AreThreads q.who p.who

-- the run of an entry, as it was reserved
abbrev pub reserved_run : Draft → StageRun
reserved_run d = record { staging = d.staging; block = d.staging_block; count = d.count; generation = d.staging_generation }

-- what is kept of a file
abbrev pub file_state : Files → ℕ → FileState
file_state files ino = record { runs = runs_in files ino; size = size_in files ino }

-- The log lines are out; and by the words that they had when the lap began each of them that was an entry was one of an earlier
-- lap.
pub record AreLinesLent (v : Volume) (d : List Cell) (first : Words) : Type 0 where
  pub lent : (slot j : ℕ) → slot < v.geometry.log → j < 8 → is_lent (cell d (8 * log_line v.geometry slot + j)) ≡ true
  pub old : (slot : ℕ) → slot < v.geometry.log → is_self_valid (line_bytes first (log_line v.geometry slot)) ≡ true
      → held_seq (line_bytes first (log_line v.geometry slot)) < v.base

-- They are out, or at home: then no job is out, and each image shows the claims.
abbrev pub LinesStand : Bool → Volume → List Cell → Kept → Type 0
LinesStand true v d kept = AreLinesLent v d kept.first
LinesStand false v d kept = (kept.pending ≡ []) × HasLogHome v d kept.claims

-- a word of no journaled line that is not lent has one candidate
abbrev pub IsQuietBeside : Geometry → List Cell → Type 0
IsQuietBeside g d = (i : ℕ) → is_journal_word i ≡ false → is_journaled_line g (i / 8) ≡ false → is_lent (cell d i) ≡ false → is_single (cell d i) ≡ true

-- THEY STAND TOGETHER in the state: K-Split is in order and commits each change at once; the World flies over it; the tables of
-- the state are those of the open files; the log lines are out or at home; what is kept of files is what the log says; the
-- staging agrees with K-Split, and has a run of its own out for each live entry and for each job; there is room to lay the run of
-- each job; and each live entry is one that a line can hold. At most n nodes were made since the lap began; and the last order of
-- each file, those of its live entries among them, is at most n above what a mount leaves.
pub record StandsAt (g : Geometry) (k : View) (t : Tables) (kept : Kept) (lines_out : Bool) (n : ℕ) (s : State) : Type 0 where
  pub count : ℕ
  pub few : count ≤ n
  pub numbers : List ℕ
  pub jobs : List Job
  pub jobs_are : AreJobsOf kept.pending jobs
  pub order : IsInOrder k
  pub unbatched : k.batched ≡ false
  pub on : k.lost ≡ false
  pub geometry : k.volume.geometry ≡ g
  pub flying : IsFlying k.volume k.cells kept.claims jobs (file_state kept.files) numbers s count
  pub lines : LinesStand lines_out k.volume k.cells kept
  pub quiet : IsQuietBeside g k.cells
  pub blocks : (p : JobOut) → In p kept.pending → HasItsBlocks k.volume p
  pub callers : AllPairs AreOfTwoThreads kept.pending
  pub spare : (p : JobOut) → In p kept.pending → 3 ≤ spare_in kept.files p.draft.ino
  pub tables : s.tables ≡ numbered_as (number numbers) t
  pub open_are_files : (ino : ℕ) → is_open t ino ≡ true → (inode k.volume ino).kind ≡ File
  pub ordered : AreOrdered s.entries
  pub sizes : AreSizes k.volume (live_claims k.volume kept.claims) kept.files.sizes
  pub bare : (ino : ℕ) → (inode k.volume ino).kind ≢ File → runs_in kept.files ino ≡ []
  pub staged : IsStaged kept.staging
  pub agrees : Agrees kept.staging k
  pub free_single : AreFreeSingle kept.staging k
  pub drafts : (d : Draft) → In d (live_claims k.volume kept.claims) → IsSpellable d
  pub low : (ino : ℕ) → (inode k.volume ino).applied + length (entries_of ino (live_claims k.volume kept.claims)) ≤ 2 ^ 62 + n
  pub claims_out : (d : Draft) → In d (live_claims k.volume kept.claims) → Contains kept.staging.out (reserved_run d)
  pub jobs_out : (p : JobOut) → In p kept.pending → Contains kept.staging.out (reserved_run p.draft)
  pub owed : length (live_claims k.volume kept.claims) + length jobs ≤ length kept.staging.out
