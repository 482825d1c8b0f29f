-- What a crash leaves of a World that lost its power, each law as one statement.
use Rattle.std.specs.Prelude.{◌≡◌, ◌⊎◌, ◌/◌, ◌++◌, ℕ, Bool, true, false, List, [], filter, map}
use Rattle.oplog_entry.specs.pm_model.declared.Cell.{Cell}
use Rattle.oplog_entry.specs.pm_model.Cells.{AllHome, cell, is_lent}
use Rattle.oplog_entry.specs.pm_model.Parts.{Part, put_back}
use Rattle.oplog_entry.specs.pm_model.Words.{Words}
use Rattle.oplog_entry.specs.layout_model.declared.lines.Draft.{Draft}
use Rattle.oplog_entry.specs.layout_model.Places.{Geometry, log_line}
use Rattle.oplog_entry.specs.image_model.Volume.{Volume}
use Rattle.in_place.specs.k_split_laws.k_split_model.View.{View}
use Rattle.in_place.specs.k_split_laws.k_split.Laps.{IsLogWord}
use Rattle.in_place.specs.k_split_laws.block_io.Lines.{LinesComeBack}
use Rattle.in_place.specs.k_split_laws.list_laws.Members.{In}
use Rattle.in_place.specs.k_split_laws.posix_types.declared.item.Item.{Item}
use Rattle.in_place.specs.k_split_laws.posix_tables.Open.{Tables}
use Rattle.in_place.specs.k_split_laws.posix_spec.Run.{Unfinished, run}
use Rattle.in_place.specs.k_split_laws.posix_spec.State.{State}
use Rattle.in_place.specs.live_model.write_jobs.world_image_laws.Promised.{KeepsPromise}
use Rattle.in_place.specs.write_plan.eof_laws.log_checkpoint.world_model.Lines.{AreLinesOut}
use Rattle.in_place.specs.live_model.Standing.{AreLinesLent, Kept, JobOut, StandsAt}
use Rattle.write_end.specs.Ends.{begun_by, IsOut}
use Rattle.in_place.specs.live_model.write_jobs.Jobs.{FilledView, HoldWords}
use Rattle.write_end.specs.Blocks.{AreBlocksHome, AreBlocksOut, ComeHome}
use Rattle.write_end.specs.Lines.{AreCrashLines}
use Rattle.write_end.specs.Lost.{IsLostWith}
use Rattle.write_end.specs.LosingLaws.{AreSpelled}

-- ALL THAT IS OUT IS HANDED IN, as loans of lent blocks: the blocks of each job are at home already, or among the loans; and the filled
-- jobs are of this World, and hold their words.
pub record AreHandedIn (d : List Cell) (kept : Kept) (s : State) (loans : List Part) (filled : List FilledView) : Type 0 where
  pub all : (p : JobOut) → In p kept.pending → AreBlocksHome p.blocks d ⊎ ((b : ℕ) → In b p.blocks → (loan : Part) × In loan loans × (loan.place ≡ b))
  pub lent : (loan : Part) (i : ℕ) → In loan loans → loan.place ≡ i / 512 → is_lent (cell d i) ≡ true
  pub of_world : (job : FilledView) → In job filled → (p : JobOut) × IsOut kept s p job
  pub holds : (job : FilledView) → In job filled → HoldWords job.loans job.words
  pub there : (job : FilledView) (loan : Part) → In job filled → In loan job.loans → In loan loans

-- the log lines came home, and no word of them is lent any more
pub record LinesAreHome (v : Volume) (lines : List Part) (d e : List Cell) : Type 0 where
  pub back : LinesComeBack (log_line v.geometry 0) lines d e
  pub home : (i : ℕ) → IsLogWord v i → is_lent (cell e i) ≡ false

-- A TEST OF THE JOBS MISSES NONE that may have acted: each for which it fails is out still, with its blocks lent, and none of these
-- entries is its own.
pub record MissesNone (pending : List JobOut) (d : List Cell) (taken : List (ℕ × Draft)) (acts : JobOut → Bool) : Type 0 where
  pub lent : (p : JobOut) → In p pending → acts p ≡ false → AreBlocksOut p.blocks d
  pub none : (p : JobOut) (slot : ℕ) → In p pending → acts p ≡ false → ¬ In (slot, p.draft) taken

-- WHAT A CRASH LEAVES of the device: nothing is lent any more, and it keeps the promise for the calls that returned and the unfinished ones;
-- of these those of jobs may be left out that cannot have acted, by the entries that jobs claimed slots for.
pub record IsCrashKept (g : Geometry) (d e : List Cell) (kept : Kept) (start : State) (history : List Item) (last : List Unfinished) (taken : List (ℕ × Draft)) : Type 0 where
  pub home : AllHome e
  pub promise : KeepsPromise g e start history (map begun_by kept.pending ++ last)
  pub acted : (acts : JobOut → Bool) → MissesNone kept.pending d taken acts → KeepsPromise g e start history (map begun_by (filter acts kept.pending) ++ last)

-- A CRASH: the loans come home, and then the lines, of which some filled jobs claimed some.
abbrev pub KeepsCrashed : Type 0
KeepsCrashed =
    (v : Volume) (d middle e : List Cell) (kept : Kept) (start : State) (history : List Item) (last : List Unfinished) (loans : List Part) (filled : List FilledView) (taken : List (ℕ × Draft)) (lines : List Part)
    → IsLostWith v d kept start history last → AreHandedIn d kept (run start history) loans filled → AreCrashLines v.geometry v.base kept.first kept.claims filled taken lines
    → ComeHome loans d middle → LinesAreHome v lines middle e → IsCrashKept v.geometry d e kept start history last taken

-- With the lines at home, and the power on still, the device keeps it with nothing unfinished.
abbrev pub KeepsHome : Type 0
KeepsHome =
    (g : Geometry) (k : View) (t : Tables) (kept : Kept) (n : ℕ) (start : State) (history : List Item) (unfinished : List Unfinished)
    → StandsAt g k t kept false n (run start history) → KeepsPromise g k.cells start history unfinished

-- Lines that hold the claims of a lap and came home are those of a lap without jobs.
abbrev pub LinesHoldOut : Type 0
LinesHoldOut =
    (v : Volume) (d e : List Cell) (first : Words) (claims : List (ℕ × Draft)) (lines : List Part) (back : ℕ → Cell)
    → AreLinesLent v d first → AreSpelled claims → AreCrashLines v.geometry v.base first claims [] [] lines → LinesAreHome v lines d e
    → AreLinesOut v (put_back e back) first claims [] []
