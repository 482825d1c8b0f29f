-- How a World that lost its power goes on, each law as one statement.
use Rattle.std.specs.Prelude.{◌≡◌, ◌≢◌, ◌/◌, ℕ, true, false, List, [], ◌∷◌, ◌++◌, Bool}
use Rattle.oplog_entry.specs.pm_model.declared.Cell.{Cell}
use Rattle.oplog_entry.specs.pm_model.Cells.{cell, is_lent}
use Rattle.oplog_entry.specs.pm_model.Parts.{Part}
use Rattle.in_place.specs.live_model.write_jobs.Loans.{AreApart, ComeBack}
use Rattle.oplog_entry.specs.layout_model.declared.lines.Draft.{Draft}
use Rattle.oplog_entry.specs.layout_model.Places.{Geometry}
use Rattle.oplog_entry.specs.image_model.Volume.{Volume}
use Rattle.in_place.specs.k_split_laws.k_split_model.View.{View}
use Rattle.in_place.specs.k_split_laws.list_laws.Members.{In}
use Rattle.in_place.specs.k_split_laws.Left.{IsLeftOf}
use Rattle.in_place.specs.k_split_laws.posix_types.declared.call.Mode.{Mode}
use Rattle.in_place.specs.k_split_laws.posix_types.declared.item.Item.{Item}
use Rattle.in_place.specs.k_split_laws.posix_tables.Open.{Tables}
use Rattle.in_place.specs.k_split_laws.posix_spec.Run.{Unfinished, run}
use Rattle.in_place.specs.k_split_laws.posix_spec.State.{State}
use Rattle.in_place.specs.live_model.Losses.{KeepsWhenLost}
use Rattle.in_place.specs.live_model.Jobs.{without}
use Rattle.in_place.specs.live_model.Standing.{IsSpellable, Kept, JobOut, StandsAt}
use Rattle.write_end.specs.Ends.{IsOut}
use Rattle.in_place.specs.live_model.write_jobs.Jobs.{FilledView, HoldWords, blocks_of}
use Rattle.write_end.specs.Blocks.{AreBlocksHome, AreBlocksOut, ComeHome}
use Rattle.write_end.specs.Lost.{IsLostWith}

-- each claim of the lap is an entry that a line can hold
abbrev pub AreSpelled : List (ℕ × Draft) → Type 0
AreSpelled claims = (slot : ℕ) (d : Draft) → In (slot, d) claims → IsSpellable d

-- THE POWER WENT in a call of a World that stood together, in strict or in sync mode: its device is left of that before, and the promise is kept.
abbrev pub LosesCall : Type 0
LosesCall =
    (g : Geometry) (k : View) (t : Tables) (kept : Kept) (n : ℕ) (start : State) (history : List Item) (last : List Unfinished) (e : List Cell) → start.mode ≢ Mode.Posix
    → (stands : StandsAt g k t kept true n (run start history)) → AreSpelled kept.claims → IsLeftOf g k.cells e → KeepsWhenLost k.volume e kept stands.jobs start history last
    → IsLostWith k.volume e kept start history last

-- It was found off, or lost elsewhere: the jobs that are out are the unfinished calls.
abbrev pub IsFoundLost : Type 0
IsFoundLost =
    (g : Geometry) (k : View) (t : Tables) (kept : Kept) (n : ℕ) (start : State) (history : List Item) → start.mode ≢ Mode.Posix
    → StandsAt g k t kept true n (run start history) → AreSpelled kept.claims
    → IsLostWith k.volume k.cells kept start history []

-- So it is with one call more, which found the power off before it did anything.
abbrev pub IsFoundAtCall : Type 0
IsFoundAtCall =
    (g : Geometry) (k : View) (t : Tables) (kept : Kept) (n : ℕ) (start : State) (history : List Item) (c : Unfinished) → start.mode ≢ Mode.Posix
    → StandsAt g k t kept true n (run start history) → AreSpelled kept.claims
    → IsLostWith k.volume k.cells kept start history (c ∷ [])

-- Of what is kept only the jobs, the claims and the first words count then.
abbrev pub IsLostAlike : Type 0
IsLostAlike =
    (v : Volume) (d : List Cell) (kept then : Kept) (start : State) (history : List Item) (last : List Unfinished) → then.pending ≡ kept.pending → then.claims ≡ kept.claims → then.first ≡ kept.first
    → IsLostWith v d kept start history last → IsLostWith v d then start history last

-- ---- the blocks of jobs

-- While they stand together the blocks of each job that is out are lent.
abbrev pub HasBlocksOut : Type 0
HasBlocksOut = (g : Geometry) (k : View) (t : Tables) (kept : Kept) (n : ℕ) (s : State) (p : JobOut) → StandsAt g k t kept true n s → In p kept.pending → AreBlocksOut p.blocks k.cells

-- A device that is left of another has the same blocks out, and at home.
abbrev pub LeavesBlocks : Type 0
LeavesBlocks =
    (g : Geometry) (d e : List Cell) (blocks : List ℕ) → IsLeftOf g d e
    → (AreBlocksOut blocks d → AreBlocksOut blocks e) × (AreBlocksHome blocks d → AreBlocksHome blocks e)

-- The loans of a job are of one block each, and share none with the job of another caller; so they can be taken back all together.
abbrev pub SharesNone : List JobOut → JobOut → Type 0
SharesNone pending p = (q : JobOut) (b : ℕ) → In q pending → q.who ≢ p.who → In b p.blocks → In b q.blocks → ⊥

abbrev pub HasLoansApart : Type 0
HasLoansApart =
    (v : Volume) (d : List Cell) (kept : Kept) (start : State) (history : List Item) (last : List Unfinished) (p : JobOut) (loans : List Part)
    → IsLostWith v d kept start history last → In p kept.pending → blocks_of loans ≡ p.blocks → AreApart loans × SharesNone kept.pending p

-- so it is while they stand together
abbrev pub StandsApart : Type 0
StandsApart =
    (g : Geometry) (k : View) (t : Tables) (kept : Kept) (lines : Bool) (n : ℕ) (s : State) (p : JobOut) (loans : List Part)
    → StandsAt g k t kept lines n s → In p kept.pending → blocks_of loans ≡ p.blocks → AreApart loans × SharesNone kept.pending p

-- ---- jobs end

-- The job of a World that lost its power is out: its blocks are lent, and these loans of them, which hold its words, came back.
pub record ComesHome (d e : List Cell) (kept : Kept) (s : State) (p : JobOut) (job : FilledView) : Type 0 where
  pub out : IsOut kept s p job
  pub lent : AreBlocksOut p.blocks d
  pub holds : HoldWords job.loans job.words
  pub back : ComeBack job.loans d e

-- what the World keeps, with a claim more
abbrev pub claimed_by : Kept → ℕ → JobOut → Kept
claimed_by kept slot p = record kept { claims = kept.claims ++ (slot, p.draft) ∷ [] }

-- A JOB FINISHES after the loss: its claim counts, and its call stays unfinished.
abbrev pub FinishesLost : Type 0
FinishesLost =
    (v : Volume) (d e : List Cell) (kept : Kept) (start : State) (history : List Item) (last : List Unfinished) (p : JobOut) (job : FilledView) (slot : ℕ)
    → IsLostWith v d kept start history last → ComesHome d e kept (run start history) p job → IsLostWith v e (claimed_by kept slot p) start history last

-- what the World keeps, without the job
abbrev pub without_job : Kept → JobOut → Kept
without_job kept p = record kept { pending = without p.who kept.pending }

-- IT IS GIVEN UP after the loss: it is out no more, and its call was not begun.
abbrev pub GivesUpLost : Type 0
GivesUpLost =
    (v : Volume) (d e : List Cell) (kept : Kept) (start : State) (history : List Item) (last : List Unfinished) (p : JobOut) (job : FilledView)
    → IsLostWith v d kept start history last → ComesHome d e kept (run start history) p job → IsLostWith v e (without_job kept p) start history last

-- Then its blocks are at home; and each word of the blocks of a job of another caller is as it was.
abbrev pub ComesHomeAlone : Type 0
ComesHomeAlone =
    (v : Volume) (d e : List Cell) (kept : Kept) (start : State) (history : List Item) (last : List Unfinished) (p : JobOut) (job : FilledView)
    → IsLostWith v d kept start history last → ComesHome d e kept (run start history) p job
    → AreBlocksHome p.blocks e
    × ((q : JobOut) (i : ℕ) → In q kept.pending → q.who ≢ p.who → In (i / 512) q.blocks → cell e i ≡ cell d i)

-- ---- loans one after the other

abbrev pub ComeHomeNone : Type 0
ComeHomeNone = (d : List Cell) → ComeHome [] d d

-- no word of the loans is itself lent
abbrev pub AreHomeParts : List Part → Type 0
AreHomeParts loans = (loan : Part) (j : ℕ) → In loan loans → is_lent (cell loan.cells j) ≡ false

abbrev pub ComeHomeMore : Type 0
ComeHomeMore =
    (loans more : List Part) (d e f : List Cell) → ComeHome loans d e → ComeBack more e f → AreHomeParts more
    → ((loan other : Part) → In loan loans → In other more → loan.place ≢ other.place)
    → ComeHome (loans ++ more) d f
