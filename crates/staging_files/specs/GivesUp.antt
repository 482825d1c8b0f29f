-- Runs that are given back, and staging files that give up all their blocks.
use Rattle.std.specs.Prelude.{◌≡◌, ◌<◌, ℕ, suc, zero, true, false, [], replicate, remove, slice_get, Some, Result, Ok, Err, alloc_error}
use Rattle.std.specs.declared.alloc.AllocError.{AllocError}
use Rattle.k_split.specs.pm_model.Powers.{is_on, Supply}
use Rattle.k_split.specs.image_model.Volume.{Volume}
use Rattle.k_split.specs.k_journal.declared.outcomes.Commit.{Commit}
use Rattle.k_split.specs.k_split_model.View.{View}
use Rattle.k_split.specs.MapChanges.{IsGiveUpAnswer, IsStagedSingle}
use Rattle.k_split.specs.declared.faults.KFault.{KFault}
use Rattle.k_split.specs.k_split_model.MapChangesChanges.{given_up}
use Rattle.staging_files.specs.declared.runs.StageRun.{StageRun}
use Rattle.staging_files.specs.Keeps.{Agrees, IsStaging, Staged}

-- The run is out no longer, so that its blocks are kept as free again. All others stay, in their order.
pub record IsGivenBack (run : StageRun) (s t : Staged) : Type 0 where
  pub place : ℕ
  pub was : slice_get s.out place ≡ Some run
  pub now : t ≡ record s { out = remove s.out place }

-- ---- all staging files

-- no run is out, and all four staging files are kept as empty
abbrev pub nothing_staged : Staged
nothing_staged = record { out = []; given = replicate 4 0 }

-- each word of the blocks of all staging files has one candidate, so that none is lent
abbrev pub AllStagedSingle : View → Type 0
AllStagedSingle k = (x : ℕ) → IsStaging x → IsStagedSingle x k.volume k.cells

-- the volume without the blocks of its staging files: their lines keep their generations
abbrev pub bared : Volume → Volume
bared v = given_up 4 (given_up 3 (given_up 2 (given_up 1 v)))

-- the staging files 1 to n gave up their blocks, by as many changes of K-Split, of which each is durable before the next
abbrev pub AreGivenUp : ℕ → View → View → Type 0
AreGivenUp zero k l = l ≡ k
AreGivenUp (suc n) k l = (middle : View) × AreGivenUp n k middle × IsGiveUpAnswer (suc n) middle l (Ok tt)

-- some first of them did, and the power was off then, or went while the next one gave up its own
pub record AreCutOff (k l : View) : Type 0 where
  pub done : ℕ
  pub few : done < 4
  pub middle : View
  pub gave : AreGivenUp done k middle
  pub cut : IsGiveUpAnswer (suc done) middle l (Err KFault.PowerLost)

-- some first of them did
pub record AreSomeGivenUp (k l : View) : Type 0 where
  pub done : ℕ
  pub few : done < 4
  pub gave : AreGivenUp done k l

-- What becomes of K-Split: all four gave up their blocks; or the power went on the way; or memory ran out on the way.
abbrev pub IsGivenUpEach : View → View → Result Commit AllocError → Type 0
IsGivenUpEach k l (Ok Commit.Done) = AreGivenUp 4 k l
IsGivenUpEach k l (Ok Commit.PowerLost) = AreCutOff k l
IsGivenUpEach k l (Err e) = AreSomeGivenUp k l

-- what is answered where K-Split did not take the blocks from a staging file
abbrev pub stopped_by : KFault → Result Commit AllocError
stopped_by (KFault.Refused errno) = Err alloc_error
stopped_by (KFault.Room room) = Err alloc_error
stopped_by KFault.PowerLost = Ok Commit.PowerLost
stopped_by KFault.NoMemory = Err alloc_error

-- WHAT `give_up_all` ANSWERS AND LEAVES, from s and k to t and l: done, and nothing is staged; else the staging is as it was.
abbrev pub IsGiveUpAllAnswer : Staged → View → Staged → View → Result Commit AllocError → Type 0
IsGiveUpAllAnswer s k t l (Ok Commit.Done) = (t ≡ nothing_staged) × (l.volume ≡ bared k.volume) × AreGivenUp 4 k l
IsGiveUpAllAnswer s k t l (Ok Commit.PowerLost) = (t ≡ s) × AreCutOff k l
IsGiveUpAllAnswer s k t l (Err e) = (t ≡ s) × AreSomeGivenUp k l

-- what it takes of the power: all that is left exactly where it answers `PowerLost`
abbrev pub IsGiveUpAllPaid : Supply → Result Commit AllocError → Type 0
IsGiveUpAllPaid new (Ok Commit.Done) = is_on new ≡ true
IsGiveUpAllPaid new (Ok Commit.PowerLost) = is_on new ≡ false
IsGiveUpAllPaid new (Err e) = is_on new ≡ true

-- the agreement holds where it is done
abbrev pub AgreesAfterAll : Staged → View → Result Commit AllocError → Type 0
AgreesAfterAll t l (Ok Commit.Done) = Agrees t l
AgreesAfterAll t l (Ok Commit.PowerLost) = Unit {0}
AgreesAfterAll t l (Err e) = Unit {0}
