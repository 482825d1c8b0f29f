-- What `reserve` answers: a run by the first of two ways, or why there is none.
use Rattle.std.specs.Prelude.{◌≡◌, ◌⊎◌, ◌≤◌, ◌<◌, ◌+◌, ◌-◌, ◌/◌, ◌==◌, ℕ, Bool, true, false, [], ◌∷◌, ◌++◌, length, slice_set, min, max, if◌then◌else◌, Result, Ok, Err}
use Rattle.std.specs.List.{list_any}
use Rattle.k_split.specs.pm_model.Powers.{is_on, Supply}
use Rattle.k_split.specs.layout_model.Places.{reserve}
use Rattle.k_split.specs.image_model.Volume.{inode}
use Rattle.k_split.specs.k_split_model.View.{View}
use Rattle.k_split.specs.Answers.{IsSpared}
use Rattle.k_split.specs.MapChanges.{free_blocks_in, IsPreallocateAnswer}
use Rattle.k_split.specs.declared.faults.KFault.{KFault}
use Rattle.staging_files.specs.declared.runs.StageRun.{StageRun}
use Rattle.staging_files.specs.declared.runs.StageFault.{StageFault}
use Rattle.staging_files.specs.Keeps.{Agrees, is_kept_free, IsKeptEmpty, IsStaging, Staged}

-- How many blocks have to be free beside those of a new run, for the runs that are out: one for each, and the reserve less 2.
abbrev pub wanted : Staged → View → ℕ
wanted s k = length s.out + reserve k.volume.geometry - 2

-- ---- the first way: blocks that are kept as free

-- `count` blocks of the staging file from b on are kept as free
abbrev pub IsFreeRun : Staged → ℕ → ℕ → ℕ → Type 0
IsFreeRun s count x b = (i : ℕ) → b ≤ i → i < b + count → is_kept_free s x i ≡ true

-- no staging file has such blocks
abbrev pub HasNoFreeRun : Staged → ℕ → Type 0
HasNoFreeRun s count = (x b : ℕ) → IsStaging x → ¬ IsFreeRun s count x b

-- the lowest such blocks of the lowest such staging file
pub record IsLowestRun (s : Staged) (count x b : ℕ) : Type 0 where
  pub staging : IsStaging x
  pub here : IsFreeRun s count x b
  pub lowest : (c : ℕ) → c < b → ¬ IsFreeRun s count x c
  pub lowest_file : (y c : ℕ) → IsStaging y → y < x → ¬ IsFreeRun s count y c

-- THE FIRST WAY: enough blocks are free for the runs that are out, and the run is at the lowest place.
pub record IsFirstWay (s : Staged) (k : View) (count x b : ℕ) : Type 0 where
  pub room : wanted s k ≤ free_blocks_in k
  pub place : IsLowestRun s count x b

abbrev pub LacksFirstWay : Staged → View → ℕ → Type 0
LacksFirstWay s k count = (free_blocks_in k < wanted s k) ⊎ HasNoFreeRun s count

-- ---- the second way: a staging file that is kept as empty

-- whether one is
abbrev pub has_empty : Staged → Bool
has_empty s = list_any (λ n. n == 0) s.given

-- the lowest one
pub record IsLowestEmpty (s : Staged) (x : ℕ) : Type 0 where
  pub staging : IsStaging x
  pub empty : IsKeptEmpty s x
  pub lowest : (y : ℕ) → IsStaging y → y < x → ¬ IsKeptEmpty s y

-- how many blocks have to be free for a run of `count`
abbrev pub need : Staged → View → ℕ → ℕ
need s k count = count + wanted s k + 1

-- how many blocks the staging file is given: the run's, or half of those that nothing wants if they are more, but at most 64
abbrev pub share : Staged → View → ℕ → ℕ
share s k count = min 64 (max count ((free_blocks_in k - (wanted s k + 1)) / 2))

-- THE SECOND WAY: there is no first way, enough blocks are free, and the lowest empty staging file is given its share.
pub record IsSecondWay (s : Staged) (k : View) (count x : ℕ) : Type 0 where
  pub no_first : LacksFirstWay s k count
  pub room : need s k count ≤ free_blocks_in k
  pub place : IsLowestEmpty s x

abbrev pub LacksSecondWay : Staged → View → ℕ → Type 0
LacksSecondWay s k count = (free_blocks_in k < need s k count) ⊎ (has_empty s ≡ false)

-- ---- the answers

-- The run of `count` blocks of the staging file from b on, with the generation that the staging file has in K-Split's volume.
abbrev pub run_at : View → ℕ → ℕ → ℕ → StageRun
run_at k count x b = record { staging = x; block = b; count = count; generation = (inode k.volume x).generation }

abbrev pub with_out : StageRun → Staged → Staged
with_out run s = record s { out = s.out ++ run ∷ [] }

abbrev pub with_given : ℕ → ℕ → Staged → Staged
with_given x n s = record s { given = slice_set s.given (x - 1) n }

-- a run by the first way: nothing changes but that it is out
pub record IsTaken (count : ℕ) (s t : Staged) (k l : View) (run : StageRun) : Type 0 where
  pub way : IsFirstWay s k count run.staging run.block
  pub run_is : run ≡ run_at l count run.staging run.block
  pub staged : t ≡ with_out run s
  pub same : l ≡ k

-- a run by the second way: K-Split gave the staging file its blocks, and the run is the first of them
pub record IsGiven (count : ℕ) (s t : Staged) (k l : View) (run : StageRun) : Type 0 where
  pub way : IsSecondWay s k count run.staging
  pub given : IsPreallocateAnswer run.staging (share s k count) k l (Ok tt)
  pub run_is : run ≡ run_at l count run.staging 0
  pub staged : t ≡ with_out run (with_given run.staging (share s k count) s)

-- neither can be done: so many blocks are needed, and so many there are, or none where no staging file is empty
pub record IsLacking (count : ℕ) (s : Staged) (k : View) (needs has : ℕ) : Type 0 where
  pub no_first : LacksFirstWay s k count
  pub no_second : LacksSecondWay s k count
  pub need_is : needs ≡ need s k count
  pub room_is : has ≡ (if has_empty s then free_blocks_in k else 0)

-- both are as they were
pub record AreSame (s t : Staged) (k l : View) : Type 0 where
  pub staging : t ≡ s
  pub volume : l ≡ k

-- the power went while K-Split gave a staging file its blocks
pub record IsCutOff (count : ℕ) (s t : Staged) (k l : View) : Type 0 where
  pub staging : ℕ
  pub way : IsSecondWay s k count staging
  pub given : IsPreallocateAnswer staging (share s k count) k l (Err KFault.PowerLost)
  pub same : t ≡ s

-- WHAT `reserve` ANSWERS AND LEAVES, from s and k to t and l: a run by the first way that can be gone; or nothing changes,
-- where there is no way, or no memory, or the power was off at the call; or the power went on the second way. No content
-- changes: each image reads as before, or with the blocks that K-Split gave the staging file.
abbrev pub IsReserveAnswer : ℕ → Staged → View → Staged → View → Result StageRun StageFault → Type 0
IsReserveAnswer count s k t l (Ok run) = IsTaken count s t k l run ⊎ IsGiven count s t k l run
IsReserveAnswer count s k t l (Err (StageFault.NoRoom needs has)) = IsLacking count s k needs has × AreSame s t k l
IsReserveAnswer count s k t l (Err StageFault.PowerLost) = AreSame s t k l ⊎ IsCutOff count s t k l
IsReserveAnswer count s k t l (Err StageFault.NoMemory) = AreSame s t k l

-- why there is no run, where K-Split did not give the staging file its blocks
abbrev pub fault_of : KFault → StageFault
fault_of (KFault.Refused errno) = StageFault.NoMemory
fault_of (KFault.Room room) = StageFault.NoMemory
fault_of KFault.PowerLost = StageFault.PowerLost
fault_of KFault.NoMemory = StageFault.NoMemory

-- what the second way answers and leaves, once its staging file is found
abbrev pub IsGiveAnswer : ℕ → ℕ → ℕ → Staged → View → Staged → View → Result StageRun StageFault → Type 0
IsGiveAnswer x count n s k t l (Ok run) =
    IsPreallocateAnswer x n k l (Ok tt) × (run ≡ run_at l count x 0) × (t ≡ with_out run (with_given x n s))
IsGiveAnswer x count n s k t l (Err (StageFault.NoRoom needs has)) = ⊥
IsGiveAnswer x count n s k t l (Err StageFault.PowerLost) = (t ≡ s) × IsPreallocateAnswer x n k l (Err KFault.PowerLost)
IsGiveAnswer x count n s k t l (Err StageFault.NoMemory) = AreSame s t k l

-- what it takes of the power: all that is left exactly where it answers `PowerLost`; nothing where it is refused
abbrev pub IsReservePaid : Supply → Supply → Result StageRun StageFault → Type 0
IsReservePaid old new (Ok run) = is_on new ≡ true
IsReservePaid old new (Err (StageFault.NoRoom needs has)) = IsSpared old new
IsReservePaid old new (Err StageFault.PowerLost) = is_on new ≡ false
IsReservePaid old new (Err StageFault.NoMemory) = IsSpared old new

-- the agreement holds after a run and after no room
abbrev pub AgreesAfter : Staged → View → Result StageRun StageFault → Type 0
AgreesAfter t l (Ok run) = Agrees t l
AgreesAfter t l (Err (StageFault.NoRoom needs has)) = Agrees t l
AgreesAfter t l (Err StageFault.PowerLost) = Unit {0}
AgreesAfter t l (Err StageFault.NoMemory) = Unit {0}
