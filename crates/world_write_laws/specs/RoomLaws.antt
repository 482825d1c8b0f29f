-- The arithmetic of free blocks, each fact as one statement. Free are the data blocks that nothing names (`unused_blocks`). With p
-- entries live or jobs in flight at least `reserve - 3 + p` are free (`HasFreeBlocks`).
use Rattle.std.specs.Prelude.{◌≡◌, ◌≢◌, ◌<◌, ◌≤◌, ◌+◌, ◌-◌, ◌/◌, ℕ, All, true, List, [], ◌∷◌, ◌++◌, length, max, min}
use Rattle.world_step_laws.specs.world_model.layout_model.Places.{is_data_block, reserve}
use Rattle.world_step_laws.specs.world_model.extent_model.declared.extent_words.Extent.{Extent}
use Rattle.world_step_laws.specs.world_model.layout_model.declared.lines.Draft.{Draft}
use Rattle.world_step_laws.specs.world_model.image_model.Live.{is_live}
use Rattle.world_step_laws.specs.world_model.image_model.Room.{unused_blocks}
use Rattle.world_step_laws.specs.world_model.image_model.Uses.{owners}
use Rattle.world_step_laws.specs.world_model.image_model.Volume.{chain, Volume}
use Rattle.world_step_laws.specs.k_split_model.ChangesChanges.{dropped}
use Rattle.world_step_laws.specs.world_model.Jobs.{Job, live_claims}
use Rattle.world_step_laws.specs.world_model.Stands.{IsSane}
use Rattle.world_step_laws.specs.world_model.Rules.{HasFreeBlocks}
use Rattle.world_write_laws.specs.Relinks.{Relinks}

-- ---- the transitions keep it

-- a volume in which no fewer blocks are free, and no more entries are live
abbrev pub StaysFree : Type 0
StaysFree =
    (v w : Volume) (claims : List (ℕ × Draft)) (jobs : List Job) → HasFreeBlocks v claims jobs → w.geometry ≡ v.geometry
    → unused_blocks v ≤ unused_blocks w → length (live_claims w claims) ≤ length (live_claims v claims)
    → HasFreeBlocks w claims jobs

-- a change of names leaves who uses a block, and so as many are free
abbrev pub FreesAsMany : Type 0
FreesAsMany =
    (v w : Volume) → w.geometry ≡ v.geometry → ((b : ℕ) → owners w b ≡ owners v b) → unused_blocks w ≡ unused_blocks v

-- no more entries are live where those that are live afterwards were live before
abbrev pub LivesNoMore : Type 0
LivesNoMore =
    (v w : Volume) (claims : List (ℕ × Draft)) → ((d : Draft) → is_live w d ≡ true → is_live v d ≡ true)
    → length (live_claims w claims) ≤ length (live_claims v claims)

-- a job begins where one block more is free than all those in flight want
abbrev pub StaysFreeBegun : Type 0
StaysFreeBegun =
    (v : Volume) (claims : List (ℕ × Draft)) (jobs : List Job) (j : Job)
    → length (live_claims v claims) + length jobs + reserve v.geometry ≤ unused_blocks v + 2
    → HasFreeBlocks v claims (jobs ++ j ∷ [])

-- a job that finishes is an entry that is live; one that is given up is none
abbrev pub StaysFreeFinished : Type 0
StaysFreeFinished =
    (v : Volume) (claims : List (ℕ × Draft)) (a : List Job) (j : Job) (b : List Job) (slot : ℕ)
    → HasFreeBlocks v claims (a ++ j ∷ b) → is_live v j.draft ≡ true
    → HasFreeBlocks v (claims ++ (slot, j.draft) ∷ []) (a ++ b)

abbrev pub StaysFreeGivenUp : Type 0
StaysFreeGivenUp =
    (v : Volume) (claims : List (ℕ × Draft)) (a : List Job) (j : Job) (b : List Job)
    → HasFreeBlocks v claims (a ++ j ∷ b) → HasFreeBlocks v claims (a ++ b)

-- ---- runs

-- what the chains of the two inodes of a relink may do: that of the file grows by one block at most, that of the staging file
-- does not grow, and no other changes
pub record GrowsLittle (v w : Volume) (d : Draft) : Type 0 where
  pub file : length (chain w d.ino) ≤ length (chain v d.ino) + 1
  pub staging : length (chain w d.staging) ≤ length (chain v d.staging)
  pub others : (ino : ℕ) → ino ≢ d.ino → ino ≢ d.staging → chain w ino ≡ chain v ino
  pub before : (ino : ℕ) → ino < length v.inodes → All (λ b. is_data_block v.geometry b ≡ true) (chain v ino)
  pub after : (ino : ℕ) → ino < length w.inodes → All (λ b. is_data_block w.geometry b ≡ true) (chain w ino)

-- a relink takes one free block at most
abbrev pub TakesOneAtMost : Type 0
TakesOneAtMost =
    (v w : Volume) (d : Draft) (displaced : List Extent) → IsSane v → Relinks v w d displaced → GrowsLittle v w d
    → d.ino < length v.inodes → d.staging < length v.inodes → d.ino ≢ d.staging
    → unused_blocks v ≤ unused_blocks w + 1

-- it finds its `reserve - 2`, and leaves what the others want
abbrev pub FindsItsBlocks : Type 0
FindsItsBlocks =
    (v : Volume) (claims : List (ℕ × Draft)) (jobs : List Job) (d : Draft) (rest : List Draft)
    → HasFreeBlocks v claims jobs → live_claims v claims ≡ d ∷ rest → reserve v.geometry ≤ unused_blocks v + 2

abbrev pub StaysFreeRelinked : Type 0
StaysFreeRelinked =
    (v w : Volume) (claims : List (ℕ × Draft)) (jobs : List Job) → HasFreeBlocks v claims jobs → w.geometry ≡ v.geometry
    → unused_blocks v ≤ unused_blocks w + 1 → length (live_claims w claims) + 1 ≤ length (live_claims v claims)
    → HasFreeBlocks w claims jobs

-- A gathering: step by step so many blocks are free, each step taking one at most. Where at the beginning as many are free as
-- all steps want, each finds its own.
abbrev pub FindsEach : Type 0
FindsEach =
    (free : ℕ → ℕ) (steps wanted : ℕ) → ((k : ℕ) → k < steps → free k ≤ free (k + 1) + 1)
    → steps + wanted ≤ free 0 + 3 → (k : ℕ) → k < steps → wanted ≤ free k + 2

-- a file without a name that goes frees its blocks
abbrev pub FreesDropped : Type 0
FreesDropped =
    (v : Volume) (ino : ℕ) → IsSane v → IsSane (dropped ino v) → ino < length v.inodes
    → ((i : ℕ) → i < length v.inodes → All (λ b. is_data_block v.geometry b ≡ true) (chain v i))
    → unused_blocks v ≤ unused_blocks (dropped ino v)

-- ---- the staging

-- Preallocation. With `owed` runs out, so many blocks `free` and a run of `count`: the spare ones are those above
-- `owed + reserve - 1`, and the larger of the run and of half the spare, but at most 64, and one chain block are taken. So many
-- are free, and then `owed + reserve - 2` still: what one run more wants.
abbrev pub LeavesForTheNext : Type 0
LeavesForTheNext =
    (owed kept free count : ℕ) → 1 ≤ kept → count + owed + kept ≤ free + 1
    → owed + kept + min 64 (max count ((free - (owed + kept - 1)) / 2)) + 1 ≤ free + 2
