-- What a change of maps answers and leaves.
use Rattle.std.specs.Prelude.{◌≡◌, ◌⊎◌, ◌<◌, ◌&&◌, ◌/◌, not, ℕ, Bool, true, false, List, [], ◌++◌, length, Some, Result, Ok, Err}
use Rattle.block_io.specs.pm_model.declared.Cell.{Cell}
use Rattle.block_io.specs.pm_model.Cells.{cell, is_single, Settles}
use Rattle.block_io.specs.pm_model.Frames.{SameLent, KeepsSingle}
use Rattle.block_io.specs.pm_model.Images.{Follows}
use Rattle.block_io.specs.pm_model.Powers.{is_on, Supply}
use Rattle.k_map_plans.specs.block_pool.FreeSets.{is_among}
use Rattle.block_io.specs.layout_model.Journal.{is_journal_word}
use Rattle.block_io.specs.layout_model.Places.{is_journaled_line}
use Rattle.block_io.specs.image_model.Placed.{AreSingle, IsOutside}
use Rattle.block_io.specs.image_model.Volume.{Volume, chain, extents}
use Rattle.block_io.specs.extent_model.Extents.{covers, disk_at, is_within}
use Rattle.block_io.specs.extent_model.declared.extent_words.Extent.{Extent}
use Rattle.k_map_plans.specs.k_journal.Commits.{TakesAStep}
use Rattle.k_map_plans.specs.k_journal.declared.batches.Record.{Record}
use Rattle.k_map_plans.specs.k_plans.LandingsPlans.{NewChain, new_at}
use Rattle.k_map_plans.specs.k_plans.Free.{free_blocks}
use Rattle.k_map_plans.specs.k_plans.Switching.{IsMapPlan}
use Rattle.k_map_plans.specs.k_plans.Whole.{IsWhole}
use Rattle.k_tables.specs.k_split_model.Stands.{IsOldOrNew, Stands}
use Rattle.k_tables.specs.k_split_model.View.{View}
use Rattle.block_io.specs.k_split_model.MapChangesChanges.{given_up, IsMoved, IsPreallocated, IsSized, WritesChain}
use Rattle.block_io.specs.k_split_model.declared.map_changes.moves.Move.{Move}
use Rattle.k_map_plans.specs.volume_laws.Uses.{is_unused}
use Rattle.k_split.specs.declared.faults.KFault.{KFault}
use Rattle.k_split.specs.Answers.{IsOff}
use Rattle.k_split.specs.Order.{IsInOrder}

-- a data block that nothing in the volume names, and that does not wait; and how many there are
abbrev pub is_free_in : View → ℕ → Bool
is_free_in k b = is_unused k.volume b && not (is_among k.waiting b)

abbrev pub free_blocks_in : View → ℕ
free_blocks_in k = free_blocks (record { volume = k.volume; aside = []; waiting = k.waiting })

-- What a change from v to w that writes blocks makes of the device, done or cut off: the same words are lent; each image reads
-- as v or as w and else is an image before, but for words of the blocks; and words outside the journal, the journaled lines
-- and the blocks settle.
pub record ChangesMaps (blocks : List ℕ) (v w : Volume) (old new : List Cell) : Type 0 where
  pub size : length new ≡ length old
  pub lent : SameLent old new
  pub each_image : Follows (IsOldOrNew v.geometry blocks v w) old new
  pub others : (i : ℕ) → is_journal_word i ≡ false → is_journaled_line v.geometry (i / 8) ≡ false → IsOutside blocks i
      → Settles (cell old i) (cell new i)

-- A change is done that wrote blocks: all is in order at the new volume.
pub record IsMapDone (blocks : List ℕ) (old new : View) : Type 0 where
  pub kept_on : new.lost ≡ false
  pub batched : new.batched ≡ old.batched
  pub order : IsInOrder new
  pub changes : ChangesMaps blocks old.committed new.volume old.cells new.cells
  pub singles : KeepsSingle old.cells new.cells

-- The power went in a change to w, which keeps the rules, that wrote blocks.
pub record IsMapCut (blocks : List ℕ) (w : Volume) (old new : View) : Type 0 where
  pub lost : new.lost ≡ true
  pub batched : new.batched ≡ old.batched
  pub whole : IsWhole w
  pub changes : ChangesMaps blocks old.committed w old.cells new.cells

-- What a change of maps answers and leaves: done, where Makes says what it makes of the volume and which blocks it writes, no
-- one of which is named before; nothing, where memory runs out; or cut off by the power. It is never refused.
abbrev pub IsMapAnswer : (Volume → List ℕ → Type 0) → View → View → Result (Unit {0}) KFault → Type 0
IsMapAnswer Makes old new (Ok done) = (blocks : List ℕ) × Makes new.volume blocks × IsMapDone blocks old new
IsMapAnswer Makes old new (Err (KFault.Refused errno)) = ⊥
IsMapAnswer Makes old new (Err (KFault.Room room)) = ⊥
IsMapAnswer Makes old new (Err KFault.NoMemory) = new ≡ old
IsMapAnswer Makes old new (Err KFault.PowerLost) =
    IsOff old new ⊎ ((w : Volume) × (blocks : List ℕ) × Makes w blocks × IsMapCut blocks w old new)

-- a file gets a size: the blocks of its new chain are written, where its map changes
pub record IsSizedWith (ino size : ℕ) (old : View) (w : Volume) (blocks : List ℕ) : Type 0 where
  pub sized : IsSized (is_free_in old) ino size old.volume w
  pub written : WritesChain ino old.volume w blocks

abbrev pub IsSizeAnswer : ℕ → ℕ → View → View → Result (Unit {0}) KFault → Type 0
IsSizeAnswer ino size old new result = IsMapAnswer (IsSizedWith ino size old) old new result

-- a staging file gives up its blocks: no block is written
pub record IsGivenUpWith (staging : ℕ) (old : View) (w : Volume) (blocks : List ℕ) : Type 0 where
  pub given : w ≡ given_up staging old.volume
  pub written : blocks ≡ []

abbrev pub IsGiveUpAnswer : ℕ → View → View → Result (Unit {0}) KFault → Type 0
IsGiveUpAnswer staging old new result = IsMapAnswer (IsGivenUpWith staging old) old new result

-- a staging file gets blocks: those of its new chain are written
pub record IsPreallocatedWith (staging count : ℕ) (old : View) (w : Volume) (blocks : List ℕ) : Type 0 where
  pub preallocated : IsPreallocated (is_free_in old) staging count old.volume w
  pub written : blocks ≡ chain w staging

abbrev pub IsPreallocateAnswer : ℕ → ℕ → View → View → Result (Unit {0}) KFault → Type 0
IsPreallocateAnswer staging count old new result = IsMapAnswer (IsPreallocatedWith staging count old) old new result

-- each word of the blocks of a staging file has one candidate, so that none is lent
abbrev pub IsStagedSingle : ℕ → Volume → List Cell → Type 0
IsStagedSingle staging v d = (i : ℕ) → covers (extents v staging) (i / 512) ≡ true → is_single (cell d i) ≡ true

-- blocks go from a staging file to a file: the blocks of their new chains are written
pub record IsMovedWith (m : Move) (old : View) (w : Volume) (blocks : List ℕ) : Type 0 where
  pub displaced : List Extent
  pub moved : IsMoved (is_free_in old) m old.volume w displaced
  pub written : blocks ≡ chain w m.ino ++ chain w m.staging

abbrev pub IsRelinkAnswer : Move → View → View → Result (Unit {0}) KFault → Type 0
IsRelinkAnswer m old new result = IsMapAnswer (IsMovedWith m old) old new result

-- each word of the blocks that move has one candidate, so that none is lent
abbrev pub IsMovedSingle : Move → Volume → List Cell → Type 0
IsMovedSingle m v d =
    (b i : ℕ) → is_within m.staging_block m.count b ≡ true → disk_at (extents v m.staging) b ≡ Some (i / 512) → is_single (cell d i) ≡ true

-- ---- a plan with new maps, and what its landing leaves

-- the plan is one for the volume of the device, and words of the new blocks have one candidate
pub record IsMapPlanned (news : List NewChain) (v w : Volume) (b : List Record) (d : List Cell) : Type 0 where
  pub stands : Stands v.geometry v d
  pub plan : IsMapPlan news v w b
  pub single : (k : ℕ) → k < length news → AreSingle (new_at news k).blocks d

-- done, with these blocks written: the device stands at w
pub record IsMapLandedDone (blocks : List ℕ) (v w : Volume) (old new : List Cell) (before after : Supply) : Type 0 where
  pub changes : ChangesMaps blocks v w old new
  pub stands : Stands w.geometry w new
  pub singles : KeepsSingle old new
  pub on : is_on after ≡ true
  pub took : TakesAStep before after

-- or the power went
pub record IsMapLandedLost (blocks : List ℕ) (v w : Volume) (old new : List Cell) (after : Supply) : Type 0 where
  pub changes : ChangesMaps blocks v w old new
  pub off : is_on after ≡ false

abbrev pub IsMapLanded : List ℕ → Volume → Volume → List Cell → List Cell → Supply → Supply → Result (Unit {0}) KFault → Type 0
IsMapLanded blocks v w old new before after (Ok done) = IsMapLandedDone blocks v w old new before after
IsMapLanded blocks v w old new before after (Err KFault.PowerLost) = IsMapLandedLost blocks v w old new after
IsMapLanded blocks v w old new before after (Err (KFault.Refused errno)) = ⊥
IsMapLanded blocks v w old new before after (Err (KFault.Room room)) = ⊥
IsMapLanded blocks v w old new before after (Err KFault.NoMemory) = ⊥
