-- What the filling of holes of a file answers and leaves.
use Rattle.std.specs.Prelude.{◌≡◌, ◌≢◌, ◌⊎◌, ◌<◌, ℕ, Bool, true, false, All, List, ◌++◌, length, Option, None, Some, Result, Ok, Err}
use Rattle.block_io.specs.pm_model.declared.Cell.{Cell}
use Rattle.block_io.specs.pm_model.Images.{IsImage}
use Rattle.block_io.specs.pm_model.Powers.{is_on, Supply}
use Rattle.block_io.specs.pm_model.Words.{Words}
use Rattle.k_group_commit.specs.Joins.{Fits, Goes, IsBlocksCut}
use Rattle.block_io.specs.image_model.Placed.{AreDistinct, AreSingle, block_at}
use Rattle.block_io.specs.image_model.Volume.{Volume, chain, extents}
use Rattle.k_map_plans.specs.k_journal.declared.batches.Record.{Record}
use Rattle.k_map_plans.specs.k_journal.declared.outcomes.Commit.{Commit}
use Rattle.k_map_plans.specs.k_plans.Free.{is_free_block}
use Rattle.k_map_plans.specs.k_plans.Maps.{AreApart}
use Rattle.k_map_plans.specs.k_plans.LandingsPlans.{NewChain, blocks_of}
use Rattle.k_map_plans.specs.k_plans.View.{TablesView}
use Rattle.k_map_plans.specs.Plans.{holes_row}
use Rattle.block_io.specs.layout_model.Places.{reserve}
use Rattle.k_tables.specs.k_split_model.View.{View}
use Rattle.block_io.specs.k_split_model.MapChangesChanges.{holes, IsFilled}
use Rattle.block_io.specs.k_split_model.Zeros.{AreZeros, ReadZeros}
use Rattle.posix_types.specs.declared.item.Outcome.{Outcome}
use Rattle.posix_types.specs.declared.reply.Errno.{Errno}
use Rattle.posix_types.specs.declared.reply.Reply.{Reply}
use Rattle.posix_tables.specs.Outcomes.{answer}
use Rattle.k_map_plans.specs.volume_laws.Uses.{is_unused}
use Rattle.k_split.specs.declared.faults.KFault.{KFault}
use Rattle.k_split.specs.Answers.{IsOff}
use Rattle.k_split.specs.MapChanges.{free_blocks_in, is_free_in, IsMapAnswer, IsMapCut, IsMapLanded, IsMapPlanned}
use Rattle.k_split.specs.MapLanded.{IsJoinedWith, IsMapPlanOn}

-- how many holes the range of the file has
abbrev pub hole_count : ℕ → ℕ → ℕ → View → ℕ
hole_count ino from count k = length (holes (extents k.volume ino) from count)

-- what stands against filling them
abbrev pub fill_row : ℕ → ℕ → ℕ → View → Option Outcome
fill_row ino from count k = holes_row (hole_count ino from count k) (reserve k.volume.geometry) (free_blocks_in k)

-- Holes of a file get blocks: these and those of the new chain are written, and in each image of the device d in which the file
-- has them they read zeros.
pub record IsFilledWith (ino from count : ℕ) (old : View) (d : List Cell) (w : Volume) (blocks : List ℕ) : Type 0 where
  pub fresh : List ℕ
  pub filled : IsFilled (is_free_in old) ino from count old.volume w fresh
  pub written : blocks ≡ fresh ++ chain w ino
  pub zeros : ReadZeros old.volume.geometry w fresh d

-- So they do where changes gather, and the blocks read zeros in each image of d, whichever volume it reads as.
pub record IsFilledInBatch (ino from count : ℕ) (old : View) (d : List Cell) (w : Volume) (blocks : List ℕ) : Type 0 where
  pub fresh : List ℕ
  pub filled : IsFilled (is_free_in old) ino from count old.volume w fresh
  pub written : blocks ≡ fresh ++ chain w ino
  pub zeros : (image : Words) → IsImage d image → AreZeros fresh image

-- there is no hole, and nothing is done
pub record IsFull (row : Option Outcome) (old new : View) : Type 0 where
  pub full : row ≡ Some (answer Reply.Ok)
  pub same : new ≡ old

abbrev pub IsFillAnswer : ℕ → ℕ → ℕ → View → View → Result (Unit {0}) KFault → Type 0
IsFillAnswer ino from count old new (Ok done) =
    IsFull (fill_row ino from count old) old new
    ⊎ ((fill_row ino from count old ≡ None) × IsMapAnswer (IsFilledWith ino from count old new.cells) old new (Ok done))
IsFillAnswer ino from count old new (Err (KFault.Refused errno)) = ⊥
IsFillAnswer ino from count old new (Err (KFault.Room room)) =
    (fill_row ino from count old ≡ Some (record { reply = Reply.Error Errno.ENOSPC; room = Some room })) × (new ≡ old)
IsFillAnswer ino from count old new (Err KFault.NoMemory) = (fill_row ino from count old ≡ None) × (new ≡ old)
IsFillAnswer ino from count old new (Err KFault.PowerLost) =
    IsOff old new
    ⊎ ((fill_row ino from count old ≡ None)
    × ((w : Volume) × (blocks : List ℕ) × IsFilledWith ino from count old new.cells w blocks × IsMapCut blocks w old new))

-- ---- a plan that fills holes, and what its landing leaves

-- The plan is one for the volume of the device, which it changes. The blocks that are zeroed before are unused, and none is one
-- of the new chains'; words of them have one candidate.
pub record IsFillPlanned (fresh : List ℕ) (news : List NewChain) (v w : Volume) (b : List Record) (d : List Cell) : Type 0 where
  pub planned : IsMapPlanned news v w b d
  pub changed : w ≢ v
  pub unused : All (λ t. is_unused v t ≡ true) fresh
  pub distinct : AreDistinct fresh
  pub apart : AreApart fresh (blocks_of news)
  pub single : AreSingle fresh d

-- It is landed, or cut off; and the blocks read zeros where they are mapped.
pub record IsFillLanded (fresh : List ℕ) (news : List NewChain) (v w : Volume) (old new : List Cell) (before after : Supply)
    (result : Result (Unit {0}) KFault) : Type 0 where
  pub landed : IsMapLanded (fresh ++ blocks_of news) v w old new before after result
  pub zeros : ReadZeros v.geometry w fresh new

-- A change with these new maps was planned, from the tables t to the tables p, that takes the free blocks of the list. None is one of the
-- new chains'; and a volume in which the first is unused is not the new one.
pub record IsFillPlanOn (fresh : List ℕ) (t p : TablesView) (maps : List NewChain) (group b : List Record) (d : List Cell) (batched : Bool) : Type 0 where
  pub planned : IsMapPlanOn t p maps group b d batched
  pub free : All (λ k. is_free_block t k ≡ true) fresh
  pub distinct : AreDistinct fresh
  pub apart : AreApart fresh (blocks_of maps)
  pub taken : (x : Volume) → ((k : ℕ) → k < length fresh → is_unused x (block_at fresh k) ≡ true) → p.volume ≢ x

-- The power went while blocks were zeroed, or in a commit of the group after it.
abbrev pub IsZeroedCut : List ℕ → Volume → TablesView → List Record → List Record → List Cell → List Cell → Type 0
IsZeroedCut fresh u t a b d e = Goes fresh u u d e ⊎ ((Fits a b → ⊥) × Goes fresh u t.volume d e)

-- Where changes gather it joined the group; or the power went so, or while maps were written. Once they are zeroed, the blocks read
-- zeros in each image.
abbrev pub IsFillJoin : List ℕ → List NewChain → Volume → TablesView → TablesView → TablesView → List Record → List Record → List Record
    → List Cell → List Cell → Supply → Result (Unit {0}) KFault → Type 0
IsFillJoin fresh maps u t p h a b c d e after (Ok done) =
    IsJoinedWith (fresh ++ blocks_of maps) u t p h a b c d e Commit.Done × ((image : Words) → IsImage e image → AreZeros fresh image) × (is_on after ≡ true)
IsFillJoin fresh maps u t p h a b c d e after (Err KFault.PowerLost) =
    (IsZeroedCut fresh u t a b d e
    ⊎ (IsBlocksCut (fresh ++ blocks_of maps) u t a b d e × ((image : Words) → IsImage e image → AreZeros fresh image)))
    × (is_on after ≡ false)
IsFillJoin fresh maps u t p h a b c d e after (Err (KFault.Refused errno)) = ⊥
IsFillJoin fresh maps u t p h a b c d e after (Err (KFault.Room room)) = ⊥
IsFillJoin fresh maps u t p h a b c d e after (Err KFault.NoMemory) = ⊥
