-- What the plans of changes of maps answer and leave.
use Rattle.std.specs.Prelude.{◌≡◌, ◌≢◌, ◌≤◌, ◌<◌, ◌+◌, ◌-◌, ◌^◌, ◌==◌, nat_lt, ℕ, Bool, true, false, List, [], ◌∷◌, length, Option, None, Some, Result, Ok, Err}
use Rattle.std.specs.declared.alloc.AllocError.{AllocError}
use Rattle.k_plans.specs.layout_model.Places.{reserve}
use Rattle.k_plans.specs.image_model.Volume.{Volume, extents}
use Rattle.k_relink.specs.extent_model.declared.extent_words.Extent.{Extent}
use Rattle.k_plans.specs.k_journal.declared.batches.Record.{Record}
use Rattle.k_plans.specs.LandingsPlans.{NewChain}
use Rattle.k_plans.specs.Free.{free_blocks, is_free_block}
use Rattle.k_plans.specs.View.{TablesView}
pub use Rattle.k_plans.specs.MapPlans.{IsLiveFile, IsPlannedChange, IsPlannedMove, IsPlannedOne, IsStagingFile, listed, MayMove}
use Rattle.k_plans.specs.k_split_model.MapChangesChanges.{Fills, HasInOrder, given_up, holes, IsFilled, IsMoved, IsPreallocated, IsSized}
use Rattle.k_plans.specs.k_split_model.Taken.{AreLowest}
use Rattle.k_plans.specs.k_split_model.declared.map_changes.moves.Move.{Move}
use Rattle.k_relink.specs.extent_model.Maps.{IsPart}
use Rattle.k_relink.specs.extent_model.Moves.{Moves}
use Rattle.block_counts.specs.Counts.{blocks_for, chains_for}
use Rattle.k_map_plans.specs.declared.map_plans.faults.MapFault.{MapFault}
use Rattle.posix_types.specs.declared.item.Outcome.{Outcome}
use Rattle.posix_types.specs.declared.reply.Errno.{Errno}
use Rattle.posix_types.specs.declared.reply.Reply.{Reply}
use Rattle.posix_types.specs.declared.reply.Room.{Room}
use Rattle.posix_types.specs.declared.reply.What.{What}
use Rattle.k_plans.specs.posix_tables.Outcomes.{answer, first, idle_row, space_row}

-- a change that is not planned: nothing is changed, and no line is set
pub record IsNotPlanned (old new : TablesView) (b : List Record) : Type 0 where
  pub same : new ≡ old
  pub no_lines : b ≡ []

-- The change wants more blocks than are free; nothing is changed. Or there is no memory for it.
abbrev pub IsNotMade : (ℕ → Type 0) → TablesView → TablesView → List Record → MapFault → Type 0
IsNotMade wants old new b MapFault.Few = ((n : ℕ) × wants n × (free_blocks old < n)) × IsNotPlanned old new b
IsNotMade wants old new b MapFault.NoMemory = IsNotPlanned old new b

-- How many blocks a cut wants: where something is cut off, those of a chain for what is left of the map.
abbrev pub WantsToCut : ℕ → ℕ → Volume → ℕ → Type 0
WantsToCut ino size v n =
    (es : List Extent) × IsPart (λ b. nat_lt b (blocks_for size)) (extents v ino) es × (es ≢ extents v ino)
    × (n ≡ chains_for (length es))

-- a file gets a size
abbrev pub IsSizePlan : ℕ → ℕ → TablesView → TablesView → List Record → Result (Option NewChain) MapFault → Type 0
IsSizePlan ino size old new b (Ok o) = IsSized (is_free_block old) ino size old.volume new.volume × IsPlannedChange ino old new b o
IsSizePlan ino size old new b (Err fault) = IsNotMade (WantsToCut ino size old.volume) old new b fault

-- What stands against filling so many holes: nothing is to be done where there is none, and ENOSPC where fewer blocks are free
-- than they and the reserve less 2.
abbrev pub holes_row : ℕ → ℕ → ℕ → Option Outcome
holes_row missing kept free =
    first
    (idle_row (missing == 0) Reply.Ok
    ∷ space_row (nat_lt free (missing + kept - 2)) What.Blocks (missing + kept - 2) free
    ∷ [])

abbrev pub fill_row : ℕ → ℕ → ℕ → TablesView → Option Outcome
fill_row ino from count t = holes_row (length (holes (extents t.volume ino) from count)) (reserve t.volume.geometry) (free_blocks t)

-- whether there is a hole, or the room that lacks
abbrev pub row_of : Result Bool Room → Option Outcome
row_of (Ok true) = None
row_of (Ok false) = Some (answer Reply.Ok)
row_of (Err room) = Some (record { reply = Reply.Error Errno.ENOSPC; room = Some room })

-- The range of the file has a hole, and there is room for its holes and for the new chain.
pub record MayFill (ino from count : ℕ) (t : TablesView) : Type 0 where
  pub some : 0 < length (holes (extents t.volume ino) from count)
  pub room : length (holes (extents t.volume ino) from count) + reserve t.volume.geometry ≤ free_blocks t + 2

-- How many blocks filling wants: one a hole; and where so many are free, those of a chain for the new map besides.
pub data WantsToFill (ino from count : ℕ) (t : TablesView) (n : ℕ) : Type 0 where
  Holes : n ≡ length (holes (extents t.volume ino) from count) → WantsToFill ino from count t n
  Chain : (fresh : List ℕ) (es : List Extent) → AreLowest (is_free_block t) (length fresh) fresh
      → Fills from count fresh (extents t.volume ino) es → n ≡ length fresh + chains_for (length es)
      → WantsToFill ino from count t n

-- holes of a file get blocks: these are `fresh`, and the new map is c
pub record IsFillPlan (ino first count : ℕ) (old new : TablesView) (b : List Record) (fresh : List ℕ) (c : NewChain) : Type 0 where
  pub filled : IsFilled (is_free_block old) ino first count old.volume new.volume fresh
  pub one : IsPlannedOne ino old new b c

-- a staging file gives up its blocks
abbrev pub IsGiveUpPlan : ℕ → TablesView → TablesView → List Record → Result NewChain AllocError → Type 0
IsGiveUpPlan staging old new b (Ok c) = (new.volume ≡ given_up staging old.volume) × IsPlannedOne staging old new b c
IsGiveUpPlan staging old new b (Err e) = IsNotPlanned old new b

-- How many blocks a staging file wants: those that it is to have; and where so many are free, those of a chain besides.
pub data WantsToPreallocate (count : ℕ) (t : TablesView) (n : ℕ) : Type 0 where
  Blocks : n ≡ count → WantsToPreallocate count t n
  Chain : (fresh : List ℕ) (es : List Extent) → AreLowest (is_free_block t) count fresh → HasInOrder fresh es
      → n ≡ count + chains_for (length es) → WantsToPreallocate count t n

-- a staging file gets blocks
abbrev pub IsPreallocatePlan : ℕ → ℕ → TablesView → TablesView → List Record → Result NewChain MapFault → Type 0
IsPreallocatePlan staging count old new b (Ok c) =
    IsPreallocated (is_free_block old) staging count old.volume new.volume × IsPlannedOne staging old new b c
IsPreallocatePlan staging count old new b (Err fault) = IsNotMade (WantsToPreallocate count old) old new b fault

-- how many blocks a move wants: those of a chain for the file's map, and those of one for the staging file's
abbrev pub WantsToMove : Move → Volume → ℕ → Type 0
WantsToMove m v n =
    (left linked displaced : List Extent)
    × Moves m.staging_block m.file_block m.count (extents v m.staging) (extents v m.ino) left linked displaced
    × (n ≡ chains_for (length linked) + chains_for (length left))

-- blocks go from a staging file to a file
abbrev pub IsMovePlan : Move → TablesView → TablesView → List Record → Result (NewChain × NewChain) MapFault → Type 0
IsMovePlan m old new b (Ok c) =
    ((displaced : List Extent) × IsMoved (is_free_block old) m old.volume new.volume displaced) × IsPlannedMove m old new b c.0 c.1
IsMovePlan m old new b (Err fault) = IsNotMade (WantsToMove m old.volume) old new b fault
