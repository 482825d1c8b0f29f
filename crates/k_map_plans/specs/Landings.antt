-- What a landing of several runs asks for, and what its plan answers and leaves.
use Rattle.std.specs.Prelude.{◌≡◌, ◌≤◌, ◌+◌, ◌^◌, ◌==◌, ◌&&◌, ℕ, Bool, true, false, All, AllPairs, List, ◌++◌, length, sum_by}
use Rattle.std.specs.List.{flat_map}
use Rattle.block_counts.specs.Counts.{chains_for}
use Rattle.layout_model.specs.block_counts.declared.TheConstants.{LONGEST_FILE}
use Rattle.k_relink.specs.extent_model.declared.extent_words.Extent.{Extent}
use Rattle.k_relink.specs.extent_model.Extents.{is_within}
use Rattle.k_relink.specs.extent_model.Moves.{IsMapped}
use Rattle.k_plans.specs.image_model.Volume.{Volume, chain, extents}
use Rattle.k_plans.specs.k_journal.declared.batches.Record.{Record}
use Rattle.k_plans.specs.LandingsPlans.{NewChain, blocks_of}
use Rattle.k_plans.specs.Free.{SetsFreedAside, is_free_block}
use Rattle.k_plans.specs.Switching.{IsMapPlan}
use Rattle.k_plans.specs.View.{TablesView}
use Rattle.k_plans.specs.k_split_model.MapChangesChanges.{AreAllMoved, Landing, MovesAll, touched}
use Rattle.k_plans.specs.k_split_model.declared.map_changes.moves.MoveRun.{MoveRun}
use Rattle.k_map_plans.specs.Plans.{IsLiveFile, IsStagingFile}

-- whether the run takes block b of staging file x
abbrev pub takes : ℕ → ℕ → MoveRun → Bool
takes x b r = (r.staging == x) && is_within r.staging_block r.count b

-- two runs take no block of a staging file both
abbrev pub TakeApart : MoveRun → MoveRun → Type 0
TakeApart r other = (x b : ℕ) → takes x b r ≡ true → takes x b other ≡ false

-- A run of at least one block, whose blocks are in its staging file, to file blocks below 4,096.
pub record MayGo (v : Volume) (r : MoveRun) : Type 0 where
  pub staging : IsStagingFile r.staging v
  pub some : 1 ≤ r.count
  pub there : IsMapped (extents v r.staging) r.staging_block r.count
  pub place : r.file_block + r.count ≤ 4096

-- What a landing asks for: a live file, and runs that can go to it and take no block twice.
pub record MayLand (m : Landing) (v : Volume) : Type 0 where
  pub file : IsLiveFile m.ino v
  pub each : All (MayGo v) m.runs
  pub apart : AllPairs TakeApart m.runs
  pub size : m.size ≤ LONGEST_FILE
  pub applied : m.applied ≤ 2 ^ 63

-- How many blocks a landing wants: those of a chain for the file's map, and those of one for each staging file that its runs touch.
abbrev pub WantsToLand : Landing → Volume → ℕ → Type 0
WantsToLand m v n =
    (left : ℕ → List Extent) × (linked : List Extent) × (displaced : List Extent)
    × MovesAll m.runs (extents v) (extents v m.ino) left linked displaced
    × (n ≡ chains_for (length linked) + sum_by (λ x. chains_for (length (left x))) (touched m.runs))

-- A landing is planned, with the new maps of the file and of the staging files that its runs touch, by rising number.
pub record IsLandingPlan (m : Landing) (old new : TablesView) (b : List Record) (news : List NewChain) : Type 0 where
  pub moved : (displaced : List Extent) × AreAllMoved (is_free_block old) m old.volume new.volume displaced
  pub plan : IsMapPlan news old.volume new.volume b
  pub chains_are : blocks_of news ≡ chain new.volume m.ino ++ flat_map (chain new.volume) (touched m.runs)
  pub aside : SetsFreedAside old new
  pub waiting : new.waiting ≡ old.waiting
