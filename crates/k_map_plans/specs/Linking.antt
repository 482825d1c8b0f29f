-- Runs of blocks that go from the maps of the staging files into the map of a file, in memory.
use Rattle.std.specs.Prelude.{◌≡◌, ℕ, ◌+◌, ◌-◌, ◌≤◌, ◌==◌, All, false, List, [], ◌++◌, length, sum_by, slice_index_or, slice_set}
use Rattle.std.specs.List.{list_any, range_with_len}
use Rattle.k_relink.specs.extent_model.declared.extent_words.Extent.{Extent}
use Rattle.k_relink.specs.extent_model.Extents.{IsCanonical, IsExtent}
use Rattle.k_relink.specs.extent_model.Moves.{Moves}
use Rattle.k_plans.specs.image_model.Volume.{Volume, extents}
use Rattle.k_plans.specs.k_split_model.MapChangesChanges.{MovesAll}
use Rattle.k_plans.specs.k_split_model.declared.map_changes.moves.MoveRun.{MoveRun}
use Rattle.k_plans.specs.volume_change_laws.Hits.{AreAt}
use Rattle.k_plans.specs.volume_change_laws.Shorts.{AreBelow}
use Rattle.k_plans.specs.volume_laws.Uses.{in_chain, in_map}

-- what a staging file has left, and the blocks that went from it
pub record Left : Type 0 where
  pub map : List Extent
  pub went : List ℕ

abbrev pub no_left : Left
no_left = record { map = []; went = [] }

-- that of staging file x; the first of the list is that of staging file 1
abbrev pub left_at : List Left → ℕ → Left
left_at lefts x = slice_index_or lefts (x - 1) no_left

-- staging file k + 1 as the volume has it
abbrev pub whole_left : Volume → ℕ → Left
whole_left v k = record { map = extents v (k + 1); went = [] }

-- The blocks of the run go from its staging file, which has `one` left, into the file's map; what the file had in their place comes
-- behind what it lost before.
pub record RunGoes (r : MoveRun) (lefts : List Left) (linked displaced : List Extent) (lefts2 : List Left)
    (linked2 displaced2 : List Extent) : Type 0 where
  pub one : List Extent
  pub gone : List Extent
  pub moved : List ℕ
  pub moves : Moves r.staging_block r.file_block r.count (left_at lefts r.staging).map linked one linked2 gone
  pub at : AreAt (left_at lefts r.staging).map r.staging_block moved
  pub size : length moved ≡ r.count
  pub source : IsCanonical (left_at lefts r.staging).map
  pub target : IsCanonical linked
  pub lefts_are : lefts2 ≡ slice_set lefts (r.staging - 1) (record { map = one; went = (left_at lefts r.staging).went ++ moved })
  pub displaced_are : displaced2 ≡ displaced ++ gone

-- how often a disk block is among those that went from the staging files
abbrev pub all_went : List Left → ℕ → ℕ
all_went lefts b = sum_by (λ x. in_chain (left_at lefts x).went b) (range_with_len 1 4)

-- What holds of the blocks while runs go: the staging files have what they had, but for what went; and the file has what it had
-- with what went, but for what it lost.
pub record KeepsLeft (v : Volume) (ino : ℕ) (runs : List MoveRun) (lefts : List Left) (linked displaced : List Extent) : Type 0 where
  pub count : length lefts ≡ 4
  pub maps : (x : ℕ) → 1 ≤ x → x ≤ 4 → IsCanonical (left_at lefts x).map
  pub short : (x : ℕ) → 1 ≤ x → x ≤ 4 → AreBelow 64 (left_at lefts x).map
  pub blocks : (x b : ℕ) → 1 ≤ x → x ≤ 4 → in_map (left_at lefts x).map b + in_chain (left_at lefts x).went b ≡ in_map (extents v x) b
  pub file_map : IsCanonical linked
  pub file_blocks : (b : ℕ) → in_map linked b + in_map displaced b ≡ in_map (extents v ino) b + all_went lefts b
  pub untouched : (x : ℕ) → 1 ≤ x → x ≤ 4 → list_any (λ (r : MoveRun). r.staging == x) runs ≡ false → (left_at lefts x).went ≡ []
  pub displaced_are : All IsExtent displaced

-- all runs went, with what is left of the maps
pub record AreLinked (v : Volume) (ino : ℕ) (runs : List MoveRun) (lefts : List Left) (linked displaced : List Extent) : Type 0 where
  pub left : ℕ → List Extent
  pub here : (x : ℕ) → 1 ≤ x → x ≤ 4 → (left_at lefts x).map ≡ left x
  pub moves : MovesAll runs (extents v) (extents v ino) left linked displaced
  pub keeps : KeepsLeft v ino runs lefts linked displaced
