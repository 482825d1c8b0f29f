-- What a staging keeps, and when it agrees with K-Split.
use Rattle.std.specs.Prelude.{◌≡◌, ◌≤◌, ◌<◌, ◌+◌, ◌-◌, ◌/◌, ◌==◌, ◌&&◌, not, nat_lt, ℕ, Bool, true, false, List, [], length, slice_index, slice_index_or, All, AllPairs, Some}
use Rattle.std.specs.List.{list_any}
use Rattle.k_split.specs.pm_model.Cells.{cell, is_lent, is_single}
use Rattle.k_split.specs.extent_model.Extents.{disk_at, is_within}
use Rattle.k_split.specs.image_model.Volume.{extents}
use Rattle.k_split.specs.k_split_model.View.{View}
use Rattle.staging_files.specs.declared.runs.StageRun.{StageRun}

-- What contracts see of a staging: the runs that are out, in the order in which they were reserved, and how many blocks each of
-- the staging files 1 to 4 was given since it was empty.
pub record Staged : Type 0 where
  pub out : List StageRun
  pub given : List ℕ

-- a staging file, by its inode
pub record IsStaging (x : ℕ) : Type 0 where
  pub least : 1 ≤ x
  pub most : x ≤ 4

abbrev pub given_to : Staged → ℕ → ℕ
given_to s x = slice_index s.given (x - 1)

-- the staging keeps the staging file as empty
abbrev pub IsKeptEmpty : Staged → ℕ → Type 0
IsKeptEmpty s x = given_to s x ≡ 0

-- whether the run has the block of the staging file
abbrev pub has_block : ℕ → ℕ → StageRun → Bool
has_block x b run = (run.staging == x) && is_within run.block run.count b

-- whether the staging keeps the block of the staging file as free: it was given, and no run that is out has it
abbrev pub is_kept_free : Staged → ℕ → ℕ → Bool
is_kept_free s x b = nat_lt b (given_to s x) && not (list_any (has_block x b) s.out)

-- these marks say which blocks of the staging file the runs have
pub record AreTaken (runs : List StageRun) (x : ℕ) (marks : List Bool) : Type 0 where
  pub count : length marks ≡ 64
  pub each : (b : ℕ) → b < 64 → slice_index_or marks b false ≡ list_any (has_block x b) runs

-- two runs share no block
abbrev pub AreApart : StageRun → StageRun → Type 0
AreApart run other = (x b : ℕ) → has_block x b run ≡ true → has_block x b other ≡ false

-- at least one block, all of them among those that its staging file was given
pub record IsPlaced (s : Staged) (run : StageRun) : Type 0 where
  pub staging : IsStaging run.staging
  pub some : 1 ≤ run.count
  pub inside : run.block + run.count ≤ given_to s run.staging

-- WHAT A STAGING KEEPS: four staging files were given at most 64 blocks each, and the runs that are out lie in them and share
-- no block; so at most 256 are out (`few_runs`).
pub record IsStaged (s : Staged) : Type 0 where
  pub files : length s.given ≡ 4
  pub most : All (λ n. n ≤ 64) s.given
  pub placed : All (IsPlaced s) s.out
  pub apart : AllPairs AreApart s.out

-- ---- agreement with K-Split

-- the staging file has a disk block at its block, and no word of it is lent
pub record IsAtHome (k : View) (x b : ℕ) : Type 0 where
  pub disk : ℕ
  pub at : disk_at (extents k.volume x) b ≡ Some disk
  pub home : (i : ℕ) → i / 512 ≡ disk → is_lent (cell k.cells i) ≡ false

-- WHAT A STAGING KEEPS AGREES WITH K-SPLIT: each block that it keeps as free is in its staging file and not lent, and each
-- staging file that it keeps as empty is empty.
pub record Agrees (s : Staged) (k : View) : Type 0 where
  pub free : (x b : ℕ) → IsStaging x → is_kept_free s x b ≡ true → IsAtHome k x b
  pub empty : (x : ℕ) → IsStaging x → IsKeptEmpty s x → extents k.volume x ≡ []

-- all blocks of a run are in its staging file, and none is lent
abbrev pub IsThere : View → StageRun → Type 0
IsThere k run = (b : ℕ) → is_within run.block run.count b ≡ true → IsAtHome k run.staging b

-- each word of the block of the staging file has one candidate, where the file has the block
abbrev pub IsSingleAt : View → ℕ → ℕ → Type 0
IsSingleAt k x b = (disk i : ℕ) → disk_at (extents k.volume x) b ≡ Some disk → i / 512 ≡ disk → is_single (cell k.cells i) ≡ true

-- so it is of all blocks that a staging keeps as free, and of all blocks of a run
abbrev pub AreFreeSingle : Staged → View → Type 0
AreFreeSingle s k = (x b : ℕ) → IsStaging x → is_kept_free s x b ≡ true → IsSingleAt k x b

abbrev pub IsRunSingle : View → StageRun → Type 0
IsRunSingle k run = (b : ℕ) → is_within run.block run.count b ≡ true → IsSingleAt k run.staging b
