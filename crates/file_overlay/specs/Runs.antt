-- Runs of staged blocks, and which of them has a file block.
use Rattle.std.specs.Prelude.{ℕ, ◌+◌, ◌-◌, ◌<◌, ◌^◌, Bool, List, reverse, find, Option}
use Rattle.std.specs.Option.{option_map}
use Rattle.extent_model.specs.Extents.{is_within}
use Rattle.file_overlay.specs.declared.runs.Run.{Run}

-- what contracts see of an overlay: the runs in the order in which they were laid, and how much room is spare
pub record Overlaid : Type 0 where
  pub runs : List Run
  pub spare : ℕ

-- the ends of the run, in the file and in the staging file, fit 32 bits
pub record FitsRun (run : Run) : Type 0 where
  pub in_file : run.file_block + run.count < 2 ^ 32
  pub in_staging : run.staging_block + run.count < 2 ^ 32

-- whether the run has a file block
abbrev pub has_block : ℕ → Run → Bool
has_block block run = is_within run.file_block run.count block

-- the staging file and the block in it that the run gives one of its file blocks
abbrev pub place_in : ℕ → Run → ℕ × ℕ
place_in block run = (run.staging, run.staging_block + (block - run.file_block))

-- the last run laid that has a file block
abbrev pub last_run : List Run → ℕ → Option Run
last_run runs block = find (has_block block) (reverse runs)

-- the staging file and the block in it of a file block, by the last run laid there
abbrev pub staged_at : List Run → ℕ → Option (ℕ × ℕ)
staged_at runs block = option_map (place_in block) (last_run runs block)
