-- What a run hides that is laid, and the last run laid among those that have a block.
use Rattle.std.specs.Prelude.{◌≡◌, ◌<◌, ◌≤◌, ℕ, true, false, if◌then◌else◌, List, [], ◌∷◌, ◌++◌, All, AllPairs, Some, None}
use Rattle.file_overlay.specs.declared.runs.Run.{Run}
use Rattle.file_overlay.specs.Runs.{has_block, last_run, place_in, staged_at}

-- A run that is laid last has its blocks, and each other block is found as before.
abbrev pub LaidHides : Type 0
LaidHides = (runs : List Run) (run : Run) (block : ℕ)
    → staged_at (runs ++ run ∷ []) block ≡ (if has_block block run then Some (place_in block run) else staged_at runs block)

-- the run has a lower order
abbrev pub IsEarlier : Run → Run → Type 0
IsEarlier run later = run.order < later.order

-- Where the orders rise, the last run laid over a block is the one of greatest order that has the block.
abbrev pub LastIsGreatest : Type 0
LastIsGreatest = (runs : List Run) (block : ℕ) (run : Run) → AllPairs IsEarlier runs → last_run runs block ≡ Some run
    → (has_block block run ≡ true) × All (λ other. has_block block other ≡ true → other.order ≤ run.order) runs

-- Where no last run is found, no run has the block.
abbrev pub NoneHasBlock : Type 0
NoneHasBlock = (runs : List Run) (block : ℕ) → last_run runs block ≡ None → All (λ other. has_block block other ≡ false) runs
