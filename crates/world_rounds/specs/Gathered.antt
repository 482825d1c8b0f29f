-- How a round ends, before it is told what follows.
use Rattle.std.specs.Prelude.{◌≡◌, List, Result, Ok, Err}
use Rattle.std.specs.declared.alloc.AllocError.{AllocError}
use Rattle.world_parts.specs.pm_model.Parts.{Part}
use Rattle.world_parts.specs.k_journal.declared.outcomes.Commit.{Commit}
use Rattle.world_parts.specs.k_split_model.View.{View}
use Rattle.world_parts.specs.log_checkpoint.Gathers.{IsGatherAnswer}
use Rattle.round_laws.specs.EndsLaws.{IsEnding}
use Rattle.world_parts.specs.world_view_laws.file_calls.declared.names.outcomes.NoMemory.{NoMemory}
use Rattle.world_parts.specs.declared.outcomes.Crashed.{Crashed}
use Rattle.world_parts.specs.declared.outcomes.Ended.{Ended}
use Rattle.world_parts.specs.declared.parts.Parts.{Parts}
use Rattle.world_parts.specs.Seen.{seen}

-- the lines came home to a device, and all that is staged was published there
pub record HasGathered (p q : Parts) (lines : List Part) (answer : Result Commit AllocError) : Type 0 where
  pub home : View
  pub ending : IsEnding p.k home p.tables.tables p.staging p.files (seen p) lines
  pub gathered : IsGatherAnswer p.files home q.staging q.files q.k answer

-- how the run ends with what is left
abbrev pub EndsWith : Result Commit AllocError → Crashed → Result Ended NoMemory → Type 0
EndsWith (Ok Commit.Done) left answer = answer ≡ Ok (Ended.Whole left.pm left.history)
EndsWith (Ok Commit.PowerLost) left answer = answer ≡ Ok (Ended.Lost left)
EndsWith (Err e) left answer = (none : NoMemory) × (answer ≡ Err none)
