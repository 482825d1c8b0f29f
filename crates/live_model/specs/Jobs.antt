-- Jobs that are out, and the words of their calls.
use Rattle.std.specs.Prelude.{not, ℕ, List, filter}
use Rattle.open_files.specs.posix_types.declared.call.Who.{Who}
use Rattle.world_model.specs.posix_laws.Puts.{PutsWhole}
use Rattle.open_files.specs.posix_laws.posix_spec.State.{State}
use Rattle.open_files.specs.posix_tables.Open.{same_who}
use Rattle.write_jobs.specs.Blocks.{SpellWhole}
use Rattle.live_model.specs.Standing.{JobOut}

-- the jobs that are out but that of a caller
abbrev pub without : Who → List JobOut → List JobOut
without who pending = filter (λ (p : JobOut). not (same_who p.who who)) pending

-- The words are what the call of the job puts, wherever it puts them.
abbrev pub SpellCall : State → JobOut → List ℕ → Type 0
SpellCall s p words = (node : ℕ) (whole : List ℕ) → PutsWhole s p.who p.call node whole → SpellWhole p.draft words whole
