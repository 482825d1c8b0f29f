-- The chief laws of states, each as one statement.
use Rattle.posix_spec.specs.posix_types.declared.call.Call.{Call}
use Rattle.posix_spec.specs.posix_types.declared.call.Who.{Who}
use Rattle.posix_spec.specs.State.{Fits, Instance, State}
use Rattle.posix_spec.specs.Step.{step_of}
use Rattle.posix_spec.specs.posix_tables.Lookups.{AreDistinct}

abbrev pub FitsAlways : Type 0
FitsAlways = (i : Instance) (s : State) (who : Who) (call : Call) → Fits s → Fits (step_of i s who call).state

abbrev pub IsDistinctAlways : Type 0
IsDistinctAlways = (i : Instance) (s : State) (who : Who) (call : Call) → AreDistinct s.entries → AreDistinct (step_of i s who call).state.entries
