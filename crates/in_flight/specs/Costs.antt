-- How many steps a call of a script takes at most.
use Rattle.std.specs.Prelude.{◌^◌, ◌||◌, ℕ, Option, Some, None, if◌then◌else◌}
use Rattle.posix_types.specs.declared.call.Call.{Call}
use Rattle.posix_types.specs.declared.call.Mode.{Mode}
use Rattle.live_model.specs.commute_laws.posix_spec.Afforded.{is_posix, moves_data}

-- 2^26 where it may move data, or in POSIX mode has to commit what was gathered; and else 512
abbrev pub most_of_call : Mode → Call → ℕ
most_of_call mode call = if is_posix mode || moves_data call then 2 ^ 26 else 512

abbrev pub most_of : Mode → Option Call → ℕ
most_of mode None = 0
most_of mode (Some call) = most_of_call mode call
