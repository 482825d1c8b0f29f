-- What `mount` answers.
use Rattle.std.specs.Prelude.{◌≡◌, ◌*◌, true, List, length, Result, Ok, Err}
use Rattle.world_rounds.specs.round_laws.pm_model.declared.Cell.{Cell}
use Rattle.world_rounds.specs.round_laws.pm_model.Images.{words_of}
use Rattle.world_rounds.specs.round_laws.pm_model.Powers.{is_on, Supply}
use Rattle.world_rounds.specs.round_laws.image_model.Rules.{geometry_of, IsChecked}
use Rattle.posix_types.specs.declared.call.Mode.{Mode}
use Rattle.posix_types.specs.Scripts.{Scripts}
use Rattle.world_rounds.specs.round_laws.log_replay.declared.mounting.faults.MountFault.{MountFault}
use Rattle.world_rounds.specs.round_laws.log_replay.Mounts.{IsMountAnswer}
use Rattle.world_begins.specs.world_parts.world_view_laws.Starts.{BeginsMounted}
use Rattle.world_begins.specs.world_parts.world_view_laws.Views.{WorldView}

-- WHAT `mount` ANSWERS of a device: the World begins on its image, which is checked, and power is left; or why it is not mounted.
abbrev pub IsWorldAnswer : List Cell → Mode → Scripts → Supply → Supply → Result WorldView MountFault → Type 0
IsWorldAnswer pm mode scripts before after (Ok w) =
    IsChecked (8 * length pm) (words_of pm) × BeginsMounted (geometry_of (words_of pm)) (words_of pm) mode scripts w × (is_on after ≡ true)
IsWorldAnswer pm mode scripts before after (Err fault) = IsMountAnswer pm before after (Err fault)
