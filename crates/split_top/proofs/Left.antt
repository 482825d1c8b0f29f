-- What a run leaves on the device.
use Rattle.std.proofs.Common.{◌≡◌, ◌*◌, List, length, subst}
use Rattle.command_line.specs.pm_model.declared.Cell.{Cell}
use Rattle.command_line.specs.pm_model.Powers.{Supply}
use Rattle.command_line.specs.layout_model.Places.{Geometry}
use Rattle.posix_types.specs.declared.item.Item.{Item}
use Rattle.command_line.specs.posix_spec.Run.{Unfinished}
use Rattle.split_machine.specs.world_image_laws.Promised.{KeepsPromise}
use Rattle.split_machine.specs.run_laws.Runs.{IsRan}
use Rattle.split_machine.specs.world_view_laws.Views.{WorldView}
use Rattle.split_top.specs.Found.{IsLeftAs}
use Rattle.split_top.specs.Runs.{Task}
use Rattle.split_top.specs.Worlds.{IsWorldOn}

-- likewise with some calls alone, where the promise is kept with these
pub left_with : (g : Geometry) (task : Task) (w : WorldView) (before after : Supply) (pm : List Cell) (history : List Item) (unfinished acted : List Unfinished)
    → IsWorldOn g task w → IsRan w before after pm history unfinished → KeepsPromise w.geometry pm w.start history acted → IsLeftAs g pm w.start history acted
left_with g task w before after pm history unfinished acted on ran promise = record {
  size = subst (λ (h : Geometry). length pm ≡ 512 * h.blocks) on.geometry ran.size;
  home = ran.home;
  promise = subst (λ h. KeepsPromise h pm w.start history acted) on.geometry promise;
}

pub left_as : (g : Geometry) (task : Task) (w : WorldView) (before after : Supply) (pm : List Cell) (history : List Item) (unfinished : List Unfinished)
    → IsWorldOn g task w → IsRan w before after pm history unfinished → IsLeftAs g pm w.start history unfinished
left_as g task w before after pm history unfinished on ran = left_with g task w before after pm history unfinished unfinished on ran ran.promise
