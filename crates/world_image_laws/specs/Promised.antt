-- The promise of a device.
use Rattle.std.specs.Prelude.{◌≡◌, ◌*◌, List}
use Rattle.image_laws.specs.pm_model.declared.Cell.{Cell}
use Rattle.image_laws.specs.pm_model.Cells.{cell}
use Rattle.image_laws.specs.pm_model.Images.{IsImage}
use Rattle.image_laws.specs.pm_model.Words.{Words}
use Rattle.image_laws.specs.layout_model.Places.{Geometry}
use Rattle.image_laws.specs.image_model.Content.{content}
use Rattle.image_laws.specs.image_model.Honest.{IsHonest}
use Rattle.image_laws.specs.image_model.Rules.{geometry_of, IsChecked}
use Rattle.world_step_laws.specs.world_model.posix_types.declared.item.Item.{Item}
use Rattle.world_step_laws.specs.world_model.posix_types.declared.tree.TreeEntry.{TreeEntry}
use Rattle.world_step_laws.specs.world_model.posix_spec.Run.{Unfinished}
use Rattle.world_step_laws.specs.world_model.posix_spec.State.{State}
use Rattle.world_step_laws.specs.world_model.crash_spec.Permitted.{StronglyPermitted}
use Rattle.world_step_laws.specs.world_model.Shown.{IsTreeOfContent}

-- The image is checked, with this geometry; its content has a tree; and each tree of it is permitted after the history, with
-- these calls unfinished.
pub record IsKept (g : Geometry) (start : State) (history : List Item) (unfinished : List Unfinished) (image : Words) : Type 0 where
  pub checked : IsChecked (4096 * g.blocks) image
  pub geometry : geometry_of image ≡ g
  pub tree : (left : List TreeEntry) × IsTreeOfContent (content g image) left
  pub permitted : (left : List TreeEntry) → IsTreeOfContent (content g image) left → StronglyPermitted start.mode start history unfinished left

-- THE PROMISE: each honest image of the device is such a one.
abbrev pub KeepsPromise : Geometry → List Cell → State → List Item → List Unfinished → Type 0
KeepsPromise g d start history unfinished = (image : Words) → IsImage d image → IsHonest g (cell d) image → IsKept g start history unfinished image
