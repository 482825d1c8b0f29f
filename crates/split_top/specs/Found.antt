-- The device that a run leaves, and what is found on it.
use Rattle.std.specs.Prelude.{◌≡◌, ◌*◌, ℕ, List, [], length}
use Rattle.command_line.specs.pm_model.declared.Cell.{Cell}
use Rattle.command_line.specs.pm_model.Cells.{AllHome}
use Rattle.command_line.specs.pm_model.Images.{words_of}
use Rattle.command_line.specs.pm_model.Words.{Words}
use Rattle.command_line.specs.layout_model.Places.{Geometry}
use Rattle.split_machine.specs.image_model.Content.{content}
use Rattle.split_machine.specs.image_model.Rules.{geometry_of}
use Rattle.split_machine.specs.k_split_model.View.{View}
use Rattle.split_machine.specs.Mounts.{IsMounted}
use Rattle.pm_lines.specs.declared.choices.Choice.{Choice}
use Rattle.posix_types.specs.declared.item.Item.{Item}
use Rattle.posix_types.specs.declared.tree.TreeEntry.{TreeEntry}
use Rattle.command_line.specs.posix_spec.Run.{Unfinished}
use Rattle.command_line.specs.posix_spec.State.{State}
use Rattle.split_machine.specs.crash_spec.Permitted.{StronglyPermitted}
use Rattle.split_machine.specs.world_image_laws.Promised.{KeepsPromise}
use Rattle.split_machine.specs.world_model.Shown.{IsTreeOfContent}
use Rattle.split_threads.specs.world_parts.declared.outcomes.Ended.{Ended}
use Rattle.split_top.specs.Remounts.{AreRemounted, IsCrashed}

-- WHAT A RUN LEAVES: a device of this geometry, of which nothing is lent, and which keeps the promise for the history and the
-- unfinished calls.
pub record IsLeftAs (g : Geometry) (d : List Cell) (start : State) (history : List Item) (unfinished : List Unfinished) : Type 0 where
  pub size : length d ≡ 512 * g.blocks
  pub home : AllHome d
  pub promise : KeepsPromise g d start history unfinished

-- and so it is where a run ended, with these calls
abbrev pub IsEndedWith : Geometry → State → Ended → List Unfinished → Type 0
IsEndedWith g start (Ended.Whole pm history) calls = IsLeftAs g pm start history.items calls
IsEndedWith g start (Ended.Lost crashed) calls = IsLeftAs g crashed.pm start crashed.history.items calls

-- and with those that had begun and did not return
abbrev pub IsEndedAs : Geometry → State → Ended → Type 0
IsEndedAs g start (Ended.Whole pm history) = IsLeftAs g pm start history.items []
IsEndedAs g start (Ended.Lost crashed) = IsLeftAs g crashed.pm start crashed.history.items crashed.unfinished.items

-- the calls that returned, and those that had begun and did not
abbrev pub AreCallsOf : Ended → List Item → List Unfinished → Type 0
AreCallsOf (Ended.Whole pm ran) history unfinished = (history ≡ ran.items) × (unfinished ≡ [])
AreCallsOf (Ended.Lost crashed) history unfinished = (history ≡ crashed.history.items) × (unfinished ≡ crashed.unfinished.items)

-- WHAT IS READ BACK of a run that ended: its calls, and a tree that the mode permits, by the stronger rule for bytes too, for the history
-- with any calls for which the device keeps the promise.
pub record IsReadBack (g : Geometry) (ended : Ended) (history : List Item) (unfinished : List Unfinished) (left : List TreeEntry) : Type 0 where
  pub calls : AreCallsOf ended history unfinished
  pub permitted : (start : State) (calls : List Unfinished) → IsEndedWith g start ended calls → StronglyPermitted start.mode start history calls left

-- WHAT IS FOUND on a device: the choice is applied to it, what that leaves is mounted once for each number, and the tree is that of the
-- content of the device that goes on.
pub record IsFoundBy (g : Geometry) (choice : Choice) (again : List ℕ) (d : List Cell) (left : List TreeEntry) : Type 0 where
  pub crashed : List Cell
  pub is_crashed : IsCrashed g choice d crashed
  pub last : List Cell
  pub are_remounted : AreRemounted g choice again crashed last
  pub is_tree : IsTreeOfContent (content g (words_of last)) left

-- WHAT IS FOUND on an image: K-Split as `mount` leaves it, and the tree of the image's content.
pub record IsFoundOn (image : Words) (k : View) (tree : List TreeEntry) : Type 0 where
  pub mounted : IsMounted (geometry_of image) image k
  pub is_tree : IsTreeOfContent (content (geometry_of image) image) tree
