-- What is done with the bytes of an image, without files: a script is run on it, or it is mounted again.
use Rattle.std.specs.Prelude.{◌≡◌, ⊤, ℕ, List, None, Some}
use Rattle.command_line.specs.pm_model.declared.Cell.{Cell}
use Rattle.command_line.specs.pm_model.Words.{word_at}
use Rattle.command_line.specs.posix_spec.Run.{Unfinished}
use Rattle.command_line.specs.script_text.Scripts.{bad_line, scripts_of}
use Rattle.command_line.specs.Command.{Options}
use Rattle.command_line.specs.declared.statuses.statuses.Status.{Status}
use Rattle.split_machine.specs.image_model.Content.{content}
use Rattle.split_machine.specs.image_model.Rules.{geometry_of}
use Rattle.split_machine.specs.world_image_laws.BeginningLaws.{IsShapeOf}
use Rattle.pm_lines.specs.declared.choices.Choice.{Choice}
use Rattle.posix_types.specs.declared.item.Item.{Item}
use Rattle.posix_types.specs.declared.reply.Shape.{Shape}
use Rattle.posix_types.specs.declared.tree.TreeEntry.{TreeEntry}
use Rattle.split_top.specs.Devices.{IsDeviceOf}
use Rattle.split_top.specs.Images.{CanOpen, IsRefused, ShowsTree}
use Rattle.split_top.specs.Remounts.{AreRemounted}
use Rattle.split_top.specs.Runs.{IsRun, task_on}

-- A SCRIPT WAS RUN ON AN IMAGE: the image shows a tree, and a run of the script that begins with this tree had this history, left these
-- calls unfinished, and left this tree.
pub record IsTrial (image script : List ℕ) (options : Options) (history : List Item) (unfinished : List Unfinished)
    (left : List TreeEntry) : Type 0 where
  pub is_script : bad_line script ≡ None
  pub tree : List TreeEntry
  pub shows : ShowsTree image tree
  pub shape : Shape
  pub is_shape : IsShapeOf (geometry_of (word_at image)) shape
  pub is_run : IsRun (task_on tree shape (geometry_of (word_at image)).log (scripts_of script) options.mode) options history unfinished left

-- it was not run
abbrev pub IsUntried : List ℕ → List ℕ → Status → Type 0
IsUntried image script (Status.BadImage rule place) = IsRefused image rule place
IsUntried image script (Status.BadScript line) = bad_line script ≡ Some line
IsUntried image script Status.NoMemory = ⊤
IsUntried image script status = ⊥

-- AN IMAGE KEEPS ITS CONTENT: the one after can be opened, with the same numbers, and has the content of the one before.
pub record KeepsContent (before after : List ℕ) : Type 0 where
  pub can_open : CanOpen after
  pub numbers : geometry_of (word_at after) ≡ geometry_of (word_at before)
  pub same : (path : List (List ℕ)) → content (geometry_of (word_at before)) (word_at after) path ≡ content (geometry_of (word_at before)) (word_at before) path

-- THE IMAGE IS THE ONE AFTER THESE MOUNTS of the one before, with power for so many steps each.
pub record IsLeftByMounts (before : List ℕ) (choice : Choice) (again : List ℕ) (after : List ℕ) : Type 0 where
  pub first : List Cell
  pub is_first : IsDeviceOf before first
  pub last : List Cell
  pub is_last : IsDeviceOf after last
  pub are_remounted : AreRemounted (geometry_of (word_at before)) choice again first last
