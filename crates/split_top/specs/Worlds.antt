-- The World that a run begins with.
use Rattle.std.specs.Prelude.{◌≡◌, ◌≢◌, Bool, List}
use Rattle.command_line.specs.layout_model.Places.{Geometry}
use Rattle.command_line.specs.pm_model.Words.{Words}
use Rattle.split_machine.specs.image_model.Content.{content}
use Rattle.split_machine.specs.image_model.Rules.{geometry_of}
use Rattle.split_machine.specs.world_model.Shown.{IsTreeOfContent}
use Rattle.posix_types.specs.declared.call.Mode.{Mode}
use Rattle.posix_types.specs.declared.item.Item.{Item}
use Rattle.posix_types.specs.declared.reply.Shape.{Shape}
use Rattle.posix_types.specs.declared.tree.TreeEntry.{TreeEntry}
use Rattle.posix_types.specs.Scripts.{Scripts}
use Rattle.command_line.specs.Command.{Options}
use Rattle.command_line.specs.posix_spec.Run.{Unfinished}
use Rattle.split_machine.specs.world_view_laws.Views.{WorldView}
use Rattle.split_machine.specs.run_laws.Runs.{IsFirst}
use Rattle.split_machine.specs.world_image_laws.BeginningLaws.{IsShapeOf}
use Rattle.split_top.specs.Runs.{beginning, IsRunBy, Task, task_on}

-- The World of a task on a device with these numbers: nothing has begun. It is in strict mode or sync mode, those that a World has
-- by now.
pub record IsWorldOn (g : Geometry) (task : Task) (w : WorldView) : Type 0 where
  pub first : IsFirst w
  pub geometry : w.geometry ≡ g
  pub lines : task.lines ≡ g.log
  pub start : w.start ≡ beginning task
  pub scripts_are : w.scripts ≡ task.scripts
  pub mode : task.mode ≢ Mode.Posix

-- THE WORLD BEGINS ON THE WORDS OF AN IMAGE: on the tree of their content, with the shape of its numbers.
pub record BeginsOn (image : Words) (g : Geometry) (scripts : Scripts) (mode : Mode) (w : WorldView) : Type 0 where
  pub tree : List TreeEntry
  pub shape : Shape
  pub is_tree : IsTreeOfContent (content (geometry_of image) image) tree
  pub is_shape : IsShapeOf g shape
  pub on : IsWorldOn g (task_on tree shape g.log scripts mode) w

-- a run of scripts, by events or by threads, that began with the tree of the image had this history, left these calls unfinished, and left this tree
pub record IsRanOn (by_threads : Bool) (image : Words) (g : Geometry) (scripts : Scripts) (options : Options)
    (history : List Item) (unfinished : List Unfinished) (left : List TreeEntry) : Type 0 where
  pub tree : List TreeEntry
  pub shape : Shape
  pub is_tree : IsTreeOfContent (content (geometry_of image) image) tree
  pub is_shape : IsShapeOf g shape
  pub is_run : IsRunBy by_threads (task_on tree shape g.log scripts options.mode) options history unfinished left
