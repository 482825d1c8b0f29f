-- How a World begins on a device that is mounted.
use Rattle.std.specs.Prelude.{◌≡◌, ◌≤◌, ◌+◌, ◌^◌, ℕ, true, false, List, [], length, None}
use Rattle.in_flight.specs.pm_model.Cells.{AllSingle}
use Rattle.in_flight.specs.pm_model.Images.{words_of}
use Rattle.in_flight.specs.pm_model.Words.{Words}
use Rattle.in_flight.specs.layout_model.Places.{Geometry}
use Rattle.in_flight.specs.image_model.Content.{content}
use Rattle.in_flight.specs.posix_types.declared.call.Mode.{Mode}
use Rattle.in_flight.specs.posix_types.declared.reply.Shape.{Shape}
use Rattle.in_flight.specs.posix_types.declared.tree.TreeEntry.{TreeEntry}
use Rattle.in_flight.specs.posix_types.Scripts.{Scripts}
use Rattle.in_flight.specs.posix_tables.Open.{nothing_open}
use Rattle.in_flight.specs.posix_spec.Scripted.{call_count}
use Rattle.in_flight.specs.posix_spec.Tree.{start}
use Rattle.in_flight.specs.staging_files.GivesUp.{nothing_staged}
use Rattle.in_flight.specs.world_model.Shown.{IsTreeOfContent}
use Rattle.in_flight.specs.world_image_laws.BeginningLaws.{IsShapeOf}
use Rattle.world_view_laws.specs.Views.{AreSpelledCalls, WorldView}

-- The scripts have at most 4,096 calls and 8 threads, and the names of their paths are spelled.
pub record AreInLimits (scripts : Scripts) : Type 0 where
  pub few : call_count scripts ≤ 4096
  pub threads : length scripts.threads ≤ 8
  pub spelled : AreSpelledCalls scripts

-- THE WORLD BEGINS ON AN IMAGE that was mounted: its start is the state of the tree of the image; nothing is done, claimed or out, no
-- file is open and nothing is staged; and its device shows what the image did, each word alone.
pub record BeginsMounted (g : Geometry) (image : Words) (mode : Mode) (scripts : Scripts) (w : WorldView) : Type 0 where
  pub tree : List TreeEntry
  pub shape : Shape
  pub tree_is : IsTreeOfContent (content g image) tree
  pub shape_is : IsShapeOf g shape
  pub single : AllSingle w.disk.cells
  pub shows : (path : List (List ℕ)) → content g (words_of w.disk.cells) path ≡ content g image path
  pub tables : w.disk.tables ≡ nothing_open
  pub staging : w.disk.staging ≡ nothing_staged
  pub base : w.base ≤ 2 ^ 62 + g.log
  pub world_is : w ≡ record {
    geometry = g;
    base = w.base;
    start = start tree shape mode;
    scripts = scripts;
    history = [];
    settled = 0;
    claims = [];
    pending = [];
    unfinished = [];
    over = None;
    given_up = 0;
    acts = 0;
    disk = w.disk;
    lines_out = false;
    home = [];
    first = w.first;
    lost = false;
    usable = true;
  }
