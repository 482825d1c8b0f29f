-- How a World begins on a device that is mounted, each law as one statement.
use Rattle.std.specs.Prelude.{◌≡◌, ◌≢◌, false, true, List, [], None}
use Rattle.world_view_laws.specs.eof_laws.pm_model.Cells.{AllHome}
use Rattle.world_view_laws.specs.eof_laws.pm_model.Images.{words_of}
use Rattle.world_view_laws.specs.eof_laws.pm_model.Words.{Words}
use Rattle.world_view_laws.specs.eof_laws.layout_model.Journal.{journaled}
use Rattle.world_view_laws.specs.eof_laws.layout_model.Places.{data_blocks, Geometry, IsGeometry, nodes}
use Rattle.world_view_laws.specs.eof_laws.image_model.Content.{content}
use Rattle.world_view_laws.specs.eof_laws.image_model.Live.{live_entries}
use Rattle.world_view_laws.specs.eof_laws.file_table.Files.{Files}
use Rattle.world_view_laws.specs.eof_laws.k_tables.ContentsTrees.{tree_content}
use Rattle.world_view_laws.specs.eof_laws.k_split_model.View.{View}
use Rattle.log_replay.specs.Mounts.{IsMounted}
use Rattle.world_view_laws.specs.eof_laws.posix_spec.Tree.{start}
use Rattle.world_view_laws.specs.eof_laws.posix_laws.TreeOf.{IsTreeOf}
use Rattle.world_view_laws.specs.eof_laws.posix_types.declared.call.Mode.{Mode}
use Rattle.world_view_laws.specs.eof_laws.posix_types.declared.reply.Shape.{Shape}
use Rattle.world_view_laws.specs.eof_laws.posix_types.declared.tree.TreeEntry.{TreeEntry}
use Rattle.world_view_laws.specs.eof_laws.posix_types.Scripts.{Scripts}
use Rattle.world_view_laws.specs.eof_laws.posix_tables.Open.{nothing_open}
use Rattle.world_view_laws.specs.Starts.{AreInLimits, BeginsMounted}
use Rattle.world_view_laws.specs.Views.{disk_of, IsWorldOver, WorldView}
use Rattle.world_view_laws.specs.live_model.staging_files.GivesUp.{nothing_staged}
use Rattle.round_laws.specs.Sizes.{HasSizesOf}

-- A mounted device has a tree: nothing of it is lent, and no entry of its log is live.
pub record MayShowTree (k : View) : Type 0 where
  pub on : k.lost ≡ false
  pub home : AllHome k.cells
  pub none : live_entries k.volume (journaled (words_of k.cells)) ≡ []

abbrev pub ShowsTree : Type 0
ShowsTree = (g : Geometry) (image : Words) (k : View) → IsMounted g image k → MayShowTree k

-- the shape has the numbers of the geometry, which is in range
pub record HasNumbersOf (g : Geometry) (shape : Shape) : Type 0 where
  pub data_blocks : shape.data_blocks ≡ data_blocks g
  pub nodes : shape.nodes ≡ nodes g
  pub names : shape.names ≡ g.names
  pub in_range : IsGeometry g

-- WHAT A MOUNTED DEVICE SHOWS: this tree of its content, and this shape.
pub record ShowsAs (k : View) (tree : List TreeEntry) (shape : Shape) : Type 0 where
  pub tree_is : IsTreeOf (tree_content (content k.volume.geometry (words_of k.cells))) tree
  pub shape_is : HasNumbersOf k.volume.geometry shape

-- some image was mounted
abbrev pub WasMounted : View → Type 0
WasMounted k = (g : Geometry) × (image : Words) × IsMounted g image k

-- WHAT A WORLD BEGINS WITH: a mounted device, what it shows, and scripts; the mode is strict or sync.
pub record MayStart (g : Geometry) (image : Words) (k : View) (tree : List TreeEntry) (shape : Shape) (mode : Mode) (scripts : Scripts) : Type 0 where
  pub mounted : IsMounted g image k
  pub shown : ShowsAs k tree shape
  pub mode_is : mode ≢ Mode.Posix
  pub limits : AreInLimits scripts

-- the World with nothing done: its start is the state of the tree
abbrev pub first_view : View → Files → List TreeEntry → Shape → Mode → Scripts → WorldView
first_view k files tree shape mode scripts = record {
  geometry = k.volume.geometry;
  base = k.volume.base;
  start = start tree shape mode;
  scripts = scripts;
  history = [];
  settled = 0;
  claims = [];
  pending = [];
  unfinished = [];
  over = None;
  given_up = 0;
  acts = 0;
  disk = disk_of k nothing_open nothing_staged files;
  lines_out = false;
  home = [];
  first = [];
  lost = false;
  usable = true;
}

-- THE WORLD BEGINS OVER A DEVICE: it is the first one, of what the device shows.
pub record BeginsOver (k : View) (mode : Mode) (scripts : Scripts) (w : WorldView) : Type 0 where
  pub tree : List TreeEntry
  pub shape : Shape
  pub files : Files
  pub shown : ShowsAs k tree shape
  pub world_is : w ≡ first_view k files tree shape mode scripts

-- IT IS ONE THAT GOES ON, with nothing staged,
abbrev pub StartsGoing : Type 0
StartsGoing =
    (g : Geometry) (image : Words) (k : View) (tree : List TreeEntry) (shape : Shape) (mode : Mode) (scripts : Scripts) (files : Files)
    → MayStart g image k tree shape mode scripts → HasSizesOf k.volume files
    → IsWorldOver k nothing_open nothing_staged files (first_view k files tree shape mode scripts)

-- and begins on the image that was mounted.
abbrev pub StartsMounted : Type 0
StartsMounted =
    (g : Geometry) (image : Words) (k : View) (mode : Mode) (scripts : Scripts) (w : WorldView)
    → IsMounted g image k → BeginsOver k mode scripts w → BeginsMounted g image mode scripts w
