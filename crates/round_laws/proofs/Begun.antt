-- The World begins on the image that was mounted.
use Rattle.std.specs.Prelude.{◌≡◌, List, [], false, true, None, refl}
use Rattle.std.proofs.Common.{ap, ◌∙◌, sym, subst}
use Rattle.std.proofs.Math.Path.{fun_ext}
use Rattle.world_view_laws.specs.eof_laws.pm_model.Images.{words_of}
use Rattle.world_view_laws.specs.eof_laws.pm_model.Words.{Words}
use Rattle.world_view_laws.specs.eof_laws.layout_model.Places.{Geometry}
use Rattle.world_view_laws.specs.eof_laws.image_model.Content.{content}
use Rattle.world_view_laws.specs.eof_laws.file_table.Files.{Files}
use Rattle.world_view_laws.specs.file_publish.staging_files.GivesUp.{nothing_staged}
use Rattle.world_view_laws.specs.eof_laws.k_split_model.View.{View}
use Rattle.log_replay.specs.Mounts.{IsMounted}
use Rattle.world_view_laws.specs.eof_laws.posix_spec.Tree.{start}
use Rattle.world_view_laws.specs.eof_laws.posix_types.declared.call.Mode.{Mode}
use Rattle.world_view_laws.specs.eof_laws.posix_types.declared.reply.Shape.{Shape}
use Rattle.world_view_laws.specs.eof_laws.posix_types.declared.tree.TreeEntry.{TreeEntry}
use Rattle.world_view_laws.specs.eof_laws.posix_types.Scripts.{Scripts}
use Rattle.world_view_laws.specs.eof_laws.posix_tables.Open.{nothing_open}
use Rattle.world_view_laws.specs.Starts.{BeginsMounted}
use Rattle.world_view_laws.specs.Views.{disk_of}
use Rattle.world_view_laws.specs.live_model.world_image_laws.BeginningLaws.{IsShapeOf}
use Rattle.world_view_laws.specs.live_model.world_model.Shown.{IsTreeOfContent}
use Rattle.round_laws.proofs.Going.{low_base, same_places}
use Rattle.round_laws.proofs.Trees.{shape_of, shown_tree}
use Rattle.round_laws.specs.StartsLaws.{first_view, ShowsAs, StartsMounted}

module _ (g : Geometry) (image : Words) (k : View) (mode : Mode) (scripts : Scripts) (mounted : IsMounted g image k) (t : List TreeEntry) (shape : Shape) (files : Files) (shown : ShowsAs k t shape) where
  content_is : content k.volume.geometry (words_of k.cells) ≡ content g image
  content_is = ap (λ (h : Geometry). content h (words_of k.cells)) (same_places g image k mounted) ∙ fun_ext mounted.shows

  begun : BeginsMounted g image mode scripts (first_view k files t shape mode scripts)
  begun = record {
    tree = t;
    shape = shape;
    tree_is = subst (λ c. IsTreeOfContent c t) content_is (shown_tree (content k.volume.geometry (words_of k.cells)) t shown.tree_is);
    shape_is = subst (λ (h : Geometry). IsShapeOf h shape) (same_places g image k mounted) (shape_of k.volume.geometry shape shown.shape_is);
    single = mounted.rest.single;
    shows = mounted.shows;
    tables = refl;
    staging = refl;
    base = low_base g image k mounted;
    world_is = λ i. record {
      geometry = same_places g image k mounted i;
      base = k.volume.base;
      start = start t shape mode;
      scripts = scripts;
      history = [];
      settled = 0;
      claims = [];
      pending = [];
      unfinished = [];
      over = None;
      given_up = 0;
      acts = 0;
      disk = disk_of k nothing_open nothing_staged files;
      lines_out = false;
      home = [];
      first = [];
      lost = false;
      usable = true;
    };
  }

pub starts_mounted : StartsMounted
starts_mounted g image k mode scripts w mounted over = subst (BeginsMounted g image mode scripts) (sym over.world_is) (begun g image k mode scripts mounted over.tree over.shape over.files over.shown)
