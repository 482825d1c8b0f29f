-- The World of an image that was mounted begins as the run of the scripts does.
use Rattle.std.proofs.Common.{◌≡◌, ◌<◌, ◌≤◌, ◌^◌, List, length, refl, sym, ◌∙◌, ap, subst, arith}
use Rattle.std.proofs.lemmas.Bool.{and_parts}
use Rattle.std.proofs.lemmas.Bool.Decides.{nat_tests}
use Rattle.std.specs.Prelude.{◌≢◌, true}
use Rattle.command_line.specs.pm_model.declared.Cell.{Cell}
use Rattle.command_line.specs.pm_model.Images.{words_of}
use Rattle.command_line.specs.pm_model.Words.{line_bytes}
use Rattle.command_line.specs.layout_model.Fields.{is_same}
use Rattle.command_line.specs.layout_model.Places.{Geometry, is_in_range}
use Rattle.command_line.specs.layout_model.Superblock.{superblock}
use Rattle.split_machine.specs.image_model.Rules.{geometry_of}
use Rattle.posix_types.specs.declared.call.Mode.{Mode}
use Rattle.posix_types.specs.Scripts.{Scripts}
use Rattle.split_machine.specs.world_image_laws.BeginningLaws.{IsShapeOf}
use Rattle.split_machine.specs.world_view_laws.Starts.{AreInLimits, BeginsMounted}
use Rattle.split_machine.specs.world_view_laws.Views.{WorldView}
use Rattle.split_top.specs.Devices.{CanMount}
use Rattle.split_top.specs.Worlds.{BeginsOn}

-- the log of a checked image has lines, and few
has_lines : (g : Geometry) → is_in_range g ≡ true → 1 ≤ g.log
has_lines g within = grind (arith, nat_tests)

has_few_lines : (g : Geometry) → is_in_range g ≡ true → g.log < 2 ^ 32
has_few_lines g within = grind (arith, nat_tests)

module _ (g : Geometry) (d : List Cell) (mounts : CanMount g d) (scripts : Scripts) (w : WorldView) (mode : Mode) (other : mode ≢ Mode.Posix) (limits : AreInLimits scripts) (begins : BeginsMounted (geometry_of (words_of d)) (words_of d) mode scripts w) where
  scripts_are : w.scripts ≡ scripts
  scripts_are = ap (λ (v : WorldView). v.scripts) begins.world_is

  -- the numbers of the image are in range
  in_range : is_in_range w.geometry ≡ true
  in_range =
      subst (λ (h : Geometry). is_in_range h ≡ true) (sym (ap (λ (v : WorldView). v.geometry) begins.world_is))
      (and_parts (is_in_range (geometry_of (words_of d))) (is_same (line_bytes (words_of d) 0) (superblock (geometry_of (words_of d)))) mounts.checked.rule_4.numbers).0

  pub begins-on : BeginsOn (words_of d) g scripts mode w
  begins-on = record {
    tree = begins.tree;
    shape = begins.shape;
    is_tree = begins.tree_is;
    is_shape = subst (λ h. IsShapeOf h begins.shape) mounts.numbers begins.shape_is;
    on = record {
      first = record {
        history = ap (λ (v : WorldView). v.history) begins.world_is;
        claims = ap (λ (v : WorldView). v.claims) begins.world_is;
        pending = ap (λ (v : WorldView). v.pending) begins.world_is;
        unfinished = ap (λ (v : WorldView). v.unfinished) begins.world_is;
        over = ap (λ (v : WorldView). v.over) begins.world_is;
        given_up = ap (λ (v : WorldView). v.given_up) begins.world_is;
        settled = ap (λ (v : WorldView). v.settled) begins.world_is;
        acts = ap (λ (v : WorldView). v.acts) begins.world_is;
        lines_out = ap (λ (v : WorldView). v.lines_out) begins.world_is;
        usable = ap (λ (v : WorldView). v.usable) begins.world_is;
        lines = has_lines w.geometry in_range;
        few = has_few_lines w.geometry in_range;
        on = ap (λ (v : WorldView). v.lost) begins.world_is;
        threads = omega (arith, limits.threads, ap (λ (s : Scripts). length s.threads) scripts_are);
      };
      geometry = ap (λ (v : WorldView). v.geometry) begins.world_is ∙ mounts.numbers;
      lines = refl;
      start = ap (λ (v : WorldView). v.start) begins.world_is;
      scripts_are = scripts_are;
      mode = other;
    };
  }
