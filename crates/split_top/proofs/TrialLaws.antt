-- The image that mounts leave has the content of the one before, and a script that was run on an image is a trial of it.
use Rattle.std.proofs.Common.{◌≡◌, ℕ, false, List, None, sym, ◌∙◌, subst}
use Rattle.command_line.specs.pm_model.declared.Cell.{Cell}
use Rattle.command_line.specs.pm_model.Cells.{AllSingle}
use Rattle.command_line.specs.pm_model.ImageLaws.{image-single}
use Rattle.command_line.specs.pm_model.Images.{IsImageOf, words_of}
use Rattle.command_line.specs.pm_model.Words.{word_at}
use Rattle.command_line.specs.layout_model.Places.{Geometry}
use Rattle.command_line.specs.posix_spec.Run.{Unfinished}
use Rattle.command_line.specs.script_text.Scripts.{bad_line, scripts_of}
use Rattle.command_line.specs.Command.{Options}
use Rattle.split_machine.specs.image_model.Content.{content}
use Rattle.split_machine.specs.image_model.Rules.{geometry_of}
use Rattle.split_machine.specs.world_image_laws.BeginningLaws.{IsShapeOf}
use Rattle.pm_lines.specs.declared.choices.Choice.{Choice}
use Rattle.posix_types.specs.declared.item.Item.{Item}
use Rattle.posix_types.specs.declared.tree.TreeEntry.{TreeEntry}
use Rattle.split_top.specs.Devices.{CanMount, IsDeviceOf}
use Rattle.split_top.specs.Remounts.{AreRemounted, GoesOn}
use Rattle.split_top.specs.Runs.{IsRun, task_on}
use Rattle.split_top.specs.Trials.{IsLeftByMounts, IsTrial, KeepsContent}
use Rattle.split_top.specs.Worlds.{IsRanOn}
use Rattle.split_top.proofs.Opened.{can-open, same-numbers, shows-tree}

-- the bytes that were taken of a device are those of its image
pub device-taken : (d : List Cell) (bytes : List ℕ) → AllSingle d → IsImageOf d bytes → IsDeviceOf bytes d
device-taken d bytes single is = record { size = sym is.size; single = single; words = sym (image-single d (word_at bytes) single is.words) }

module _ (before after : List ℕ) (first last : List Cell) (is_first : IsDeviceOf before first) (is_last : IsDeviceOf after last) (g : Geometry) (mounts : CanMount g first) where
  own : g ≡ geometry_of (word_at before)
  own = same-numbers before first is_first g mounts.numbers

  pub keeps-content : GoesOn g (words_of first) last → KeepsContent before after
  keeps-content goes = record {
    can_open = can-open after last is_last goes.mounts.checked;
    numbers = sym (same-numbers after last is_last g goes.mounts.numbers) ∙ own;
    same = λ path.
        subst (λ h. content h (word_at after) path ≡ content h (word_at before) path) own
        (subst (λ f. content g f path ≡ content g (word_at before) path) is_last.words
        (subst (λ f. content g (words_of last) path ≡ content g f path) is_first.words (goes.same path)));
  }

  pub left-by-mounts : (choice : Choice) (again : List ℕ) → AreRemounted g choice again first last → IsLeftByMounts before choice again after
  left-by-mounts choice again remounted = record {
    first = first;
    is_first = is_first;
    last = last;
    is_last = is_last;
    are_remounted = subst (λ h. AreRemounted h choice again first last) own remounted;
  }

-- a run on the device of an image
pub is-trial : (image script : List ℕ) (options : Options) (history : List Item) (unfinished : List Unfinished) (left : List TreeEntry) (g : Geometry) (d : List Cell)
    → IsDeviceOf image d → CanMount g d → bad_line script ≡ None → IsRanOn false (words_of d) g (scripts_of script) options history unfinished left
    → IsTrial image script options history unfinished left
is-trial image script options history unfinished left g d is mounts is_script ran = record {
  is_script = is_script;
  tree = ran.tree;
  shows = shows-tree image d is ran.tree mounts.checked ran.is_tree;
  shape = ran.shape;
  is_shape = subst (λ h. IsShapeOf h ran.shape) own_numbers ran.is_shape;
  is_run = subst (λ (h : Geometry). IsRun (task_on ran.tree ran.shape h.log (scripts_of script) options.mode) options history unfinished left) own_numbers ran.is_run;
} where
  own_numbers : g ≡ geometry_of (word_at image)
  own_numbers = same-numbers image d is g mounts.numbers
