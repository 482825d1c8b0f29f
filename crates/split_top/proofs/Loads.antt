-- A load: its fresh image can be mounted, and its scripts can be run.
use Rattle.std.proofs.Common.{◌≡◌, ◌≤◌, ℕ, List, length, sym, ◌∙◌, ap, subst}
use Rattle.command_line.specs.Command.{Options}
use Rattle.command_line.specs.pm_model.declared.Cell.{Cell}
use Rattle.command_line.specs.pm_model.Images.{words_of}
use Rattle.command_line.specs.layout_model.Places.{Geometry}
use Rattle.command_line.specs.script_text.Laws.{ScriptsAreSpelled, ScriptsAreWithinLimits}
use Rattle.posix_types.specs.Scripts.{Scripts}
use Rattle.split_cases.specs.Load.{load_scripts, load_text, LoadsAreScripts}
use Rattle.split_cases.specs.Summary.{summary_text}
use Rattle.split_machine.specs.image_model.Rules.{geometry_of, IsChecked}
use Rattle.split_machine.specs.world_view_laws.Starts.{AreInLimits}
use Rattle.split_top.specs.Devices.{CanMount, IsDeviceOf}
use Rattle.split_top.specs.Images.{IsFreshImage}
use Rattle.split_top.specs.Top.{IsRunOn}
use Rattle.split_top.proofs.Runnable.{scripts_are_runnable}

pub fresh-mounts : (g : Geometry) (bytes : List ℕ) (d : List Cell) → IsFreshImage g bytes → IsDeviceOf bytes d → CanMount g d
fresh-mounts g bytes d fresh is = record {
  checked = subst (λ n. IsChecked n (words_of d)) (sym is.size) (subst (IsChecked (length bytes)) (sym is.words) fresh.checked);
  numbers = ap geometry_of is.words ∙ fresh.numbers;
  single = is.single;
}

pub load-runs : ScriptsAreSpelled → ScriptsAreWithinLimits → LoadsAreScripts → (n threads : ℕ) → n ≤ 500 → threads ≤ 8 → AreInLimits (load_scripts n threads)
load-runs spelled within loads n threads few most =
    let is = loads n threads few most in
    subst AreInLimits is.same (scripts_are_runnable spelled within (load_text n threads) is.good)

-- a run with these numbers, scripts and options is one with those that they are
pub same-run : (image : List ℕ) (g h : Geometry) (s t : Scripts) (o p : Options) (output kept : List ℕ) → g ≡ h → s ≡ t → o ≡ p → IsRunOn image g s o summary_text output kept → IsRunOn image h t p summary_text output kept
same-run image g h s t o p output kept numbers scripts options is =
    subst (λ x. IsRunOn image h t x summary_text output kept) options
    (subst (λ x. IsRunOn image h x o summary_text output kept) scripts (subst (λ x. IsRunOn image x s o summary_text output kept) numbers is))
