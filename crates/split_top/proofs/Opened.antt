-- What the device of an image says of its bytes, and what is asked of one that is mounted.
use Rattle.std.proofs.Common.{◌≡◌, ◌*◌, ℕ, true, false, None, List, length, sym, ◌∙◌, ap, subst}
use Rattle.command_line.specs.pm_model.declared.Cell.{Cell}
use Rattle.command_line.specs.pm_model.Images.{words_of}
use Rattle.command_line.specs.pm_model.Powers.{is_left, is_on, Supply}
use Rattle.command_line.specs.pm_model.Words.{word_at}
use Rattle.command_line.specs.layout_model.Places.{Geometry}
use Rattle.split_machine.specs.image_model.Broken.{Breaks}
use Rattle.split_machine.specs.image_model.Content.{content}
use Rattle.split_machine.specs.image_model.Rules.{geometry_of, IsChecked}
use Rattle.split_machine.specs.image_laws.CheckedLaws.{checked-unbroken}
use Rattle.posix_types.specs.declared.tree.TreeEntry.{TreeEntry}
use Rattle.split_machine.specs.world_model.Shown.{IsTreeOfContent}
use Rattle.split_top.specs.Devices.{IsDeviceOf}
use Rattle.split_top.specs.Images.{CanOpen, IsRefused, ShowsTree}

-- the bytes of an image, and its device
module _ (bytes : List ℕ) (d : List Cell) (is : IsDeviceOf bytes d) where
  pub can-open : IsChecked (8 * length d) (words_of d) → CanOpen bytes
  can-open checked = subst (IsChecked (length bytes)) is.words (subst (λ n. IsChecked n (words_of d)) is.size checked)

  pub refused : (rule place : ℕ) → Breaks (8 * length d) (words_of d) rule place → IsRefused bytes rule place
  refused rule place breaks = subst (λ f. Breaks (length bytes) f rule place) is.words (subst (λ n. Breaks n (words_of d) rule place) is.size breaks)

  pub shows-tree : (tree : List TreeEntry) → IsChecked (8 * length d) (words_of d) → IsTreeOfContent (content (geometry_of (words_of d)) (words_of d)) tree → ShowsTree bytes tree
  shows-tree tree checked is_tree = record { can_open = can-open checked; is_tree = subst (λ f. IsTreeOfContent (content (geometry_of f) f) tree) is.words is_tree }

  pub same-numbers : (g : Geometry) → geometry_of (words_of d) ≡ g → g ≡ geometry_of (word_at bytes)
  same-numbers g numbers = sym numbers ∙ ap geometry_of is.words

-- a device that can be mounted breaks no rule
pub unbroken : (d : List Cell) → IsChecked (8 * length d) (words_of d) → (rule place : ℕ) → Breaks (8 * length d) (words_of d) rule place → ⊥
unbroken d checked rule place breaks = checked-unbroken (8 * length d) (words_of d) rule place checked breaks

-- a power that always lasts is on
pub still-on : (before after : Supply) → before ≡ record { given = None; taken = 0 } → after.given ≡ before.given → is_on after ≡ false → ⊥
still-on before after always same off =
    let lasts : after.given ≡ None = same ∙ ap (λ (p : Supply). p.given) always in
    let on : is_on after ≡ true = ap (λ g. is_left g after.taken) lasts in
    let f : ⊥ = cc (on, off) in
    f
