-- The mounts behind a run: what each begins with, and what it leaves.
use Rattle.std.specs.Prelude.{◌≡◌, ◌⊎◌, ◌*◌, ℕ, true, false, List, [], ◌∷◌, length, Some}
use Rattle.command_line.specs.pm_model.declared.Cell.{Cell}
use Rattle.command_line.specs.pm_model.Cells.{AllHome, AllSingle, cell}
use Rattle.command_line.specs.pm_model.Images.{IsImage, words_of}
use Rattle.command_line.specs.pm_model.Powers.{is_on, Supply}
use Rattle.command_line.specs.pm_model.Words.{Words}
use Rattle.command_line.specs.layout_model.Places.{Geometry}
use Rattle.split_machine.specs.image_model.Content.{content}
use Rattle.split_machine.specs.image_model.Honest.{IsHonest}
use Rattle.split_machine.specs.image_model.Rules.{geometry_of, IsChecked}
use Rattle.split_machine.specs.k_check.Crashes.{IsCrashImage}
use Rattle.split_machine.specs.k_split_model.View.{View}
use Rattle.split_machine.specs.Mounts.{IsLeft, IsMounted}
use Rattle.pm_lines.specs.declared.choices.Choice.{Choice}
use Rattle.split_top.specs.Devices.{CanMount}

-- The image is one of the device, and honest: that which a power loss leaves by the choice.
pub record IsChosenImage (g : Geometry) (choice : Choice) (d : List Cell) (image : Words) : Type 0 where
  pub is_image : IsImage d image
  pub is_honest : IsHonest g (cell d) image
  pub is_crash : IsCrashImage g choice d g.log image

-- A DEVICE THAT MAY LOSE ITS POWER: nothing of it is lent, and each honest image of it is a checked one with these numbers.
pub record CanCrash (g : Geometry) (d : List Cell) : Type 0 where
  pub size : length d ≡ 512 * g.blocks
  pub home : AllHome d
  pub checked : (image : Words) → IsImage d image → IsHonest g (cell d) image → IsChecked (4096 * g.blocks) image
  pub numbers : (image : Words) → IsImage d image → IsHonest g (cell d) image → geometry_of image ≡ g

-- THE DEVICE BY THE CHOICE: that of the image which a power loss leaves of a device.
pub record IsCrashed (g : Geometry) (choice : Choice) (d crashed : List Cell) : Type 0 where
  pub size : length crashed ≡ length d
  pub single : AllSingle crashed
  pub is_chosen : IsChosenImage g choice d (words_of crashed)

-- A DEVICE GOES ON FROM AN IMAGE: it can be mounted, and has the content of the image.
pub record GoesOn (g : Geometry) (image : Words) (d : List Cell) : Type 0 where
  pub mounts : CanMount g d
  pub same : (path : List (List ℕ)) → content g (words_of d) path ≡ content g image path

-- the power for so many steps lasted, and the mounted device goes on
pub record IsMountedWith (steps : ℕ) (d next : List Cell) : Type 0 where
  pub after : Supply
  pub given : after.given ≡ Some steps
  pub lasts : is_on after ≡ true
  pub k : View
  pub mounted : IsMounted (geometry_of (words_of d)) (words_of d) k
  pub is_next : next ≡ k.cells

-- it ran out, and the choice is applied to the device that the mount handed back
pub record IsCutMount (g : Geometry) (choice : Choice) (steps : ℕ) (d next : List Cell) : Type 0 where
  pub after : Supply
  pub given : after.given ≡ Some steps
  pub off : is_on after ≡ false
  pub left : List Cell
  pub is_left : IsLeft (geometry_of (words_of d)) (words_of d) left
  pub is_next : IsCrashed g choice left next

-- ONE MOUNT of a device with power for so many steps: this device goes on.
abbrev pub IsRemounted : Geometry → Choice → ℕ → List Cell → List Cell → Type 0
IsRemounted g choice steps d next = IsMountedWith steps d next ⊎ IsCutMount g choice steps d next

-- ONE MOUNT FOR EACH NUMBER, each of the device that went on: the first of the first one, and each other of what the one before left.
unfoldable pub AreRemounted : Geometry → Choice → List ℕ → List Cell → List Cell → Type 0
AreRemounted g choice [] d last = last ≡ d
AreRemounted g choice (steps ∷ again) d last = (next : List Cell) × IsRemounted g choice steps d next × AreRemounted g choice again next last
