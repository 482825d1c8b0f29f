-- The device that the bytes of an image become.
use Rattle.std.specs.Prelude.{◌≡◌, ◌*◌, ℕ, List, length}
use Rattle.command_line.specs.pm_model.declared.Cell.{Cell}
use Rattle.command_line.specs.pm_model.Cells.{AllSingle}
use Rattle.command_line.specs.pm_model.Images.{words_of}
use Rattle.command_line.specs.pm_model.Words.{word_at}
use Rattle.command_line.specs.layout_model.Places.{Geometry}
use Rattle.split_machine.specs.image_model.Rules.{geometry_of, IsChecked}

-- THE DEVICE OF AN IMAGE: it has the words of the bytes, each of them durable.
pub record IsDeviceOf (bytes : List ℕ) (d : List Cell) : Type 0 where
  pub size : 8 * length d ≡ length bytes
  pub single : AllSingle d
  pub words : words_of d ≡ word_at bytes

-- A DEVICE THAT CAN BE MOUNTED: its words are those of a checked image with these numbers, each of them durable.
pub record CanMount (g : Geometry) (d : List Cell) : Type 0 where
  pub checked : IsChecked (8 * length d) (words_of d)
  pub numbers : geometry_of (words_of d) ≡ g
  pub single : AllSingle d

-- AN IMAGE WAS OPENED: it became this device, which can be mounted.
pub record IsOpened (bytes : List ℕ) (g : Geometry) (d : List Cell) : Type 0 where
  pub device : IsDeviceOf bytes d
  pub mounts : CanMount g d
