-- What a mount answers and leaves of an image whose log may have live entries.
use Rattle.std.specs.Prelude.{◌≡◌, ◌≤◌, ◌<◌, ◌*◌, ◌^◌, ℕ, true, false, List, length, Result, Ok, Err}
use Rattle.k_check.specs.pm_model.declared.Cell.{Cell}
use Rattle.k_check.specs.pm_model.Cells.{AllHome}
use Rattle.k_check.specs.pm_model.Images.{words_of}
use Rattle.k_check.specs.pm_model.Powers.{is_on, Supply}
use Rattle.k_check.specs.pm_model.Words.{Words}
use Rattle.k_check.specs.layout_model.Journal.{journaled}
use Rattle.k_check.specs.layout_model.Places.{Geometry}
use Rattle.k_check.specs.image_model.Broken.{Breaks}
use Rattle.k_check.specs.image_model.Checked.{IsCheckedAs}
use Rattle.k_check.specs.image_model.Content.{content}
use Rattle.k_check.specs.image_model.Rules.{geometry_of, IsChecked}
use Rattle.k_check.specs.image_model.Volume.{Volume, volume}
use Rattle.world_image_laws.specs.Images.{HasOldLines, HasNoEntry}
use Rattle.log_replay.specs.Sheds.{AllNamed, IsAtRest, StaysShown}
use Rattle.staging_files.specs.k_split_model.View.{View}
use Rattle.staging_files.specs.k_split.Laps.{next_base}
use Rattle.log_replay.specs.declared.mounting.faults.MountFault.{MountFault}
use Rattle.log_replay.specs.Resets.{IsLow}
use Rattle.log_replay.specs.Sweeps.{AreBare, EndsInTime}

-- the log's base of the next lap: it rises by the number of log lines, or, above 2^62, the log begins anew
pub record HasNextBase (v w : Volume) : Type 0 where
  pub risen : v.base ≤ 2 ^ 62 → w.base ≡ next_base v
  pub anew : 2 ^ 62 < v.base → w.base ≡ 1

-- WHAT A MOUNT LEAVES of an image: K-Split is at rest on a checked image with the same numbers and the same content. The names are
-- the same, each file has one and ends in time, and nothing is staged. The log began its next lap, no line of it is an entry of that lap or a later one, and no
-- file has applied a high order.
pub record IsMounted (g : Geometry) (image : Words) (k : View) : Type 0 where
  pub rest : IsAtRest k
  pub numbers : geometry_of (words_of k.cells) ≡ g
  pub checked : IsCheckedAs (4096 * g.blocks) (words_of k.cells) k.volume
  pub shows : (path : List (List ℕ)) → content g (words_of k.cells) path ≡ content g image path
  pub names : k.volume.names ≡ (volume g (journaled image)).names
  pub named : AllNamed k.volume
  pub short : (ino : ℕ) → EndsInTime k.volume ino
  pub bare : AreBare k.volume
  pub low : (ino : ℕ) → IsLow k.volume ino
  pub base : HasNextBase (volume g (journaled image)) k.volume
  pub no_entry : HasNoEntry k.volume (journaled (words_of k.cells))
  pub old_lines : HasOldLines k.volume (journaled (words_of k.cells))

-- WHAT THE POWER LEAVES OF A DEVICE where it goes: it has the blocks of the image, none of its words is lent, and each of its honest
-- images is checked and has the content of the image.
pub record IsLeft (g : Geometry) (image : Words) (left : List Cell) : Type 0 where
  pub size : length left ≡ 512 * g.blocks
  pub home : AllHome left
  pub shown : StaysShown g image left

-- What `mount` answers of a device, where it is one of a checked image.
abbrev pub IsOpenAnswer : Geometry → Words → Supply → Result View MountFault → Type 0
IsOpenAnswer g image after (Ok k) = IsMounted g image k × (is_on after ≡ true)
IsOpenAnswer g image after (Err (MountFault.Bad bad)) = ⊥
IsOpenAnswer g image after (Err (MountFault.PowerLost left)) = (is_on after ≡ false) × IsLeft g image left
IsOpenAnswer g image after (Err MountFault.NoMemory) = Unit {0}

-- WHAT `mount` ANSWERS of a device: mounted, with power left; or the power was lost; then the image is checked, and this is left. Or
-- the first rule that the image breaks, and nothing was done.
abbrev pub IsMountAnswer : List Cell → Supply → Supply → Result View MountFault → Type 0
IsMountAnswer pm before after (Ok k) =
    IsChecked (8 * length pm) (words_of pm) × IsMounted (geometry_of (words_of pm)) (words_of pm) k × (is_on after ≡ true)
IsMountAnswer pm before after (Err (MountFault.Bad bad)) = Breaks (8 * length pm) (words_of pm) bad.rule bad.place × (after ≡ before)
IsMountAnswer pm before after (Err (MountFault.PowerLost left)) =
    IsChecked (8 * length pm) (words_of pm) × (is_on after ≡ false) × IsLeft (geometry_of (words_of pm)) (words_of pm) left
IsMountAnswer pm before after (Err MountFault.NoMemory) = Unit {0}
