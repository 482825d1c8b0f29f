-- What a power loss leaves of a device of which words are lent.
use Rattle.std.specs.Prelude.{◌≡◌, ℕ, List, length}
use Rattle.k_split.specs.pm_model.declared.Cell.{Cell}
use Rattle.k_split.specs.pm_model.Frames.{SameLent}
use Rattle.k_split.specs.pm_model.Images.{IsImage}
use Rattle.k_split.specs.pm_model.Words.{Words}
use Rattle.k_split.specs.layout_model.Journal.{IsSound}
use Rattle.k_split.specs.layout_model.Places.{Geometry}
use Rattle.k_split.specs.image_model.Volume.{Volume}
use Rattle.k_split.specs.k_split_model.View.{View}
use Rattle.k_split.specs.Answers.{IsCut}
use Rattle.k_split.specs.Bytes.{IsOverwriteCut}
use Rattle.k_split.specs.MapChanges.{IsMapCut}

-- THE DEVICE IS LEFT OF ANOTHER: it has its size, the same words are lent, and the journal of each image can be recovered.
pub record IsLeftOf (g : Geometry) (d e : List Cell) : Type 0 where
  pub size : length e ≡ length d
  pub lent : SameLent d e
  pub sound : (image : Words) → IsImage e image → IsSound g image

-- So it is where the power cut off a change of names and inodes, one of maps, or bytes of a file that were written in place.
abbrev pub LeavesCut : Type 0
LeavesCut = (w : Volume) (k l : View) → IsCut w k l → IsLeftOf k.committed.geometry k.cells l.cells

abbrev pub LeavesMapCut : Type 0
LeavesMapCut = (blocks : List ℕ) (w : Volume) (k l : View) → IsMapCut blocks w k l → IsLeftOf k.committed.geometry k.cells l.cells

abbrev pub LeavesOverwritten : Type 0
LeavesOverwritten = (ino first : ℕ) (bytes : List ℕ) (k l : View) → IsOverwriteCut ino first bytes k l → IsLeftOf k.committed.geometry k.cells l.cells
