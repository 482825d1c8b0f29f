-- Each change of K-Split that the power cut off leaves a device so.
use Rattle.std.specs.Prelude.{◌≡◌, List, length, refl}
use Rattle.std.proofs.Common.{◌∙◌, subst}
use Rattle.k_split.specs.pm_model.declared.Cell.{Cell}
use Rattle.k_split.specs.pm_model.Frames.{SameLent}
use Rattle.k_split.specs.pm_model.Images.{IsImage}
use Rattle.k_split.specs.pm_model.Words.{Words}
use Rattle.k_split.specs.layout_model.Journal.{IsSound}
use Rattle.k_split.specs.layout_model.Places.{Geometry}
use Rattle.k_split.specs.image_model.Volume.{Volume}
use Rattle.k_split_laws.specs.Left.{IsLeftOf, LeavesCut, LeavesMapCut, LeavesOverwritten}

-- nothing was done to it
pub left_same : (g : Geometry) (d : List Cell) → ((image : Words) → IsImage d image → IsSound g image) → IsLeftOf g d d
left_same g d sound = record { size = refl; lent = λ i. refl; sound = sound }

-- a change behind others that were done
pub left_through : (g : Geometry) (d e f : List Cell) → length e ≡ length d → SameLent d e → IsLeftOf g e f → IsLeftOf g d f
left_through g d e f size lent is = record { size = is.size ∙ size; lent = λ i. is.lent i ∙ lent i; sound = is.sound }

-- a change of names and inodes
pub left_cut : LeavesCut
left_cut w k l cut =
    record { size = cut.changes.size; lent = cut.changes.lent; sound = λ image is. (cut.changes.each_image image is).2.sound }

-- a change of maps
pub left_map_cut : LeavesMapCut
left_map_cut blocks w k l cut =
    record { size = cut.changes.size; lent = cut.changes.lent; sound = λ image is. (cut.changes.each_image image is).2.sound }

-- bytes of a file that were written in place
pub left_overwritten : LeavesOverwritten
left_overwritten ino first bytes k l cut =
    record { size = cut.over.size; lent = cut.over.lent; sound = λ image is. (cut.over.each_image image is).2.sound }

-- K-Split committed all that it has
pub left_at : (v u : Volume) (d e : List Cell) → u ≡ v → IsLeftOf u.geometry d e → IsLeftOf v.geometry d e
left_at v u d e same is = subst (λ (x : Volume). IsLeftOf x.geometry d e) same is
