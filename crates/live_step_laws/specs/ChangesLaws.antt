-- Changes that write spare blocks, each law as one statement.
use Rattle.std.specs.Prelude.{◌≢◌, ℕ, List, [], ◌∷◌}
use Rattle.fsync_relink.specs.world_write_laws.pm_model.declared.Cell.{Cell}
use Rattle.fsync_relink.specs.world_write_laws.pm_model.Images.{IsImage}
use Rattle.fsync_relink.specs.world_write_laws.pm_model.Words.{Words}
use Rattle.fsync_relink.specs.world_write_laws.layout_model.declared.lines.Draft.{Draft}
use Rattle.fsync_relink.specs.world_write_laws.image_model.Volume.{Volume}
use Rattle.fsync_relink.specs.world_write_laws.k_split_model.Stands.{Stands}
use Rattle.fsync_relink.specs.world_write_laws.posix_types.declared.call.Mode.{Mode}
use Rattle.fsync_relink.specs.world_write_laws.posix_types.declared.item.Item.{Item}
use Rattle.fsync_relink.specs.world_write_laws.posix_spec.Run.{Unfinished}
use Rattle.fsync_relink.specs.world_write_laws.posix_spec.State.{State}
use Rattle.fsync_relink.specs.world_write_laws.world_model.Jobs.{Job}
use Rattle.k_split_laws.specs.world_image_laws.Images.{HasLogHome, HasRoom, IsHeaded, StandsFor}
use Rattle.k_split_laws.specs.world_image_laws.ImagesLaws.{Takes}
use Rattle.k_split_laws.specs.world_image_laws.Back.{IsKeptBack}
use Rattle.k_split_laws.specs.world_image_laws.LentLaws.{AreFound, LeadsTo, SameBlocks}
use Rattle.live_step_laws.specs.Changes.{AreSpare, IsChangeWith}

-- DONE: the device stands for the state after the change.
abbrev pub ChangesDeviceWith : Type 0
ChangesDeviceWith =
    (blocks : List ℕ) (v w : Volume) (d e : List Cell) (claims : List (ℕ × Draft)) (jobs : List Job)
    (numbers after : List ℕ) (s new : State) (count later : ℕ) → StandsFor v d claims jobs numbers s count
    → IsChangeWith blocks v w d e
    → AreSpare blocks v → Stands w.geometry w e → HasRoom w claims jobs new
    → Takes v w claims jobs numbers after s new count later → StandsFor w e claims jobs after new later

-- Log lines that are at home show what they showed.
abbrev pub KeepsLogHomeWith : Type 0
KeepsLogHomeWith =
    (blocks : List ℕ) (v w : Volume) (d e : List Cell) (claims : List (ℕ × Draft))
    → ((image : Words) → IsImage d image → IsHeaded v.geometry image) → IsChangeWith blocks v w d e → AreSpare blocks v
    → HasLogHome v d claims
    → HasLogHome w e claims

-- CUT OFF, in the first change of a call or a later one: whether the change is on the medium or not, the call may
-- stand as the last of the unfinished ones.
abbrev pub KeepsPromiseWith : Type 0
KeepsPromiseWith =
    (blocks : List ℕ) (v w : Volume) (d e : List Cell) (claims : List (ℕ × Draft)) (jobs : List Job)
    (numbers after : List ℕ) (s new : State) (start : State) (history : List Item) (count later : ℕ)
    (first : Words) (c : Unfinished)
    → start.mode ≢ Mode.Posix → AreFound start jobs → StandsFor v d claims jobs numbers s count
    → LeadsTo start history c jobs s → LeadsTo start history c jobs new
    → IsChangeWith blocks v w d e → AreSpare blocks v → SameBlocks v w jobs → HasRoom w claims jobs new
    → Takes v w claims jobs numbers after s new count later
    → IsKeptBack v e first claims jobs start history (c ∷ [])
