-- The two inodes of a move go over to their maps, one after the other.
use Rattle.std.specs.Prelude.{◌<◌, ℕ, List, length}
use Rattle.k_relink.specs.extent_model.declared.extent_words.Extent.{Extent}
use Rattle.k_plans.specs.image_model.Volume.{Volume, inode}
use Rattle.k_plans.specs.View.{TablesView}
use Rattle.k_plans.specs.k_split_model.MapChangesChanges.{with_length}
use Rattle.k_plans.specs.k_split_model.Taken.{switched}
use Rattle.k_plans.specs.k_split_model.declared.map_changes.moves.Move.{Move}
use Rattle.k_plans.specs.volume_change_laws.Switches.{MaySwitch}

-- the volume without the blocks that leave the staging file, and the one with them in the file
abbrev pub left_volume : Move → List Extent → List ℕ → Volume → Volume
left_volume m left rest v = switched m.staging (inode v m.staging) rest left v

abbrev pub moved_volume : Move → List Extent → List ℕ → List Extent → List ℕ → Volume → Volume
moved_volume m left rest linked blocks v =
    switched m.ino (with_length m.size m.applied (inode v m.ino)) blocks linked (left_volume m left rest v)

-- The staging file may go over to what is left, where `gone` is set aside then; and the file may go over to its map after it,
-- where `freed` is.
pub record MayGoBoth (m : Move) (t : TablesView) (left : List Extent) (rest gone : List ℕ) (linked : List Extent)
    (blocks freed : List ℕ) : Type 0 where
  pub staging : MaySwitch t.volume t.aside m.staging (inode t.volume m.staging) rest left gone
  pub file : MaySwitch (left_volume m left rest t.volume) gone m.ino (with_length m.size m.applied (inode t.volume m.ino)) blocks linked freed
  pub file_below : m.ino < length t.volume.inodes
