-- Holes of a file get blocks of zeros while writes are in flight, each law as one statement.
use Rattle.std.specs.Prelude.{◌≡◌, ◌≢◌, ◌≤◌, ◌+◌, ℕ, Bool, false, List, [], ◌∷◌, length, Ok}
use Rattle.fsync_relink.specs.world_write_laws.pm_model.declared.Cell.{Cell}
use Rattle.fsync_relink.specs.world_write_laws.pm_model.Images.{IsImage}
use Rattle.fsync_relink.specs.world_write_laws.pm_model.Words.{Words}
use Rattle.fsync_relink.specs.world_write_laws.layout_model.declared.lines.Draft.{Draft}
use Rattle.fsync_relink.specs.world_write_laws.layout_model.declared.lines.Kind.TheVariants.{File}
use Rattle.fsync_relink.specs.world_write_laws.extent_model.Extents.{disk_at, is_within}
use Rattle.fsync_relink.specs.world_write_laws.layout_model.Journal.{journaled}
use Rattle.fsync_relink.specs.world_write_laws.layout_model.Places.{Geometry, reserve}
use Rattle.fsync_relink.specs.world_write_laws.image_model.Reading.{Reads}
use Rattle.fsync_relink.specs.world_write_laws.image_model.Room.{unused_blocks}
use Rattle.fsync_relink.specs.world_write_laws.image_model.Volume.{chain, extents, inode, Volume}
use Rattle.fsync_relink.specs.world_write_laws.block_counts.Counts.{chains_for}
use Rattle.fsync_relink.specs.world_write_laws.k_split_model.MapChangesChanges.{holes}
use Rattle.fsync_relink.specs.world_write_laws.k_split_model.Stands.{Stands}
use Rattle.fsync_relink.specs.world_write_laws.k_split_model.View.{View}
use Rattle.fsync_relink.specs.world_write_laws.list_laws.Members.{In}
use Rattle.fsync_relink.specs.world_write_laws.posix_types.declared.call.Mode.{Mode}
use Rattle.fsync_relink.specs.world_write_laws.posix_types.declared.item.Item.{Item}
use Rattle.fsync_relink.specs.world_write_laws.posix_tables.Open.{Tables}
use Rattle.fsync_relink.specs.world_write_laws.posix_spec.Run.{Unfinished, run}
use Rattle.fsync_relink.specs.world_write_laws.posix_spec.State.{State}
use Rattle.fsync_relink.specs.world_write_laws.world_model.Jobs.{Job}
use Rattle.fsync_relink.specs.world_write_laws.world_step_laws.Worlds.{IsWorld}
use Rattle.fsync_relink.specs.world_write_laws.HolesLaws.{FillsHoles}
use Rattle.k_split_laws.specs.world_image_laws.Images.{HasRoom, StandsFor}
use Rattle.k_split_laws.specs.world_image_laws.Back.{IsKeptBack}
use Rattle.k_split_laws.specs.world_image_laws.LentLaws.{AreFound, LeadsTo, SameBlocks}
use Rattle.k_split_laws.specs.k_split.Filling.{IsFillAnswer, IsFilledWith}
use Rattle.k_split_laws.specs.k_split.Order.{IsInOrder}
use Rattle.k_split_laws.specs.k_plans.Whole.{IsWhole}
use Rattle.k_split_laws.specs.k_split.MapChanges.{IsMapCut}
use Rattle.live_model.specs.Losses.{KeepsWhenLost}
use Rattle.live_model.specs.Standing.{Kept, StandsAt}
use Rattle.live_step_laws.specs.Changes.{AreSpare, IsChangeWith}

-- ---- a change that writes spare blocks, if something is known of what they hold

-- of a valid World the change makes a valid one, by the words of each image of the device that reads as the new volume
abbrev pub TakesWhereRead : Volume → Volume → List Cell → List (ℕ × Draft) → List Job → List ℕ → List ℕ → State → State → ℕ → ℕ → Type 0
TakesWhereRead v w e claims jobs numbers after s new count later =
    (image : Words) → IsImage e image → Reads v.geometry (journaled image) w → IsWorld v claims jobs (journaled image) numbers s count → IsWorld w claims jobs (journaled image) after new later

-- DONE: the device stands for the state after the change.
abbrev pub ChangesDeviceRead : Type 0
ChangesDeviceRead =
    (blocks : List ℕ) (v w : Volume) (d e : List Cell) (claims : List (ℕ × Draft)) (jobs : List Job) (numbers after : List ℕ) (s new : State) (count later : ℕ)
    → StandsFor v d claims jobs numbers s count → IsChangeWith blocks v w d e → AreSpare blocks v
    → Stands w.geometry w e → HasRoom w claims jobs new → TakesWhereRead v w e claims jobs numbers after s new count later
    → StandsFor w e claims jobs after new later

-- CUT OFF: each image is kept, with the call as the last of the unfinished ones.
abbrev pub KeepsPromiseRead : Type 0
KeepsPromiseRead =
    (blocks : List ℕ) (v w : Volume) (d e : List Cell) (claims : List (ℕ × Draft)) (jobs : List Job) (numbers after : List ℕ) (s new : State) (start : State) (history : List Item) (count later : ℕ) (first : Words) (c : Unfinished)
    → start.mode ≢ Mode.Posix → AreFound start jobs → StandsFor v d claims jobs numbers s count
    → LeadsTo start history c jobs s → LeadsTo start history c jobs new
    → IsChangeWith blocks v w d e → AreSpare blocks v → SameBlocks v w jobs → HasRoom w claims jobs new
    → TakesWhereRead v w e claims jobs numbers after s new count later → IsKeptBack v e first claims jobs start history (c ∷ [])

-- ---- holes

-- What K-Split makes of the volume where it fills holes: blocks of zeros more, and the base stays. The free blocks that are gone are those and
-- what the chain has more, and its map has few extents more.
pub record FillsAs (ino first count : ℕ) (v w : Volume) (fresh : List ℕ) : Type 0 where
  pub fills : FillsHoles v w ino fresh
  pub each : length fresh ≡ length (holes (extents v ino) first count)
  pub outside : (m : ℕ) → is_within first count m ≡ false → disk_at (extents w ino) m ≡ disk_at (extents v ino) m
  pub base : w.base ≡ v.base
  pub counts : unused_blocks w + length (chain w ino) + length fresh ≡ unused_blocks v + length (chain v ino)
  pub chain_is : length (chain w ino) ≡ chains_for (length (extents w ino))
  pub extents_are : length (extents w ino) ≤ length (extents v ino) + count + 1

abbrev pub FillsAsAsked : Type 0
FillsAsAsked =
    (k : View) (ino first count : ℕ) (w : Volume) (blocks : List ℕ) (d : List Cell) → (is : IsFilledWith ino first count k d w blocks)
    → IsInOrder k → k.batched ≡ false → (inode k.volume ino).kind ≡ File → first + count ≤ 4096 → IsWhole w
    → FillsAs ino first count k.volume w is.fresh

-- no job that is out is of the file
abbrev pub AreOfOthers : ℕ → List Job → Type 0
AreOfOthers ino jobs = (j : Job) → In j jobs → j.draft.ino ≢ ino

-- THEY ARE FILLED: they stand together in the same state, where the blocks that all runs want are free still.
abbrev pub StandsFilled : Type 0
StandsFilled =
    (g : Geometry) (k l : View) (t : Tables) (kept : Kept) (lines : Bool) (n : ℕ) (s : State) (ino first count : ℕ)
    → (stands : StandsAt g k t kept lines n s) → (inode k.volume ino).kind ≡ File → AreOfOthers ino stands.jobs → first + count ≤ 4096
    → IsFillAnswer ino first count k l (Ok tt) → length kept.staging.out + reserve g ≤ unused_blocks l.volume + 3
    → (now : StandsAt g l t kept lines n s) × (now.jobs ≡ stands.jobs) × (now.numbers ≡ stands.numbers)

-- THE POWER WENT in it, in the call c.
abbrev pub KeepsFilledCut : Type 0
KeepsFilledCut =
    (g : Geometry) (k l : View) (t : Tables) (kept : Kept) (lines : Bool) (n : ℕ) (start : State) (history : List Item) (c : Unfinished) (ino first count : ℕ) (w : Volume) (blocks : List ℕ)
    → (stands : StandsAt g k t kept lines n (run start history)) → (inode k.volume ino).kind ≡ File → AreOfOthers ino stands.jobs → first + count ≤ 4096
    → IsFilledWith ino first count k l.cells w blocks → IsMapCut blocks w k l → length kept.staging.out + reserve g ≤ unused_blocks w + 3
    → KeepsWhenLost k.volume l.cells kept stands.jobs start history (c ∷ [])
