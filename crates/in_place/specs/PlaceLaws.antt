-- One piece of bytes in place, in the map of a file or in a staging file, each law as one statement.
use Rattle.std.specs.Prelude.{◌≡◌, ◌<◌, ◌≤◌, ◌+◌, ◌++◌, ◌/◌, ◌%◌, ℕ, Bool, List, length, IsSome, slice_index}
use Rattle.live_step_laws.specs.k_split_laws.pm_model.declared.Cell.{Cell}
use Rattle.live_step_laws.specs.k_split_laws.pm_model.Images.{Follows}
use Rattle.live_step_laws.specs.k_split_laws.extent_model.Extents.{disk_at}
use Rattle.live_step_laws.specs.k_split_laws.layout_model.declared.lines.Draft.{Draft}
use Rattle.live_step_laws.specs.k_split_laws.layout_model.declared.lines.Kind.TheVariants.{File}
use Rattle.live_step_laws.specs.k_split_laws.layout_model.Places.{Geometry}
use Rattle.live_step_laws.specs.k_split_laws.image_model.Content.{disk_of}
use Rattle.live_step_laws.specs.k_split_laws.image_model.Volume.{extents, inode, Volume}
use Rattle.live_step_laws.specs.k_split_laws.k_split_model.View.{View}
use Rattle.live_step_laws.specs.k_split_laws.k_split.Bytes.{IsOverwriteCut, IsOverwriteDone, Overwrites}
use Rattle.live_step_laws.specs.k_split_laws.posix_types.declared.item.Item.{Item}
use Rattle.live_step_laws.specs.k_split_laws.posix_tables.Bytes.{overwritten}
use Rattle.live_step_laws.specs.k_split_laws.posix_tables.Open.{Tables}
use Rattle.live_step_laws.specs.k_split_laws.posix_spec.Run.{run}
use Rattle.live_step_laws.specs.k_split_laws.posix_spec.State.{State}
use Rattle.live_step_laws.specs.world_model.Jobs.{Job, live_claims}
use Rattle.live_step_laws.specs.world_image_laws.Back.{IsKeptBackAmong}
use Rattle.write_plan.specs.live_model.file_table.Files.{Files}
use Rattle.write_plan.specs.live_model.Standing.{Kept, StandsAt}
use Rattle.in_place.specs.Holes.{IsPresent}
use Rattle.in_place.specs.Placing.{Placing, PlacesOn, SameBeside}

-- SO MANY BYTES OF A FILE LIE HERE: from one of the file on they are those of inode x from another on, by its map. The inode is the file, or a staging
-- file that has their block for an entry.
pub record LieAt (v : Volume) (live : List Draft) (ino at count x place : ℕ) : Type 0 where
  pub below : x < length v.inodes
  pub offset : place % 4096 ≡ at % 4096
  pub same : (i : ℕ) → i < count → disk_of v live ino ((at + i) / 4096) ≡ disk_at (extents v x) ((place + i) / 4096)
  pub some : (i : ℕ) → i < count → IsSome (disk_at (extents v x) ((place + i) / 4096))

-- A PIECE IS WRITTEN: the call came further by it.
abbrev pub PieceIsPlaced : Type 0
PieceIsPlaced =
    (k l : View) (t : Tables) (files : Files) (ino at x place : ℕ) (now bytes : List ℕ) (p : Placing k t files ino now)
    → LieAt k.volume (live_claims k.volume p.kept.claims) ino at (length bytes) x place → at + length bytes ≤ length now
    → ((i : ℕ) → i < length bytes → slice_index p.f.whole (at + i) ≡ slice_index bytes i)
    → IsOverwriteDone x place bytes k l → PlacesOn k t files ino now p l (overwritten now at bytes)

-- THE POWER WENT in it.
abbrev pub PieceIsCut : Type 0
PieceIsCut =
    (k l : View) (t : Tables) (files : Files) (ino at x place : ℕ) (now bytes : List ℕ) (p : Placing k t files ino now) (start : State) (history : List Item) (a b : List Job)
    → LieAt k.volume (live_claims k.volume p.kept.claims) ino at (length bytes) x place → at + length bytes ≤ length now
    → ((i : ℕ) → i < length bytes → slice_index p.f.whole (at + i) ≡ slice_index bytes i)
    → p.s ≡ run start history → p.stands.jobs ≡ a ++ b → IsOverwriteCut x place bytes k l
    → IsKeptBackAmong k.volume l.cells p.kept.first p.kept.claims a p.f.begun b start history

-- OR IT WENT BEFORE: no cell was touched.
abbrev pub PieceIsOff : Type 0
PieceIsOff =
    (k l : View) (t : Tables) (files : Files) (ino : ℕ) (now : List ℕ) (p : Placing k t files ino now) (start : State) (history : List Item) (a b : List Job)
    → p.s ≡ run start history → p.stands.jobs ≡ a ++ b → l.cells ≡ k.cells
    → IsKeptBackAmong k.volume l.cells p.kept.first p.kept.claims a p.f.begun b start history

-- WHAT A FILE HAS IS WHERE ITS CONTENT IS READ, and the other way.
abbrev pub PresentIsFound : Type 0
PresentIsFound =
    (g : Geometry) (k : View) (t : Tables) (kept : Kept) (lines : Bool) (n : ℕ) (s : State) (ino block : ℕ)
    → StandsAt g k t kept lines n s → (inode k.volume ino).kind ≡ File
    → (IsPresent k.volume kept.files ino block → IsSome (disk_of k.volume (live_claims k.volume kept.claims) ino block))
    × (IsSome (disk_of k.volume (live_claims k.volume kept.claims) ino block) → IsPresent k.volume kept.files ino block)

-- DONE OR CUT OFF, each byte of other blocks is as it was.
abbrev pub PieceLeaves : Type 0
PieceLeaves =
    (k : View) (cells : List Cell) (t : Tables) (files : Files) (ino at x place : ℕ) (now bytes : List ℕ) (p : Placing k t files ino now)
    → LieAt k.volume (live_claims k.volume p.kept.claims) ino at (length bytes) x place → Overwrites k.committed k.volume x place bytes k.cells cells
    → Follows (SameBeside k.volume (live_claims k.volume p.kept.claims) ino at (length bytes)) k.cells cells
