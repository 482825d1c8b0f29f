-- Volumes of which some nameless files are gone, and what is left of a device that is settled.
use Rattle.std.specs.Prelude.{◌≡◌, ◌⊎◌, ◌≤◌, ◌/◌, ◌*◌, ℕ, false, List, [], length}
use Rattle.world_image_laws.specs.pm_model.declared.Cell.{Cell}
use Rattle.world_image_laws.specs.pm_model.declared.Cell.TheVariants.{Single}
use Rattle.world_image_laws.specs.pm_model.Cells.{AllSingle, cell}
use Rattle.world_image_laws.specs.pm_model.Frames.{SameLent}
use Rattle.world_image_laws.specs.pm_model.Images.{IsImage, words_of}
use Rattle.world_image_laws.specs.pm_model.Words.{Words}
use Rattle.world_image_laws.specs.layout_model.Journal.{is_journal_word, journaled}
use Rattle.world_image_laws.specs.layout_model.Places.{Geometry, is_journaled_line}
use Rattle.world_image_laws.specs.layout_model.declared.lines.Kind.TheVariants.{File}
use Rattle.world_image_laws.specs.layout_model.Names.{names_of}
use Rattle.world_image_laws.specs.image_model.Checked.{IsCheckedAs}
use Rattle.world_image_laws.specs.image_model.Content.{content}
use Rattle.world_image_laws.specs.image_model.Honest.{IsHonest}
use Rattle.world_image_laws.specs.image_model.Live.{live_entries}
use Rattle.world_image_laws.specs.image_model.Reading.{base_set}
use Rattle.world_image_laws.specs.image_model.Room.{unused_blocks}
use Rattle.world_image_laws.specs.image_model.Rules.{geometry_of, IsChecked}
use Rattle.world_image_laws.specs.image_model.Volume.{chain, extents, inode, Volume, volume}
use Rattle.k_split.specs.k_journal.declared.outcomes.Commit.{Commit}
use Rattle.world_image_laws.specs.k_split_model.ChangesChanges.{dropped, gone_node}
use Rattle.world_image_laws.specs.k_split_model.View.{View}
use Rattle.k_split.specs.Answers.{IsCut, IsOff}
use Rattle.k_split.specs.Laps.{IsLogWord}
use Rattle.k_split.specs.Order.{IsInOrder}
use Rattle.world_image_laws.specs.Images.{HasNoEntry, HasOldLines}
use Rattle.log_replay.specs.NextLaps.{IsNextLap}

-- a file to which no name leads
pub record IsNameless (v : Volume) (ino : ℕ) : Type 0 where
  pub file : (inode v ino).kind ≡ File
  pub nameless : names_of v.names ino ≡ 0

-- each file has a name
abbrev pub AllNamed : Volume → Type 0
AllNamed v = (ino : ℕ) → (inode v ino).kind ≡ File → 1 ≤ names_of v.names ino

-- the inode is as it was; or it was a file without a name, and is free: its line keeps the generation, and it has no block
pub record IsKeptAt (v w : Volume) (ino : ℕ) : Type 0 where
  pub line : inode w ino ≡ inode v ino
  pub chain_is : chain w ino ≡ chain v ino
  pub map : extents w ino ≡ extents v ino

pub record IsShedAt (v w : Volume) (ino : ℕ) : Type 0 where
  pub was : IsNameless v ino
  pub line : inode w ino ≡ gone_node (inode v ino)
  pub chain_is : chain w ino ≡ []
  pub map : extents w ino ≡ []

-- SOME NAMELESS FILES ARE GONE, and nothing else differs.
pub record Sheds (v w : Volume) : Type 0 where
  pub geometry : w.geometry ≡ v.geometry
  pub base : w.base ≡ v.base
  pub names : w.names ≡ v.names
  pub inode_count : length w.inodes ≡ length v.inodes
  pub chain_count : length w.chains ≡ length v.chains
  pub map_count : length w.maps ≡ length v.maps
  pub each : (ino : ℕ) → IsKeptAt v w ino ⊎ IsShedAt v w ino

-- K-Split at rest: in order, the power on, each change committed at once, and all words single.
pub record IsAtRest (k : View) : Type 0 where
  pub order : IsInOrder k
  pub unbatched : k.batched ≡ false
  pub on : k.lost ≡ false
  pub single : AllSingle k.cells

-- WHAT IT ASKS FOR THAT A DEVICE IS SETTLED: K-Split is at rest on a checked image with the numbers of its volume, and no entry of
-- its log is live.
pub record MaySettle (k : View) : Type 0 where
  pub rest : IsAtRest k
  pub numbers : geometry_of (words_of k.cells) ≡ k.volume.geometry
  pub checked : IsChecked (4096 * k.volume.geometry.blocks) (words_of k.cells)
  pub dead : live_entries k.volume (journaled (words_of k.cells)) ≡ []

-- outside the journal and the lines that it may hold each cell is as it was
abbrev pub SameOutside : Geometry → List Cell → List Cell → Type 0
SameOutside g old new = (i : ℕ) → is_journal_word i ≡ false → is_journaled_line g (i / 8) ≡ false → cell new i ≡ cell old i

-- one inode: it was no nameless file, and nothing was done; or it was one, and is gone
abbrev pub IsShedOne : ℕ → View → View → Type 0
IsShedOne ino old new =
    ((¬ IsNameless old.volume ino) × (new ≡ old))
    ⊎ (IsNameless old.volume ino × IsAtRest new × (new.volume ≡ dropped ino old.volume) × SameOutside old.volume.geometry old.cells new.cells)

-- the power went while one was dropped, or before
abbrev pub IsShedCut : ℕ → View → View → Type 0
IsShedCut ino old new = IsNameless old.volume ino × (IsOff old new ⊎ IsCut (dropped ino old.volume) old new)

-- ALL NAMELESS FILES ARE GONE, and their blocks are free.
pub record LosesNameless (old new : View) : Type 0 where
  pub rest : IsAtRest new
  pub named : AllNamed new.volume
  pub sheds : Sheds old.volume new.volume
  pub free : unused_blocks old.volume ≤ unused_blocks new.volume
  pub others : SameOutside old.volume.geometry old.cells new.cells

-- where it is done
abbrev pub OnCommit : Commit → Type 0 → Type 0
OnCommit Commit.Done P = P
OnCommit Commit.PowerLost P = Unit {0}

-- where the power went
abbrev pub OnLost : Commit → Type 0 → Type 0
OnLost Commit.Done P = Unit {0}
OnLost Commit.PowerLost P = P

-- The device has as many words as before, and the same of them are lent.
pub record IsSameDevice (old new : List Cell) : Type 0 where
  pub size : length new ≡ length old
  pub lent : SameLent old new

-- An image beside one before: it is a checked image with the same numbers and the same content.
pub record StillShows (g : Geometry) (before image : Words) : Type 0 where
  pub numbers : geometry_of image ≡ g
  pub checked : IsChecked (4096 * g.blocks) image
  pub same : (path : List (List ℕ)) → content g image path ≡ content g before path

-- each honest image of a device still shows what the image before did
abbrev pub StaysShown : Geometry → Words → List Cell → Type 0
StaysShown g before d = (image : Words) → IsImage d image → IsHonest g (cell d) image → StillShows g before image

-- WHAT IS LEFT OF A DEVICE, beside an image that it showed: K-Split is at rest, each file has a name, and nothing but nameless files
-- is gone. The next lap of the log began, and no line of it is an entry of it or a later one. The device is a checked image, with the content of the one
-- before, and no word of a data block changed.
pub record IsSettled (g : Geometry) (image : Words) (k : View) : Type 0 where
  pub rest : IsAtRest k
  pub named : AllNamed k.volume
  pub sheds : Sheds (base_set k.volume.base (volume g (journaled image))) k.volume
  pub lap : IsNextLap (volume g (journaled image)) image k
  pub no_entry : HasNoEntry k.volume (journaled (words_of k.cells))
  pub old_lines : HasOldLines k.volume (journaled (words_of k.cells))
  pub shows : (path : List (List ℕ)) → content g (words_of k.cells) path ≡ content g image path
  pub numbers : geometry_of (words_of k.cells) ≡ g
  pub checked : IsCheckedAs (4096 * g.blocks) (words_of k.cells) k.volume
  pub words : (i : ℕ) → is_journal_word i ≡ false → is_journaled_line g (i / 8) ≡ false → ¬ IsLogWord (volume g (journaled image)) i
      → cell k.cells i ≡ Single (image i)
