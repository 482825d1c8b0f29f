-- What it asks for that the live entries of a log are carried out, and what that leaves.
use Rattle.std.specs.Prelude.{◌≡◌, ◌*◌, ℕ, true, false, List, [], Result, Ok, Err, alloc_error}
use Rattle.std.specs.declared.alloc.AllocError.{AllocError}
use Rattle.fsync_relink.specs.log_laws.pm_model.Images.{words_of}
use Rattle.fsync_relink.specs.log_laws.pm_model.Powers.{is_on, Supply}
use Rattle.fsync_relink.specs.log_laws.pm_model.Words.{Words}
use Rattle.layout_model.specs.declared.lines.Draft.{Draft}
use Rattle.fsync_relink.specs.log_laws.layout_model.Journal.{journaled}
use Rattle.fsync_relink.specs.log_laws.layout_model.Places.{Geometry}
use Rattle.fsync_relink.specs.log_laws.image_model.Checked.{IsCheckedAs}
use Rattle.fsync_relink.specs.log_laws.image_model.Content.{content}
use Rattle.fsync_relink.specs.log_laws.image_model.Live.{live_entries}
use Rattle.fsync_relink.specs.log_laws.image_model.Rules.{geometry_of, IsChecked}
use Rattle.fsync_relink.specs.log_laws.image_model.Volume.{inode}
use Rattle.k_split.specs.k_journal.declared.outcomes.Commit.{Commit}
use Rattle.log_replay.specs.Sheds.{IsAtRest}
use Rattle.fsync_relink.specs.log_laws.k_split_model.View.{View}
use Rattle.k_split.specs.declared.faults.KFault.{KFault}
use Rattle.fsync_relink.specs.log_laws.volume_laws.Footprint.{SameLog}
use Rattle.fsync_relink.specs.log_laws.Logs.{HasSameFiles}
use Rattle.fsync_relink.specs.log_laws.world_write_laws.Relinks.{SameLine}
use Rattle.fsync_relink.specs.log_laws.Orders.{AreInOrder}

-- what K-Split's device shows through its journal, and the entries of its log that are live
abbrev pub seen : View → Words
seen k = journaled (words_of k.cells)

abbrev pub live_in : View → List Draft
live_in k = live_entries k.volume (seen k)

-- WHAT IS ASKED FOR: K-Split is at rest, its device is a checked image with the numbers of its volume, and the entries are the live
-- ones, in their order.
pub record MayReplay (k : View) (ds : List Draft) : Type 0 where
  pub rest : IsAtRest k
  pub numbers : geometry_of (words_of k.cells) ≡ k.volume.geometry
  pub checked : IsCheckedAs (4096 * k.volume.geometry.blocks) (words_of k.cells) k.volume
  pub entries : AreInOrder (live_in k) ds

-- An image beside the one before: it is a checked image with the same numbers, and has the same log lines and the same content.
pub record ShowsTheSame (g : Geometry) (before image : Words) : Type 0 where
  pub numbers : geometry_of image ≡ g
  pub checked : IsChecked (4096 * g.blocks) image
  pub log : SameLog g (journaled before) (journaled image)
  pub same : content g image ≡ content g before

-- ALL ARE CARRIED OUT: K-Split is at rest on a checked image, of which no entry is live. The same names lead to the same files, of
-- which each has in its own line and map the length and the blocks that it had by the entries. Lines keep their kinds and
-- generations.
pub record IsReplayed (old new : View) : Type 0 where
  pub rest : IsAtRest new
  pub geometry : new.volume.geometry ≡ old.volume.geometry
  pub base : new.volume.base ≡ old.volume.base
  pub numbers : geometry_of (words_of new.cells) ≡ old.volume.geometry
  pub checked : IsCheckedAs (4096 * old.volume.geometry.blocks) (words_of new.cells) new.volume
  pub none : live_in new ≡ []
  pub files : HasSameFiles old.volume new.volume (seen old)
  pub lines : (ino : ℕ) → SameLine (inode old.volume ino) (inode new.volume ino)

-- what it takes of the power: all that is left exactly where it answers `PowerLost`
abbrev pub IsReplayPaid : Supply → Result Commit AllocError → Type 0
IsReplayPaid new (Ok Commit.Done) = is_on new ≡ true
IsReplayPaid new (Ok Commit.PowerLost) = is_on new ≡ false
IsReplayPaid new (Err e) = is_on new ≡ true

-- what it leaves where it is done
abbrev pub IsReplayAnswer : View → View → Result Commit AllocError → Type 0
IsReplayAnswer old new (Ok Commit.Done) = IsReplayed old new
IsReplayAnswer old new (Ok Commit.PowerLost) = Unit {0}
IsReplayAnswer old new (Err e) = Unit {0}

-- what is answered where K-Split did not make a change
abbrev pub stopped_by : KFault → Result Commit AllocError
stopped_by (KFault.Refused errno) = Err alloc_error
stopped_by (KFault.Room room) = Err alloc_error
stopped_by KFault.PowerLost = Ok Commit.PowerLost
stopped_by KFault.NoMemory = Err alloc_error
