-- What the publishing of one file leaves to others: what they ask for, and their entries in the log.
use Rattle.std.specs.Prelude.{◌≡◌, ◌≢◌, ◌≤◌, ◌+◌, ◌↔◌, ℕ, false, List, length, All, Some}
use Rattle.log_laws.specs.pm_model.Frames.{KeepsSingle, SameLent}
use Rattle.log_laws.specs.pm_model.Images.{Follows}
use Rattle.log_laws.specs.pm_model.Words.{Words}
use Rattle.log_laws.specs.layout_model.declared.lines.Draft.{Draft}
use Rattle.log_laws.specs.layout_model.Journal.{journaled}
use Rattle.log_laws.specs.layout_model.Places.{reserve}
use Rattle.log_laws.specs.image_model.Content.{content}
use Rattle.log_laws.specs.image_model.Live.{live_entries}
use Rattle.log_laws.specs.image_model.Volume.{extents, inode, Volume}
use Rattle.file_overlay.specs.extent_model.Extents.{disk_at}
use Rattle.file_overlay.specs.declared.runs.Run.{Run}
use Rattle.k_split.specs.k_map_plans.Plans.{IsStagingFile}
use Rattle.k_split.specs.k_split_model.View.{View}
use Rattle.k_split.specs.MapChanges.{free_blocks_in}
use Rattle.k_split.specs.Order.{IsInOrder}
use Rattle.log_laws.specs.list_laws.Members.{In}
use Rattle.log_laws.specs.Logs.{AreSound, HasSameFiles}
use Rattle.log_laws.specs.volume_laws.Footprint.{SameLog}
use Rattle.fsync_relink.specs.Logged.{IsLogged}
use Rattle.fsync_relink.specs.Publishes.{IsPublishDone, MayPublish, ShareNone}

-- no run of the one list shares a block with one of the other
abbrev pub AllApart : List Run → List Run → Type 0
AllApart runs rest = All (λ run. All (ShareNone run) rest) runs

-- ---- what others ask for

-- K-Split goes on: it is in order, with no open batch, and the power is on
pub record GoesOn (l : View) : Type 0 where
  pub order : IsInOrder l
  pub unbatched : l.batched ≡ false
  pub on : l.lost ≡ false

-- What stays, whichever file is published: K-Split goes on; the numbers, the log base and the kinds of inodes are as they were;
-- the same words are lent, and a word of one candidate has one; and what a staging file has of its blocks it had there.
pub record KeepsRest (k l : View) : Type 0 where
  pub goes_on : GoesOn l
  pub numbers : l.volume.geometry ≡ k.volume.geometry
  pub base : l.volume.base ≡ k.volume.base
  pub count : length l.volume.inodes ≡ length k.volume.inodes
  pub kinds : (i : ℕ) → (inode l.volume i).kind ≡ (inode k.volume i).kind
  pub lent : SameLent k.cells l.cells
  pub singles : KeepsSingle k.cells l.cells
  pub staged : (x b n : ℕ) → IsStagingFile x k.volume → disk_at (extents l.volume x) b ≡ Some n → disk_at (extents k.volume x) b ≡ Some n

-- Once a file is published, another one may be published as before; and so many more free blocks are left as there were beside
-- one for each run.
pub record LeavesRoom (ino : ℕ) (runs : List Run) (k l : View) : Type 0 where
  pub rest : KeepsRest k l
  pub others : (other size : ℕ) (rest : List Run) → other ≢ ino → AllApart runs rest → MayPublish other size rest k
      → length runs + length rest + reserve k.volume.geometry ≤ free_blocks_in k + 3 → MayPublish other size rest l
  pub room : (more : ℕ) → length runs + more + reserve k.volume.geometry ≤ free_blocks_in k + 3 → more + reserve l.volume.geometry ≤ free_blocks_in l + 3

abbrev pub LeavesOthers : Type 0
LeavesOthers =
    (ino size : ℕ) (runs : List Run) (k l : View) → GoesOn k → MayPublish ino size runs k → IsPublishDone ino size runs k l
    → LeavesRoom ino runs k l

-- ---- the entries of others

-- All live entries of a file are carried out: just those of others are live, they are as sound as before, and the same files
-- are shown.
pub record CarriesAllOut (ino : ℕ) (v w : Volume) (f : Words) : Type 0 where
  pub left : (e : Draft) → In e (live_entries w f) ↔ (In e (live_entries v f) × (e.ino ≢ ino))
  pub sound : AreSound w (live_entries w f)
  pub files : HasSameFiles v w f

-- An image of a publishing that is done, beside the image before: the log lines are the same, the entries of the file are carried
-- out, and the content is the same.
pub record IsPublishedIn (ino : ℕ) (v w : Volume) (before image : Words) : Type 0 where
  pub log : SameLog v.geometry (journaled before) (journaled image)
  pub out : CarriesAllOut ino v w (journaled before)
  pub same : content v.geometry image ≡ content v.geometry before

-- so it is where the log of the image before holds the runs
abbrev pub HasPublishedLog : ℕ → ℕ → List Run → Volume → Volume → Words → Words → Type 0
HasPublishedLog ino size runs v w before image = IsLogged ino size runs v (live_entries v (journaled before)) → IsPublishedIn ino v w before image

abbrev pub LeavesEntries : Type 0
LeavesEntries =
    (ino size : ℕ) (runs : List Run) (k l : View) → GoesOn k → MayPublish ino size runs k → IsPublishDone ino size runs k l
    → Follows (HasPublishedLog ino size runs k.volume l.volume) k.cells l.cells
