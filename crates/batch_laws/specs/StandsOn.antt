-- What stands together in POSIX mode goes on to, behind a change of names that gathers or a call that changes nothing.
use Rattle.std.specs.Prelude.{◌≡◌, ◌≢◌, ◌≤◌, ℕ, true, List, ◌++◌, Option, Some}
use Rattle.eof_laws.specs.Ends.{FilesEnd}
use Rattle.eof_laws.specs.live_model.pm_model.Frames.{KeepsSingle, SameLent}
use Rattle.eof_laws.specs.live_model.layout_model.Places.{Geometry}
use Rattle.eof_laws.specs.live_model.layout_model.declared.lines.Kind.TheVariants.{File, Staging}
use Rattle.eof_laws.specs.live_model.image_model.Volume.{extents, inode}
use Rattle.eof_laws.specs.live_model.k_split_model.View.{View}
use Rattle.eof_laws.specs.live_model.commute_laws.posix_types.declared.item.Item.{Item}
use Rattle.eof_laws.specs.live_model.open_files.Numbered.{numbered_as}
use Rattle.eof_laws.specs.live_model.posix_tables.Open.{is_open, Tables}
use Rattle.eof_laws.specs.live_model.posix_laws.Orders.{AreOrdered}
use Rattle.eof_laws.specs.live_model.posix_spec.Run.{run}
use Rattle.eof_laws.specs.live_model.posix_spec.State.{State}
use Rattle.eof_laws.specs.live_model.world_model.Stands.{number}
use Rattle.eof_laws.specs.live_model.Standing.{Kept}
use Rattle.batch_laws.specs.Ready.{GoesReady}
use Rattle.batch_laws.specs.Together.{PosixStandsAt}

-- Files, staging files and their maps are as they were: at most one inode differs, which was neither; the lap stays, and the same words
-- are lent.
pub record LeavesFiles (touched : Option ℕ) (k l : View) : Type 0 where
  pub lent : SameLent k.cells l.cells
  pub singles : KeepsSingle k.cells l.cells
  pub geometry : l.volume.geometry ≡ k.volume.geometry
  pub base : l.volume.base ≡ k.volume.base
  pub others : (ino : ℕ) → touched ≢ Some ino → inode l.volume ino ≡ inode k.volume ino
  pub file : (ino : ℕ) → touched ≡ Some ino → (inode k.volume ino).kind ≢ File
  pub staging : (ino : ℕ) → touched ≡ Some ino → (inode k.volume ino).kind ≢ Staging
  pub applied : (ino : ℕ) → (inode l.volume ino).applied ≤ (inode k.volume ino).applied
  pub maps : (ino : ℕ) → extents l.volume ino ≡ extents k.volume ino

-- What is so of the calls' state, of the open files and of the ends of files.
pub record IsNext (l : View) (t : Tables) (kept : Kept) (numbers : List ℕ) (s : State) : Type 0 where
  pub tables : s.tables ≡ numbered_as (number numbers) t
  pub open_are_files : (ino : ℕ) → is_open t ino ≡ true → (inode l.volume ino).kind ≡ File
  pub ordered : AreOrdered s.entries
  pub ends : FilesEnd l.volume kept.files

-- THEY STAND TOGETHER where the device goes on.
abbrev pub FilesStandOn : Type 0
FilesStandOn =
    (g : Geometry) (k l : View) (t t2 : Tables) (kept : Kept) (n m count : ℕ) (numbers : List ℕ) (start : State) (history more : List Item) (touched : Option ℕ)
    → PosixStandsAt g k t kept true n start history → LeavesFiles touched k l → GoesReady g l kept.files count numbers start (history ++ more) → count ≤ m → n ≤ m
    → IsNext l t2 kept numbers (run start (history ++ more)) → PosixStandsAt g l t2 kept true m start (history ++ more)
