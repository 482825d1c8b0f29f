-- Live entries of a log that are carried out one by one, and what stays where one is.
use Rattle.std.specs.Prelude.{◌≡◌, ◌≢◌, ◌⊎◌, ◌<◌, ◌↔◌, ℕ, List}
use Rattle.world_write_laws.specs.pm_model.Words.{Words}
use Rattle.world_write_laws.specs.layout_model.declared.lines.Draft.{Draft}
use Rattle.world_write_laws.specs.layout_model.declared.lines.Kind.TheVariants.{File, Staging}
use Rattle.world_write_laws.specs.image_model.Content.{disk_of, size_of}
use Rattle.world_write_laws.specs.image_model.Live.{live_entries}
use Rattle.world_write_laws.specs.image_model.Rules.{AreApart, HasStagingBlocks}
use Rattle.world_write_laws.specs.image_model.Volume.{inode, Volume}
use Rattle.world_write_laws.specs.list_laws.Members.{In}

-- THE LIVE ENTRIES ARE SOUND: their blocks are in staging files, no two share one, and no two of one file have one order.
pub record AreSound (v : Volume) (live : List Draft) : Type 0 where
  pub staging : (d : Draft) → In d live → (inode v d.staging).kind ≡ Staging
  pub staged : (d : Draft) → In d live → HasStagingBlocks v d
  pub apart : (d e : Draft) → In d live → In e live → (d ≡ e) ⊎ AreApart d e
  pub orders : (d e : Draft) → In d live → In e live → d.ino ≡ e.ino → d.order ≡ e.order → d ≡ e

-- The entry is the next one of its file: all others of the file come later. Where there is no other, the file has its size in w.
pub record IsNext (w : Volume) (live : List Draft) (d : Draft) : Type 0 where
  pub there : In d live
  pub first : (e : Draft) → In e live → e.ino ≡ d.ino → (d ≡ e) ⊎ (d.order < e.order)
  pub size : ((e : Draft) → In e live → e.ino ≡ d.ino → d ≡ e) → (inode w d.ino).size ≡ d.size

-- The two volumes show the same files, each with the entries that are live in it: the same names lead to the same kinds, and
-- each file has the same length and in each file block the same disk block.
pub record HasSameFiles (v w : Volume) (f : Words) : Type 0 where
  pub names : w.names ≡ v.names
  pub kind : (ino : ℕ) → (inode w ino).kind ≡ (inode v ino).kind
  pub size : (ino : ℕ) → (inode v ino).kind ≡ File → size_of w (live_entries w f) ino ≡ size_of v (live_entries v f) ino
  pub disk : (ino block : ℕ) → (inode v ino).kind ≡ File
      → disk_of w (live_entries w f) ino block ≡ disk_of v (live_entries v f) ino block

-- The entry is carried out: just the others are live, they are as sound as before, and the same files are shown.
pub record CarriesOut (v w : Volume) (f : Words) (d : Draft) : Type 0 where
  pub left : (e : Draft) → In e (live_entries w f) ↔ (In e (live_entries v f) × (d ≢ e))
  pub sound : AreSound w (live_entries w f)
  pub files : HasSameFiles v w f

-- nothing is live in the staging file
abbrev pub IsDeadIn : Volume → Words → ℕ → Type 0
IsDeadIn v f staging = (d : Draft) → In d (live_entries v f) → d.staging ≢ staging
