-- What a mount takes away: staged blocks, and what maps have past the ends of files.
use Rattle.std.specs.Prelude.{◌≡◌, ◌⊎◌, ◌≤◌, ℕ, [], None, Ok}
use Rattle.block_counts.specs.Counts.{blocks_for}
use Rattle.layout_model.specs.declared.lines.Kind.TheVariants.{File}
use Rattle.k_check.specs.image_model.Volume.{extents, inode, Volume}
use Rattle.k_check.specs.extent_model.Extents.{disk_at}
use Rattle.k_split.specs.k_map_plans.Plans.{IsLiveFile}
use Rattle.staging_files.specs.k_split_model.View.{View}
use Rattle.staging_files.specs.k_split.MapChanges.{IsSizeAnswer}
use Rattle.staging_files.specs.Keeps.{IsStaging}
use Rattle.log_replay.specs.Quiet.{ShowsAsBefore}

-- ---- staged blocks

-- no staging file has a block
abbrev pub AreBare : Volume → Type 0
AreBare v = (x : ℕ) → IsStaging x → extents v x ≡ []

-- ALL STAGING FILES GAVE UP THEIR BLOCKS.
pub record AreUnstaged (old new : View) : Type 0 where
  pub shows : ShowsAsBefore old new
  pub bare : AreBare new.volume

-- ---- the ends of files

-- if the inode is a file, its map has no block past the end
abbrev pub EndsInTime : Volume → ℕ → Type 0
EndsInTime v ino = (inode v ino).kind ≡ File → (block : ℕ) → blocks_for (inode v ino).size ≤ block → disk_at (extents v ino) block ≡ None

-- ALL FILES END IN TIME; staging files have the blocks that they had.
pub record AreTrimmed (old new : View) : Type 0 where
  pub shows : ShowsAsBefore old new
  pub staged : (x : ℕ) → IsStaging x → extents new.volume x ≡ extents old.volume x
  pub short : (ino : ℕ) → EndsInTime new.volume ino

-- one file: it ended in time, and nothing was done; or it did not, and got its own length again
abbrev pub IsTrimmedOne : ℕ → View → View → Type 0
IsTrimmedOne ino old new =
    (EndsInTime old.volume ino × (new ≡ old))
    ⊎ ((¬ EndsInTime old.volume ino) × IsLiveFile ino old.volume × IsSizeAnswer ino (inode old.volume ino).size old new (Ok tt))

-- ---- both

-- NOTHING IS STAGED, AND ALL FILES END IN TIME.
pub record AreSwept (old new : View) : Type 0 where
  pub shows : ShowsAsBefore old new
  pub bare : AreBare new.volume
  pub short : (ino : ℕ) → EndsInTime new.volume ino
