-- When nothing of a file lies past its end.
use Rattle.std.specs.Prelude.{◌≡◌, ◌≤◌, ◌+◌, ℕ, [], None}
use Rattle.file_table.specs.block_counts.Counts.{blocks_for}
use Rattle.file_table.specs.layout_model.declared.lines.Draft.{Draft}
use Rattle.file_table.specs.layout_model.declared.lines.Kind.TheVariants.{File, Free}
use Rattle.log_checkpoint.specs.k_plans.image_model.Volume.{extents, inode, Volume}
use Rattle.file_table.specs.extent_model.Extents.{disk_at}
use Rattle.file_table.specs.file_overlay.declared.runs.Run.{Run}
use Rattle.file_table.specs.Files.{Files, runs_in, size_in}
use Rattle.log_checkpoint.specs.list_laws.Members.{In}

-- NOTHING OF A FILE LIES PAST ITS END, which the size that is kept says: no block of its map, and no block of a run that is staged
-- of it.
pub record FilesEnd (v : Volume) (files : Files) : Type 0 where
  pub maps : (ino block : ℕ) → (inode v ino).kind ≡ File → blocks_for (size_in files ino) ≤ block → disk_at (extents v ino) block ≡ None
  pub runs : (ino : ℕ) (run : Run) → In run (runs_in files ino) → run.file_block + run.count ≤ blocks_for (size_in files ino)

-- nor of an entry
abbrev pub DraftEnds : Draft → Type 0
DraftEnds d = d.file_block + d.count ≤ blocks_for d.size

-- a free inode has no map
abbrev pub FreeHaveNone : Volume → Type 0
FreeHaveNone v = (ino : ℕ) → (inode v ino).kind ≡ Free → extents v ino ≡ []
