-- Bytes in place: what is asked of the change.
use Rattle.std.specs.Prelude.{◌≡◌, ◌≢◌, ◌<◌, ◌+◌, ◌*◌, ◌/◌, ℕ, true, List, length, Some, slice_index}
use Rattle.world_step_laws.specs.world_model.pm_model.Words.{byte_of, Words}
use Rattle.world_step_laws.specs.world_model.layout_model.Places.{is_data_block}
use Rattle.world_step_laws.specs.world_model.layout_model.declared.lines.Draft.{Draft}
use Rattle.world_step_laws.specs.world_model.layout_model.declared.lines.Kind.TheVariants.{File}
use Rattle.world_step_laws.specs.world_model.image_model.Content.{byte_in, disk_of, size_of}
use Rattle.world_step_laws.specs.world_model.image_model.Volume.{inode, Volume}
use Rattle.world_step_laws.specs.world_model.Stands.{IsUsed}

-- Words change in blocks of one file alone, which then has these bytes, as many as before.
pub record WritesInPlace (v : Volume) (live : List Draft) (f g : Words) (ino : ℕ) (bytes : List ℕ) : Type 0 where
  pub file : (inode v ino).kind ≡ File
  pub size : size_of v live ino ≡ length bytes
  pub each : (i : ℕ) → i < length bytes → byte_in g (disk_of v live ino (i / 4096)) i ≡ slice_index bytes i
  pub others : (b i : ℕ) → is_data_block v.geometry b ≡ true → i < 4096 → ((block : ℕ) → disk_of v live ino block ≢ Some b)
      → byte_of g (4096 * b + i) ≡ byte_of f (4096 * b + i)

-- The file then has these bytes, as many as before, and in blocks that another file has no word changes. (Where a block is in two
-- standings of files with two copies, both may be written: what is the other copy in the one is no file's block in the other.)
pub record WritesBeside (v : Volume) (live : List Draft) (f g : Words) (ino : ℕ) (bytes : List ℕ) : Type 0 where
  pub file : (inode v ino).kind ≡ File
  pub size : size_of v live ino ≡ length bytes
  pub each : (i : ℕ) → i < length bytes → byte_in g (disk_of v live ino (i / 4096)) i ≡ slice_index bytes i
  pub others : (j block b i : ℕ) → IsUsed v j → j ≢ ino → disk_of v live j block ≡ Some b → i < 4096 → byte_of g (4096 * b + i) ≡ byte_of f (4096 * b + i)
