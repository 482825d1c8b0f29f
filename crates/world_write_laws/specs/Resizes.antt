-- A file of which nothing is live has another map and another size: what is asked of the change.
use Rattle.std.specs.Prelude.{◌≡◌, ◌≢◌, ◌<◌, ◌/◌, ℕ, List, length, slice_index}
use Rattle.world_step_laws.specs.world_model.pm_model.Words.{Words}
use Rattle.world_step_laws.specs.world_model.extent_model.Extents.{disk_at}
use Rattle.world_step_laws.specs.world_model.layout_model.declared.lines.Kind.TheVariants.{File}
use Rattle.world_step_laws.specs.world_model.image_model.Content.{byte_in}
use Rattle.world_step_laws.specs.world_model.image_model.Volume.{extents, inode, Volume}
use Rattle.world_step_laws.specs.world_model.Stands.{IsSane}

-- All but the size and the map of one file stays, and the volume is sane.
pub record Resizes (v w : Volume) (ino : ℕ) : Type 0 where
  pub sane : IsSane w
  pub names : w.names ≡ v.names
  pub geometry : w.geometry ≡ v.geometry
  pub file : (inode v ino).kind ≡ File
  pub kind : (inode w ino).kind ≡ (inode v ino).kind
  pub generation : (inode w ino).generation ≡ (inode v ino).generation
  pub applied : (inode w ino).applied ≡ (inode v ino).applied
  pub others : (i : ℕ) → i ≢ ino → inode w i ≡ inode v i
  pub maps : (i : ℕ) → i ≢ ino → extents w i ≡ extents v i

-- The file has these bytes by its own map and size.
pub record HasAlone (w : Volume) (f : Words) (ino : ℕ) (bytes : List ℕ) : Type 0 where
  pub size : (inode w ino).size ≡ length bytes
  pub each : (i : ℕ) → i < length bytes → byte_in f (disk_at (extents w ino) (i / 4096)) i ≡ slice_index bytes i
