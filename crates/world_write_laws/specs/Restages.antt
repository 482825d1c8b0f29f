-- A staging file that changes: what is asked of the change.
use Rattle.std.specs.Prelude.{◌≡◌, ◌≢◌, ℕ}
use Rattle.world_step_laws.specs.world_model.layout_model.declared.lines.Kind.TheVariants.{Staging}
use Rattle.world_step_laws.specs.world_model.image_model.Volume.{extents, inode, Volume}
use Rattle.world_step_laws.specs.world_model.Stands.{IsSane}

-- One staging file has another line and another map, and the volume is sane.
pub record Restages (v w : Volume) (x : ℕ) : Type 0 where
  pub sane : IsSane w
  pub names : w.names ≡ v.names
  pub geometry : w.geometry ≡ v.geometry
  pub staging : (inode v x).kind ≡ Staging
  pub kind : (inode w x).kind ≡ Staging
  pub others : (ino : ℕ) → ino ≢ x → inode w ino ≡ inode v ino
  pub maps : (ino : ℕ) → ino ≢ x → extents w ino ≡ extents v ino
