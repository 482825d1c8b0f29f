-- A run is carried out: what a relink of an entry asks for and makes of a volume.
use Rattle.std.specs.Prelude.{◌≡◌, ◌≢◌, ℕ, List, [], ◌∷◌}
use Rattle.world_step_laws.specs.world_model.extent_model.declared.extent_words.Extent.{Extent}
use Rattle.world_step_laws.specs.world_model.extent_model.Moves.{Moves}
use Rattle.world_step_laws.specs.world_model.layout_model.declared.lines.Draft.{Draft}
use Rattle.world_step_laws.specs.world_model.layout_model.declared.lines.Inode.{Inode}
use Rattle.world_step_laws.specs.world_model.image_model.Volume.{extents, inode, Volume}
use Rattle.world_step_laws.specs.world_model.Stands.{entries_of, IsSane}

-- what each inode keeps
pub record SameLine (x y : Inode) : Type 0 where
  pub kind : y.kind ≡ x.kind
  pub generation : y.generation ≡ x.generation

-- The blocks of the entry go from its staging file to its file, at its file block; what the file has applied is then its
-- order. All other maps stay, and of the lines kinds and generations, and sizes and orders of other files.
pub record Relinks (v w : Volume) (d : Draft) (displaced : List Extent) : Type 0 where
  pub sane : IsSane w
  pub names : w.names ≡ v.names
  pub geometry : w.geometry ≡ v.geometry
  pub same : (ino : ℕ) → SameLine (inode v ino) (inode w ino)
  pub applied : (inode w d.ino).applied ≡ d.order
  pub applied_others : (ino : ℕ) → ino ≢ d.ino → (inode w ino).applied ≡ (inode v ino).applied
  pub size_others : (ino : ℕ) → ino ≢ d.ino → (inode w ino).size ≡ (inode v ino).size
  pub moves : Moves d.staging_block d.file_block d.count (extents v d.staging) (extents v d.ino) (extents w d.staging) (extents w d.ino) displaced
  pub maps : (ino : ℕ) → ino ≢ d.ino → ino ≢ d.staging → extents w ino ≡ extents v ino

-- The entry is the first live one of its file; where it is the last one too, the file has its size afterwards.
pub record IsFirst (v w : Volume) (live : List Draft) (d : Draft) (rest : List Draft) : Type 0 where
  pub first : entries_of d.ino live ≡ d ∷ rest
  pub size : rest ≡ [] → (inode w d.ino).size ≡ d.size
