-- Blocks of a staging file that no live entry tells of.
use Rattle.std.specs.Prelude.{◌≡◌, ◌⊎◌, ℕ, ◌+◌, ◌<◌, ◌≤◌, List, length, All, true, Some}
use Rattle.image_model.specs.layout_model.Places.{is_data_block}
use Rattle.image_model.specs.extent_model.Extents.{disk_at}
use Rattle.image_model.specs.layout_model.declared.lines.Draft.{Draft}
use Rattle.image_model.specs.layout_model.declared.lines.Kind.TheVariants.{Staging}
use Rattle.image_model.specs.Placed.{block_at}
use Rattle.image_model.specs.Volume.{Volume, inode, extents}

-- The blocks are those of the blocks of a staging file, from block `from` on.
pub record AreStaged (v : Volume) (staging from : ℕ) (blocks : List ℕ) : Type 0 where
  pub below : staging < length v.inodes
  pub kind : (inode v staging).kind ≡ Staging
  pub in_data : All (λ b. is_data_block v.geometry b ≡ true) blocks
  pub at : (k : ℕ) → k < length blocks → disk_at (extents v staging) (from + k) ≡ Some (block_at blocks k)

-- The entry has its staging blocks elsewhere than in `count` blocks of a staging file from `from` on.
pub record IsStagedElsewhere (v : Volume) (staging from count : ℕ) (d : Draft) : Type 0 where
  pub below : d.staging < length v.inodes
  pub apart : d.staging ≡ staging → (d.staging_block + d.count ≤ from) ⊎ (from + count ≤ d.staging_block)
