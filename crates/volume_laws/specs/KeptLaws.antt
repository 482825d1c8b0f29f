-- What the rules that a sane volume keeps say of its blocks: the bound of its chains, and how many blocks are free.
use Rattle.std.specs.Prelude.{◌≡◌, ℕ, ◌+◌, ◌<◌, ◌≤◌, length, All, true}
use Rattle.std.proofs.Common.{arith, ap, sym, subst}
use Rattle.image_model.specs.pm_model.Words.{Words}
use Rattle.image_model.specs.layout_model.Places.{Geometry, data_blocks, reserve, is_data_block}
use Rattle.image_model.specs.Kept.{AreKept}
use Rattle.image_model.specs.Reading.{Reads}
use Rattle.image_model.specs.Room.{unused_blocks}
use Rattle.image_model.specs.Rules.{file_blocks_of, IsInData}
use Rattle.image_model.specs.Volume.{Volume, inode, chain, extents}
use Rattle.volume_laws.specs.BoundLaws.{reads-chain_bound}
use Rattle.volume_laws.specs.PoolLaws.{AreInData, unused-held}
use Rattle.volume_laws.specs.Uses.{blocks_held}

-- its chains and its files are in data blocks
pub kept-in_data : (g : Geometry) (f : Words) (v : Volume) → Reads g f v → AreKept v
    → AreInData v (λ ino. file_blocks_of (inode v ino).kind)
kept-in_data g f v r kept = record {
  chains = λ ino below. subst (λ x. All (λ b. is_data_block x b ≡ true) (chain v ino)) (sym r.geometry) (r.blocks ino (omega (arith, r.inode_count)));
  files = λ ino below. kept.in_data ino (omega (arith, r.inode_count, ap (λ (x : Geometry). x.inodes) r.geometry));
}

-- each data block is free, or one that an inode has
pub kept-held : (g : Geometry) (f : Words) (v : Volume) → Reads g f v → AreKept v
    → unused_blocks v + blocks_held v ≡ data_blocks v.geometry
kept-held g f v r kept = unused-held v (λ ino. file_blocks_of (inode v ino).kind) (kept-in_data g f v r kept) kept.once

-- and the reserve has room for each chain, and for three blocks more
pub kept-chain_bound : (g : Geometry) (f : Words) (v : Volume) (ino : ℕ) → Reads g f v → AreKept v → ino < g.inodes
    → length (chain v ino) + 3 ≤ reserve g
kept-chain_bound g f v ino r kept below =
    reads-chain_bound g f v (file_blocks_of (inode v ino).kind) ino r below
    (subst (λ x. All (IsInData x (file_blocks_of (inode v ino).kind)) (extents v ino)) r.geometry
    (kept.in_data ino (omega (arith, ap (λ (x : Geometry). x.inodes) r.geometry))))
    (λ b in_data. kept.once b (subst (λ x. is_data_block x b ≡ true) (sym r.geometry) in_data))
