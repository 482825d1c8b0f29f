-- How long a chain may be: a map whose blocks are data blocks, each named once, has no more extents than there are data
-- blocks, nor than a file has blocks; so the reserve has room for its chain, and for three blocks more.
use Rattle.std.specs.Prelude.{◌≡◌, ℕ, ◌+◌, ◌<◌, ◌≤◌, min, true, List, [], ◌∷◌, length, All}
use Rattle.std.proofs.Common.{arith}
use Rattle.std.proofs.lemmas.Bool.Decides.{nat_tests}
use Rattle.std.proofs.lemmas.List.Sums.{sum_by-cons}
use Rattle.image_model.specs.pm_model.Words.{Words}
use Rattle.image_model.specs.block_counts.Counts.{chains_for}
use Rattle.image_model.specs.layout_model.Places.{Geometry, first_data, data_blocks, reserve, is_data_block}
use Rattle.image_model.specs.extent_model.declared.extent_words.Extent.{Extent}
use Rattle.image_model.specs.extent_model.Extents.{block_count, IsExtent, IsCanonical}
use Rattle.image_model.specs.extent_model.Counts.{length-le}
use Rattle.image_model.specs.extent_model.Facts.{IsCanonical-tail}
use Rattle.volume_laws.specs.ChainLaws.{chain-count}
use Rattle.image_model.specs.Reading.{Reads}
use Rattle.image_model.specs.Rules.{IsInData, IsNamedOnce}
use Rattle.image_model.specs.Volume.{Volume, chain, extents}
use Rattle.volume_laws.specs.OwnerLaws.{one_use}
use Rattle.volume_laws.specs.PoolLaws.{map-counted, sum_by-bound}
use Rattle.volume_laws.specs.Uses.{in_map}

-- an extent has a block at least
length-le-block_count : (es : List Extent) → IsCanonical es → length es ≤ block_count es
length-le-block_count [] c = omega arith
length-le-block_count (e ∷ es) c =
    let ok : IsExtent e = c.each 0 e (omega arith) in
    omega (arith, sum_by-cons (λ (x : Extent). x.count) e es, length-le-block_count es (IsCanonical-tail e es c), ok.filled)

-- a map that has each data block at most once has at most as many blocks as there are
pub block_count-bound : (v : Volume) (limit : ℕ) (es : List Extent) → All (IsInData v.geometry limit) es
    → ((b : ℕ) → is_data_block v.geometry b ≡ true → in_map es b ≤ 1)
    → block_count es ≤ data_blocks v.geometry
block_count-bound v limit es in_data once =
    let counted = map-counted v limit es in_data in
    let each = sum_by-bound (in_map es) (first_data v.geometry) (data_blocks v.geometry) (λ b low below. once b (grind (arith, nat_tests, low, below))) in
    omega (arith, counted, each)

pub extents-bound : (v : Volume) (limit : ℕ) (es : List Extent) → IsCanonical es → All (IsInData v.geometry limit) es
    → ((b : ℕ) → is_data_block v.geometry b ≡ true → in_map es b ≤ 1)
    → length es ≤ min 4096 (data_blocks v.geometry)
extents-bound v limit es canonical in_data once =
    omega (arith, length-le-block_count es canonical, length-le es canonical, block_count-bound v limit es in_data once)

-- so its chain fits the reserve, beside three blocks
pub chains-bound : (v : Volume) (limit : ℕ) (es : List Extent) → IsCanonical es → All (IsInData v.geometry limit) es
    → ((b : ℕ) → is_data_block v.geometry b ≡ true → in_map es b ≤ 1)
    → chains_for (length es) + 3 ≤ reserve v.geometry
chains-bound v limit es canonical in_data once = omega (arith, extents-bound v limit es canonical in_data once)

-- the same of the chain of an inode of a volume that is read
pub reads-chain_bound : (g : Geometry) (f : Words) (v : Volume) (limit ino : ℕ) → Reads g f v → ino < g.inodes
    → All (IsInData g limit) (extents v ino)
    → ((b : ℕ) → is_data_block g b ≡ true → IsNamedOnce v b) → length (chain v ino) + 3 ≤ reserve g
reads-chain_bound g f v limit ino r below in_data once =
    let stands = r.chains ino below in
    let count = chain-count f _ _ _ _ _ stands in
    let within : ino < length v.inodes = omega (arith, r.inode_count) in
    let geometry = r.geometry in
    let bound : chains_for (length (extents v ino)) + 3 ≤ reserve v.geometry =
    chains-bound v limit (extents v ino) stands.map.canonical (rw geometry in_data)
    (λ b of_data. omega (arith, one_use v b ino (once b (rw geometry at of_data)) within))
    in
    let fits : chains_for (length (extents v ino)) + 3 ≤ reserve g = rw geometry at bound in
    omega (arith, count, stands.map.counted, fits)
