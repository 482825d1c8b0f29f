-- Free blocks of K-Split; and laws of the facts below that the layer above uses too.
use Rattle.std.proofs.Common.{◌≡◌, ◌<◌, ◌&&◌, not, ℕ, Bool, true, false, List, [], length, refl, ◌∙◌, ap, arith}
use Rattle.std.specs.Prelude.{All, count_by}
use Rattle.std.specs.List.{range_with_len}
use Rattle.std.proofs.lemmas.Bool.Decides.{nat_tests}
use Rattle.fsync_relink.specs.log_laws.block_counts.Counts.{chains_for}
use Rattle.k_split.specs.block_pool.FreeSets.{is_among}
use Rattle.fsync_relink.specs.log_laws.pm_model.Words.{Words}
use Rattle.fsync_relink.specs.log_laws.layout_model.Journal.{journaled}
use Rattle.fsync_relink.specs.log_laws.layout_model.Places.{base_word, commit_word, data_blocks, first_data, Geometry, is_data_block}
use Rattle.fsync_relink.specs.log_laws.image_model.Checked.{IsLogKept}
use Rattle.fsync_relink.specs.log_laws.image_model.Live.{valid_entries}
use Rattle.fsync_relink.specs.log_laws.image_model.Reading.{Reads}
use Rattle.fsync_relink.specs.log_laws.image_model.Room.{has_none, unused_blocks}
use Rattle.fsync_relink.specs.log_laws.image_model.Uses.{owners}
use Rattle.fsync_relink.specs.log_laws.image_model.Volume.{chain, extents, Volume}
use Rattle.fsync_relink.specs.log_laws.extent_model.Extents.{covers, IsCanonical}
use Rattle.fsync_relink.specs.log_laws.k_split_model.Stands.{IsOldOrNew}
use Rattle.fsync_relink.specs.log_laws.k_split_model.View.{View}
use Rattle.k_split.specs.MapChanges.{free_blocks_in, is_free_in}
use Rattle.k_split.specs.Order.{IsInOrder}
use Rattle.world_image_laws.specs.Images.{IsHeaded}
use Rattle.fsync_relink.proofs.log_laws_proofs.FoundLaws.{valid-same}
use Rattle.fsync_relink.proofs.log_laws_proofs.Heads.{headed-next}
use Rattle.fsync_relink.proofs.log_laws_proofs.Kept.{log-same}
use Rattle.fsync_relink.specs.log_laws.volume_laws.Footprint.{SameLog}
use Rattle.fsync_relink.specs.log_laws.volume_laws.Lists.{count_by-agree}
use Rattle.fsync_relink.specs.log_laws.volume_laws.Uses.{is_unused}
use Rattle.fsync_relink.proofs.ImageLaws.{same-log}
use Rattle.fsync_relink.proofs.RelinkLaws.{has-chain}
use Rattle.fsync_relink.proofs.WorldLaws.{free-in_data, free-unmapped}

-- where no block waits, just those are free that nothing names
pub free-unnamed : (k : View) → k.waiting ≡ [] → free_blocks_in k ≡ unused_blocks k.volume
free-unnamed k none =
    ap (λ ws. count_by (λ b. is_unused k.volume b && not (is_among ws b)) (range_with_len (first_data k.volume.geometry) (data_blocks k.volume.geometry))) none
    ∙ count_by-agree (λ b. is_unused k.volume b && not (is_among [] b)) (λ b. has_none (owners k.volume b)) (first_data k.volume.geometry) (data_blocks k.volume.geometry) (λ b low high.
    let in_data : is_data_block k.volume.geometry b ≡ true = grind (arith, nat_tests, low, high) in
    ap (λ d. (d && has_none (owners k.volume b)) && true) in_data ∙ and_true (has_none (owners k.volume b)))
  where
    and_true : (b : Bool) → ((true && b) && true) ≡ b
    and_true true = refl
    and_true false = refl

-- ---- an image of a change of maps

-- it has the log lines of the image before
pub log-beside : (g : Geometry) (blocks : List ℕ) (v w : Volume) (before image : Words) → before commit_word ≡ 0 → Reads g (journaled before) v
    → All (λ b. is_data_block g b ≡ true) blocks → IsOldOrNew g blocks v w before image → SameLog g (journaled before) (journaled image)
log-beside g blocks v w before image idle old in_data is = same-log g blocks v w before image idle old in_data is

-- and a head
pub headed-beside : (g : Geometry) (blocks : List ℕ) (v w : Volume) (before image : Words) → All (λ b. is_data_block g b ≡ true) blocks → IsHeaded g before
    → IsOldOrNew g blocks v w before image → w.base ≡ v.base → v.base ≡ journaled before base_word → IsHeaded g image
headed-beside g blocks v w before image in_data headed is same_base base_is = headed-next g blocks v w before image in_data headed is same_base base_is

-- ---- the log of the same lines

pub kept-beside : (v : Volume) (j h : Words) → SameLog v.geometry j h → IsLogKept v j → IsLogKept v h
kept-beside v j h log kept = log-same v j h log kept

pub valid-beside : (v w : Volume) (f : Words) → w.geometry ≡ v.geometry → w.base ≡ v.base → valid_entries w f ≡ valid_entries v f
valid-beside v w f geometry base = valid-same v w f geometry base

-- ---- blocks and maps of K-Split

-- a free block is a data block, and no map has it
pub free-data : (k : View) (b : ℕ) → is_free_in k b ≡ true → is_data_block k.volume.geometry b ≡ true
free-data k b free = free-in_data k b free

pub free-uncovered : (k : View) (b ino : ℕ) → length k.volume.maps ≡ length k.volume.inodes → is_free_in k b ≡ true → covers (extents k.volume ino) b ≡ false
free-uncovered k b ino all free = free-unmapped k b ino all free

-- a map is one in order, with a chain of its length
pub map-canonical : (k : View) (ino : ℕ) → IsInOrder k → k.batched ≡ false → ino < length k.volume.inodes → IsCanonical (extents k.volume ino)
map-canonical k ino order unbatched below = (has-chain k ino order unbatched below).canonical

pub chain-counted : (k : View) (ino : ℕ) → IsInOrder k → k.batched ≡ false → ino < length k.volume.inodes
    → length (chain k.volume ino) ≡ chains_for (length (extents k.volume ino))
chain-counted k ino order unbatched below = (has-chain k ino order unbatched below).counted
