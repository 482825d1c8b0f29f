-- Bytes of files beside those that are written over in place.
use Rattle.std.proofs.Common.{◌≡◌, ◌≢◌, ◌⊎◌, ◌<◌, ◌≤◌, ◌+◌, ◌-◌, ◌*◌, ◌/◌, ◌%◌, ℕ, true, List, length, Option, None, Some, refl, ap, sym, ◌∙◌, arith, inl, inr}
use Rattle.std.specs.Prelude.{slice_index}
use Rattle.k_split.specs.block_io.pm_model.Words.{byte_of, Words}
use Rattle.k_split.specs.block_io.Overwrites.{IsBeside, IsOverwritten, IsOverwrittenWhole, StandsIn}
use Rattle.k_split.specs.block_io.extent_model.Extents.{disk_at}
use Rattle.k_split.specs.block_io.extent_model.Covers.{covers-disk_at}
use Rattle.k_split.specs.block_io.layout_model.Places.{is_data_block}
use Rattle.k_split.specs.block_io.image_model.Content.{byte_in}
use Rattle.k_split.specs.block_io.image_model.Kept.{AreKept}
use Rattle.k_split.specs.block_io.image_model.Rules.{file_blocks_of, IsNamedOnce}
use Rattle.k_split.specs.block_io.image_model.Volume.{extents, inode, Volume}
use Rattle.log_laws.specs.world_write_laws.name_laws.KeptLaws.{HasAllLines}
use Rattle.log_laws.specs.world_write_laws.volume_laws.OwnerLaws.{one_owner}
use Rattle.log_laws.specs.world_write_laws.volume_laws.PoolLaws.{covered-in_data}
use Rattle.fsync_relink.specs.Bytes.{HasOldOrNewBytes, own_byte}

module _ (v : Volume) (ino first : ℕ) (bytes : List ℕ) (before image : Words) (kept : AreKept v) (lines : HasAllLines v)
    (below : ino < length v.inodes) (is : IsOverwritten (extents v ino) first bytes before image) where
  once : (i m b : ℕ) → i < length v.inodes → disk_at (extents v i) m ≡ Some b → IsNamedOnce v b
  once i m b i_below at =
      kept.once b
      (covered-in_data v.geometry (file_blocks_of (inode v i).kind) (extents v i) b
      (kept.in_data i (omega (arith, i_below, lines.inode_count)))
      (covers-disk_at (extents v i) m b at))

  -- a byte that is none of the range stands beside it
  beside : (i p b : ℕ) → i < length v.inodes → disk_at (extents v i) (p / 4096) ≡ Some b
      → (i ≡ ino → first ≤ p → p < first + length bytes → ⊥) → IsBeside (extents v ino) first (length bytes) (4096 * b + p % 4096)
  beside i p b i_below at off q c stands same =
      let block : b ≡ c = omega (arith, same) in
      let one = one_owner v b i ino (p / 4096) (q / 4096) (once i (p / 4096) b i_below at) i_below below at (stands.at ∙ ap (λ n. Some n) (sym block)) in
      let place : p ≡ q = omega (arith, same, one.place, block) in
      let from = stands.from in
      let end = stands.below in
      off one.inode (omega (arith, place, from)) (omega (arith, place, end))

  stays : (i p : ℕ) → i < length v.inodes → (i ≡ ino → first ≤ p → p < first + length bytes → ⊥)
      → own_byte v image i p ≡ own_byte v before i p
  stays i p i_below off = by (disk_at (extents v i) (p / 4096)) refl
    where
      by : (o : Option ℕ) → disk_at (extents v i) (p / 4096) ≡ o → byte_in image o p ≡ byte_in before o p
      by None none = refl
      by (Some b) at = is.others (4096 * b + p % 4096) (beside i p b i_below at off)

  pub old-or-new : HasOldOrNewBytes v ino first bytes before image
  old-or-new = record {
    each = λ p from end. either p from end (disk_at (extents v ino) (p / 4096)) refl;
    behind = λ p past. stays ino p below (λ same from end. omega (arith, past, end));
    ahead = λ p low. stays ino p below (λ same from end. omega (arith, low, from));
    others = λ i p i_below apart. stays i p i_below (λ same from end. apart same);
  }
    where
      either : (p : ℕ) → first ≤ p → p < first + length bytes → (o : Option ℕ) → disk_at (extents v ino) (p / 4096) ≡ o
          → (byte_in image o p ≡ byte_in before o p) ⊎ (byte_in image o p ≡ slice_index bytes (p - first))
      either p from end None none = inl refl
      either p from end (Some b) at = is.each p b (record { from = from; below = end; at = at })

pub all-new : (v : Volume) (ino first : ℕ) (bytes : List ℕ) (before image : Words) (p b : ℕ)
    → IsOverwrittenWhole (extents v ino) first bytes before image → first ≤ p → p < first + length bytes
    → disk_at (extents v ino) (p / 4096) ≡ Some b → own_byte v image ino p ≡ slice_index bytes (p - first)
all-new v ino first bytes before image p b is from end at =
    ap (λ o. byte_in image o p) at ∙ is.each p b (record { from = from; below = end; at = at })
