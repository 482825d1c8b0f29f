-- The words of a write.
use Rattle.std.specs.Prelude.{◌≡◌, ◌≢◌, ◌<◌, ◌≤◌, ◌+◌, ◌*◌, ◌/◌, ◌%◌, ℕ, true, List, [], length, Some, slice_index}
use Rattle.live_model.specs.pm_model.Words.{byte_of, Words}
use Rattle.live_model.specs.layout_model.Places.{is_data_block}
use Rattle.live_model.specs.layout_model.declared.lines.Draft.{Draft}
use Rattle.live_model.specs.image_model.Content.{byte_in, disk_of}
use Rattle.live_model.specs.image_model.Volume.{inode, Volume}
use Rattle.live_model.specs.posix_spec.Put.{Put}

-- where the put ends
abbrev pub put_end : Put → ℕ
put_end p = p.place + length p.bytes

-- BYTES OF A FILE ARE WRITTEN, from `first` up to `last`: where the calls see them, and, of those that are published, where the file's own
-- map has them, which is another block where they are staged (the copy in the map is clipped to the published length). Else no byte of a
-- data block differs, but in the fresh blocks of a run that the call stages.
pub record WritesWords (v : Volume) (live : List Draft) (ino first last : ℕ) (whole : List ℕ) (IsFreshBlock : ℕ → Type 0) (f h : Words) : Type 0 where
  pub seen : (i : ℕ) → first ≤ i → i < last → byte_in h (disk_of v live ino (i / 4096)) i ≡ slice_index whole i
  pub mapped : (i : ℕ) → first ≤ i → i < last → i < (inode v ino).size → byte_in h (disk_of v [] ino (i / 4096)) i ≡ slice_index whole i
  pub others : (b k : ℕ) → is_data_block v.geometry b ≡ true → k < 4096 → (IsFreshBlock b → ⊥)
      → ((i : ℕ) → first ≤ i → i < last → i % 4096 ≡ k → (disk_of v live ino (i / 4096) ≢ Some b) × (i < (inode v ino).size → disk_of v [] ino (i / 4096) ≢ Some b))
      → byte_of h (4096 * b + k) ≡ byte_of f (4096 * b + k)
