-- POSIX mode: three standings of one history.
--
-- THE MEDIUM is the committed volume. It stands for a front of the history, which is kept, each file cut to the length that it had
-- published by then; bytes that were written in place since are seen in it.
--
-- THE BATCH, as it would be committed, is the volume that the open batch makes of the committed one. It stands for the whole
-- history, each file cut to its published length, which is the size in its inode line. Its blocks may go on past that length.
--
-- WHAT THE CALLS SEE is the batch with the lengths that files have in memory in the place of the published ones, and over it the
-- runs that are staged and not yet published. It stands for the state of the calls. A Checkpoint puts all that is staged into the
-- batch and keeps the published lengths: then no run is staged, and a file is longer than its inode line says.
use Rattle.std.specs.Prelude.{◌≡◌, ◌≢◌, ◌⊎◌, ◌<◌, ◌≤◌, ◌+◌, ◌*◌, ◌/◌, ◌%◌, ℕ, true, false, List, [], ◌∷◌, ◌++◌, length, map, None, Some, IsSome, slice_index}
use Rattle.std.specs.List.{list_any}
use Rattle.world_image_laws.specs.pm_model.Words.{byte_of, Words}
use Rattle.world_image_laws.specs.extent_model.Extents.{disk_at}
use Rattle.world_image_laws.specs.layout_model.declared.lines.Draft.{Draft}
use Rattle.world_image_laws.specs.layout_model.declared.lines.Inode.{Inode}
use Rattle.world_image_laws.specs.layout_model.declared.lines.Kind.TheVariants.{File, Staging}
use Rattle.world_image_laws.specs.image_model.Content.{disk_of, entry_of_block, size_of}
use Rattle.world_image_laws.specs.image_model.Placed.{block_at}
use Rattle.world_image_laws.specs.image_model.Volume.{chain, extents, inode, Volume}
use Rattle.world_image_laws.specs.posix_types.declared.item.Item.{Item}
use Rattle.world_image_laws.specs.posix_tables.declared.nodes.Node.{Node}
use Rattle.world_image_laws.specs.posix_tables.Nodes.{bytes_of, node_at}
use Rattle.world_image_laws.specs.posix_spec.Run.{Unfinished, begun, run}
use Rattle.world_image_laws.specs.posix_spec.State.{State}
use Rattle.world_image_laws.specs.posix_laws.Publishes.{HasPublished}
use Rattle.world_image_laws.specs.crash_spec.Posix.{ByteRule, IsLeft, LaterRule, syncs}
use Rattle.world_image_laws.specs.crash_spec.Values.{is_shortened, value_put}
use Rattle.world_image_laws.specs.world_model.Stands.{IsUsed, number, Stands}

-- The volume that was committed last and that of the open batch, each with the nodes of its inodes; the runs that are staged and
-- not yet published; and for each inode of the batch the length that its file has in memory. An inode that is used again since
-- the commit is two nodes, so there are two lists of numbers.
pub record Sides : Type 0 where
  pub committed : Volume
  pub committed_numbers : List ℕ
  pub batch : Volume
  pub numbers : List ℕ
  pub staged : List Draft
  pub lengths : List ℕ

-- inode lines with these sizes, one for one
abbrev pub with_sizes : List Inode → List ℕ → List Inode
with_sizes [] sizes = []
with_sizes (x ∷ xs) [] = x ∷ xs
with_sizes (x ∷ xs) (n ∷ ns) = record x { size = n } ∷ with_sizes xs ns

-- the volume with these sizes in its inode lines
abbrev pub sized : List ℕ → Volume → Volume
sized lengths v = record v { inodes = with_sizes v.inodes lengths }

-- Each inode has a length, and that of a file is the length of its bytes.
abbrev pub IsLengthOf : Sides → State → ℕ → Type 0
IsLengthOf w s ino = (inode w.batch ino).kind ≡ File → slice_index w.lengths ino ≡ length (bytes_of (node_at s.nodes (number w.numbers ino)))

pub record AreLengths (w : Sides) (s : State) : Type 0 where
  pub count : length w.lengths ≡ length w.batch.inodes
  pub each : (ino : ℕ) → IsLengthOf w s ino

-- ---- blocks

-- A block of the batch is settled: the committed volume has it at the same place of the same file.
pub record IsSettled (w : Sides) (ino block b : ℕ) : Type 0 where
  pub used : IsUsed w.committed ino
  pub same : disk_of w.committed [] ino block ≡ Some b
  pub node : number w.committed_numbers ino ≡ number w.numbers ino

-- or it is fresh: the committed volume has it in no file, and in no chain of any inode. A block of a committed staging file may be
-- fresh: what is staged there counts for nothing on the medium.
pub record IsFresh (v : Volume) (b : ℕ) : Type 0 where
  pub files : (ino block : ℕ) → IsUsed v ino → disk_of v [] ino block ≢ Some b
  pub chains : (ino k : ℕ) → k < length (chain v ino) → block_at (chain v ino) k ≢ b

-- each block that the files of the batch have, with these entries, is one or the other
abbrev pub AreSettledOrFresh : Sides → List Draft → Type 0
AreSettledOrFresh w live =
    (ino block b : ℕ) → IsUsed w.batch ino → disk_of w.batch live ino block ≡ Some b → IsSettled w ino block b ⊎ IsFresh w.committed b

-- the map of an inode is the committed one, and in the same chain
abbrev pub IsSameMap : Sides → ℕ → Type 0
IsSameMap w ino = (chain w.batch ino ≡ chain w.committed ino) × (extents w.batch ino ≡ extents w.committed ino)

-- THE BATCH USES NO BLOCK THAT IT FREED: a block of a file is settled or fresh, one of a staging file is fresh, and a chain is that
-- of a map that has not changed, or each of its blocks is fresh. So what is written in the batch, but for writes in place, is
-- nothing that the medium shows.
pub record UsesNoFreed (w : Sides) : Type 0 where
  pub mapped : AreSettledOrFresh w []
  pub staging : (ino block b : ℕ) → (inode w.batch ino).kind ≡ Staging → disk_at (extents w.batch ino) block ≡ Some b → IsFresh w.committed b
  pub chains : (ino k : ℕ) → k < length (chain w.batch ino) → IsSameMap w ino ⊎ IsFresh w.committed (block_at (chain w.batch ino) k)

-- ---- the three standings

-- no byte has changed
abbrev pub Same : ByteRule
Same n i v x = x ≡ v

-- Along later calls a byte that was published is cut off, or its file is gone, or it is published still.
abbrev pub StillPublished : State → List Unfinished → State → ℕ → ℕ → Type 0
StillPublished s later now n i = (is_shortened s later n i ≡ true) ⊎ ((node_at now.nodes n ≡ Node.Gone) ⊎ HasPublished (node_at now.nodes n) i)

-- THE MEDIUM has the kept front of the history, each file cut to its published length, each byte as the rule says of the later
-- calls: an `fsync` that returned is kept.
pub record MediumStands (rule : LaterRule) (w : Sides) (f : Words) (start : State) (kept later : List Item) : Type 0 where
  pub state : State
  pub shape : state.shape ≡ start.shape
  pub left : IsLeft (rule (run start kept) (map begun later)) (run start kept) state
  pub stands : Stands w.committed [] f w.committed_numbers state
  pub fsyncs : list_any syncs later ≡ false
  pub published : (n i : ℕ) → HasPublished (node_at (run start kept).nodes n) i
      → StillPublished (run start kept) (map begun later) (run (run start kept) later) n i

-- THE BATCH, as it would be committed, has the whole history, each file cut to its published length, no byte changed. So both
-- copies of a byte that is staged and published are the same.
pub record BatchStands (w : Sides) (f : Words) (s : State) : Type 0 where
  pub state : State
  pub shape : state.shape ≡ s.shape
  pub left : IsLeft Same s state
  pub stands : Stands w.batch [] f w.numbers state

-- Bytes that were cut off since the commit. A published byte of a settled block was not: so a write in place changes no byte of the
-- medium that was cut off. A byte past the published length that the committed file has too, which was cut off, is in a staged
-- run where its block is settled: so it is not written in place. (A block that a run was put into, or a hole, is none that the
-- medium shows.) And a byte in memory that no staged run has, in a settled block, was there all the time: so what publishes the
-- length in memory publishes no byte that was cut off. The stronger rule for bytes rests on all three.
pub record KeepsCutBytes (w : Sides) (start : State) (kept later : List Item) : Type 0 where
  pub settled : (ino i b : ℕ) → IsUsed w.batch ino → i < size_of w.batch [] ino → disk_of w.batch [] ino (i / 4096) ≡ Some b → IsSettled w ino (i / 4096) b
      → is_shortened (run start kept) (map begun later) (number w.numbers ino) i ≡ false
  pub staged : (ino i b : ℕ) → IsUsed w.batch ino → number w.committed_numbers ino ≡ number w.numbers ino → size_of w.batch [] ino ≤ i
      → i < size_of w.committed [] ino → i < slice_index w.lengths ino → disk_of w.batch [] ino (i / 4096) ≡ Some b → IsSettled w ino (i / 4096) b
      → IsSome (entry_of_block w.staged ino (i / 4096))
  pub unstaged : (ino i b : ℕ) → IsUsed w.batch ino → i < slice_index w.lengths ino → entry_of_block w.staged ino (i / 4096) ≡ None
      → disk_of w.batch [] ino (i / 4096) ≡ Some b → IsSettled w ino (i / 4096) b
      → is_shortened (run start kept) (map begun later) (number w.numbers ino) i ≡ false

-- THE WORLD IN POSIX MODE: the medium, the batch, and what the calls see.
pub record PosixWorld (rule : LaterRule) (w : Sides) (f : Words) (start : State) (kept later : List Item) : Type 0 where
  pub medium : MediumStands rule w f start kept later
  pub cut : BatchStands w f (run start (kept ++ later))
  pub live : Stands (sized w.lengths w.batch) w.staged f w.numbers (run start (kept ++ later))
  pub lengths : AreLengths w (run start (kept ++ later))
  pub blocks : UsesNoFreed w
  pub cuts : KeepsCutBytes w start kept later

-- ---- a call that lost its power

-- A write in place that lost its power, as one standing of files has it (a volume with live entries): words changed in blocks of
-- its file alone, as far as files of this standing have them, so that the other copy of a block, which another standing has, may
-- change too; and each byte of the file from `first` up to `last` is the old one, or the one that the call puts there. In sync
-- mode too, an image may have such bytes. In POSIX mode the stronger relation permits it (`PermitsLost`).
pub record LosesInPlace (v : Volume) (live : List Draft) (numbers : List ℕ) (f g : Words) (s : State) (c : Unfinished) (ino first last : ℕ) : Type 0 where
  pub file : (inode v ino).kind ≡ File
  pub others : (i block b k : ℕ) → IsUsed v i → disk_of v live i block ≡ Some b → k < 4096
      → ((p : ℕ) → first ≤ p → p < last → disk_of v live ino (p / 4096) ≡ Some b → p % 4096 ≢ k)
      → byte_of g (4096 * b + k) ≡ byte_of f (4096 * b + k)
  pub each : (i b : ℕ) → first ≤ i → i < last → disk_of v live ino (i / 4096) ≡ Some b
      → (byte_of g (4096 * b + i % 4096) ≡ byte_of f (4096 * b + i % 4096)) ⊎ (value_put s c (number numbers ino) i ≡ Some (byte_of g (4096 * b + i % 4096)))
