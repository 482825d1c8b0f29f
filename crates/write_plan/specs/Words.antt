-- What the blocks of a write are to hold.
use Rattle.std.specs.Prelude.{◌≡◌, ◌≤◌, ◌+◌, ◌-◌, ◌*◌, ◌/◌, ℕ, Bool, List, length}
use Rattle.layout_model.specs.pm_model.Images.{words_of}
use Rattle.live_model.specs.data_route.Reads.{read_len}
use Rattle.layout_model.specs.Places.{Geometry}
use Rattle.layout_model.specs.declared.lines.Draft.{Draft}
use Rattle.layout_model.specs.declared.lines.Kind.TheVariants.{File}
use Rattle.live_model.specs.image_model.Volume.{inode}
use Rattle.live_model.specs.file_reads.Reads.{bytes_in, FileCanBeRead}
use Rattle.file_table.specs.Files.{Files, runs_in, size_in}
use Rattle.live_model.specs.write_jobs.Blocks.{SpellWhole}
use Rattle.live_model.specs.k_split_model.View.{View}
use Rattle.posix_tables.specs.Bytes.{overwritten}
use Rattle.posix_tables.specs.Nodes.{bytes_of, node_at}
use Rattle.posix_tables.specs.Open.{Tables}
use Rattle.open_files.specs.posix_spec.State.{State}
use Rattle.live_model.specs.world_model.Stands.{number}
use Rattle.live_model.specs.write_jobs.Contents.{SpellBytes, staged_bytes}
use Rattle.live_model.specs.Standing.{Kept, StandsAt}

-- the bytes of so many blocks of a file from that of a byte on, up to its end
abbrev pub old_in : View → Files → ℕ → ℕ → ℕ → List ℕ
old_in k files ino start count =
    bytes_in k.volume (words_of k.cells) (runs_in files ino) ino (4096 * (start / 4096)) (read_len (size_in files ino) (4096 * (start / 4096)) (4096 * count))

-- what they are to hold: the new bytes over the old ones, and zeros behind both
abbrev pub staged_in : View → Files → ℕ → ℕ → ℕ → List ℕ → List ℕ
staged_in k files ino start count new = staged_bytes (old_in k files ino start count) (start - 4096 * (start / 4096)) new count

-- Where the World stands together, a file can be read,
abbrev pub StandsReadable : Type 0
StandsReadable =
    (g : Geometry) (k : View) (t : Tables) (kept : Kept) (lines : Bool) (n : ℕ) (s : State) (ino : ℕ) → StandsAt g k t kept lines n s → (inode k.volume ino).kind ≡ File
    → FileCanBeRead k.volume k.cells (runs_in kept.files ino) ino

-- and words that spell this spell the file with the new bytes written over, in the blocks of the entry.
abbrev pub StagesTheFile : Type 0
StagesTheFile =
    (g : Geometry) (k : View) (t : Tables) (kept : Kept) (lines : Bool) (n : ℕ) (s : State) (ino start : ℕ) (new words : List ℕ) (draft : Draft) → (stands : StandsAt g k t kept lines n s) → (inode k.volume ino).kind ≡ File
    → draft.file_block ≡ start / 4096 → start + length new ≤ 4096 * (start / 4096 + draft.count) → SpellBytes words (staged_in k kept.files ino start draft.count new)
    → SpellWhole draft words (overwritten (bytes_of (node_at s.nodes (number stands.numbers ino))) start new)
