-- The laws of overlays and entries, each as one statement.
use Rattle.std.specs.Prelude.{◌≡◌, ◌≢◌, ℕ, List, [], ◌∷◌, ◌++◌}
use Rattle.write_jobs.specs.pm_model.Words.{Words}
use Rattle.file_reads.specs.data_route.Reads.{read_len}
use Rattle.write_jobs.specs.layout_model.declared.lines.Draft.{Draft}
use Rattle.write_jobs.specs.world_model.image_model.Content.{disk_of}
use Rattle.write_jobs.specs.world_model.image_model.Volume.{inode, Volume}
use Rattle.file_reads.specs.file_overlay.declared.runs.Run.{Run}
use Rattle.file_reads.specs.Reads.{block_in, bytes_in}
use Rattle.write_jobs.specs.posix_tables.Bytes.{bytes_from}
use Rattle.write_jobs.specs.world_model.Latest.{AreBelow}
use Rattle.write_jobs.specs.world_model.Stands.{entries_of, FileStands, LogStands}
use Rattle.live_model.specs.Overlays.{IsOverlayOf, run_of}

-- What lies over the map is what the log says: each block of the file is the same by both.
abbrev pub OverlayIsLog : Type 0
OverlayIsLog =
    (v : Volume) (live : List Draft) (ino size : ℕ) (runs : List Run) (block : ℕ) → LogStands v live → IsOverlayOf v live ino runs size
    → block_in v runs ino block ≡ disk_of v live ino block

-- So the bytes that are read are those of the file.
abbrev pub OverlayReadsFile : Type 0
OverlayReadsFile =
    (v : Volume) (live : List Draft) (f : Words) (ino size : ℕ) (runs : List Run) (bytes : List ℕ) (place n : ℕ) → LogStands v live → IsOverlayOf v live ino runs size → FileStands v live f ino bytes
    → bytes_from bytes place n ≡ bytes_in v f runs ino place (read_len size place n)

-- Where nothing of the file is live, nothing is laid, and the size is that of the inode.
abbrev pub NothingIsLaid : Type 0
NothingIsLaid = (v : Volume) (live : List Draft) (ino : ℕ) → entries_of ino live ≡ [] → IsOverlayOf v live ino [] (inode v ino).size

-- An entry more of the file, above the others in order, is a run more, and the size is its;
abbrev pub LaysEntry : Type 0
LaysEntry =
    (v : Volume) (live : List Draft) (d : Draft) (runs : List Run) (size : ℕ) → AreBelow d.order (entries_of d.ino live) → IsOverlayOf v live d.ino runs size
    → IsOverlayOf v (live ++ d ∷ []) d.ino (runs ++ run_of d ∷ []) d.size

-- and other files are as they were.
abbrev pub LaysBeside : Type 0
LaysBeside =
    (v : Volume) (live : List Draft) (d : Draft) (ino : ℕ) (runs : List Run) (size : ℕ) → d.ino ≢ ino → IsOverlayOf v live ino runs size → IsOverlayOf v (live ++ d ∷ []) ino runs size
