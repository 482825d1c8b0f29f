-- What is so of a volume by which the calls see the files, whatever the device is at: K-Split's, with log entries that are claimed, or that of a
-- batch, with the lengths in memory and the staged runs as entries.
use Rattle.std.specs.Prelude.{◌≡◌, ◌≤◌, ◌<◌, ◌+◌, ◌*◌, ◌/◌, ◌^◌, ℕ, List, [], length, Some}
use Rattle.eof_laws.specs.block_counts.Counts.{blocks_for, chains_for}
use Rattle.eof_laws.specs.Ends.{FilesEnd}
use Rattle.eof_laws.specs.extent_model.Extents.{IsCanonical}
use Rattle.eof_laws.specs.k_plans.Whole.{IsWhole}
use Rattle.eof_laws.specs.k_split_model.MapChangesChanges.{holes}
use Rattle.eof_laws.specs.posix_tables.Room.{write_need}
use Rattle.layout_model.specs.pm_model.Cells.{cell}
use Rattle.layout_model.specs.pm_model.declared.Cell.TheVariants.{Single}
use Rattle.layout_model.specs.pm_model.Images.{words_of}
use Rattle.layout_model.specs.pm_model.Words.{Words}
use Rattle.layout_model.specs.Journal.{journaled}
use Rattle.layout_model.specs.Places.{commit_word, data_blocks, reserve}
use Rattle.layout_model.specs.declared.lines.Draft.{Draft}
use Rattle.layout_model.specs.declared.lines.Kind.TheVariants.{File}
use Rattle.live_model.specs.data_route.Writes.{plan_of}
use Rattle.live_model.specs.image_model.Room.{unused_blocks}
use Rattle.live_model.specs.image_model.Volume.{chain, extents, inode, Volume}
use Rattle.live_model.specs.file_reads.Reads.{FileCanBeRead}
use Rattle.file_table.specs.Files.{Files, runs_in, size_in}
use Rattle.live_model.specs.write_jobs.Blocks.{SpellWhole}
use Rattle.live_model.specs.write_jobs.Contents.{SpellBytes}
use Rattle.live_model.specs.k_split_model.View.{View}
use Rattle.live_model.specs.staging_files.declared.runs.StageRun.{StageRun}
use Rattle.live_model.specs.staging_files.Keeps.{IsStaged, IsStaging, Staged}
use Rattle.posix_types.specs.declared.call.Mode.{Mode}
use Rattle.posix_tables.specs.Bytes.{overwritten}
use Rattle.posix_tables.specs.Nodes.{bytes_of, node_at}
use Rattle.open_files.specs.posix_spec.State.{Fits, State}
use Rattle.live_model.specs.world_model.HeldLaws.{AreSizes}
use Rattle.live_model.specs.world_model.Jobs.{Job, live_claims}
use Rattle.live_model.specs.world_model.Stands.{entries_of, number, Stands}
use Rattle.live_model.specs.world_step_laws.Worlds.{IsWorld}
use Rattle.live_model.specs.Flying.{AreOverlays}
use Rattle.live_model.specs.Standing.{file_state}
use Rattle.write_plan.specs.Asks.{room_in}
use Rattle.write_plan.specs.declared.asks.asking.Target.{Target}
use Rattle.write_plan.specs.Drafts.{draft_in, HasRun, IsNextEntry}
use Rattle.write_plan.specs.Words.{staged_in}

-- A FILE IS SHOWN by this volume: the World is valid with it at the words that the device shows, the runs and sizes that are kept are
-- those of the live claims, its maps are K-Split's, the file can be read, and the journal is idle.
pub record ShowsFile (k : View) (v : Volume) (claims : List (ℕ × Draft)) (jobs : List Job) (files : Files) (numbers : List ℕ) (s : State) (count ino : ℕ) : Type 0 where
  pub file : (inode v ino).kind ≡ File
  pub world : IsWorld v claims jobs (journaled (words_of k.cells)) numbers s count
  pub overlays : AreOverlays v (live_claims v claims) (file_state files)
  pub maps : v.maps ≡ k.volume.maps
  pub readable : FileCanBeRead v k.cells (runs_in files ino) ino
  pub idle : cell k.cells commit_word ≡ Single 0

-- Words that spell the new bytes over the old ones spell the file so, in the blocks of the entry.
abbrev pub StagesWhatIsShown : Type 0
StagesWhatIsShown =
    (k : View) (v : Volume) (claims : List (ℕ × Draft)) (jobs : List Job) (files : Files) (numbers : List ℕ) (s : State) (count ino start : ℕ) (new words : List ℕ) (draft : Draft)
    → ShowsFile k v claims jobs files numbers s count ino → draft.file_block ≡ start / 4096 → start + length new ≤ 4096 * (start / 4096 + draft.count)
    → SpellBytes words (staged_in k files ino start draft.count new) → SpellWhole draft words (overwritten (bytes_of (node_at s.nodes (number numbers ino))) start new)

-- The entry of a write is the next one of its file, by the runs that are kept.
abbrev pub DraftsAreNextShown : Type 0
DraftsAreNextShown =
    (v : Volume) (claims : List (ℕ × Draft)) (jobs : List Job) (f : Words) (files : Files) (staging : Staged) (numbers : List ℕ) (s : State) (count n : ℕ) (target : Target) (len : ℕ) (run : StageRun)
    → IsWorld v claims jobs f numbers s count → AreOverlays v (live_claims v claims) (file_state files) → IsStaged staging
    → (inode v target.ino).applied + length (entries_of target.ino (live_claims v claims)) ≤ 2 ^ 62 + n → n < 2 ^ 62
    → (inode v target.ino).kind ≡ File → HasRun v staging target len run → IsNextEntry v claims (draft_in v files target len run)

-- ALL BLOCKS ARE IN FILES: nothing lies past the end of a file, each map has its one spelling and a chain that is as long as it wants, as its
-- line says, and staging files have none.
pub record AreInFiles (v : Volume) (files : Files) : Type 0 where
  pub whole : IsWhole v
  pub count : length files.sizes ≡ length v.inodes
  pub chains : (ino : ℕ) → ino < length v.inodes → length (chain v ino) ≡ chains_for (length (extents v ino))
  pub canonical : (ino : ℕ) → ino < length v.inodes → IsCanonical (extents v ino)
  pub lines : (ino : ℕ) → ino < length v.inodes → length (extents v ino) ≡ (inode v ino).extents
  pub ends : FilesEnd v files
  pub staging : (ino : ℕ) → IsStaging ino → extents v ino ≡ []

-- and what the state holds, which the volume stands for, leaves the reserve
pub record LeavesReserve (v : Volume) (live : List Draft) (f : Words) (numbers : List ℕ) (s : State) (files : Files) : Type 0 where
  pub stands : Stands v live f numbers s
  pub sizes : AreSizes v live files.sizes
  pub fits : Fits s
  pub blocks : s.shape.data_blocks ≡ data_blocks v.geometry

-- Then a write that there is room for has blocks for the run of its plan, in any mode,
abbrev pub FirstRunFits : Type 0
FirstRunFits =
    (v : Volume) (live : List Draft) (f : Words) (numbers : List ℕ) (s : State) (files : Files) (mode : Mode) (size start len : ℕ) (run : ℕ × ℕ) → AreInFiles v files → LeavesReserve v live f numbers s files
    → write_need mode size start (start + len) ≤ room_in (data_blocks v.geometry) files → (plan_of mode size start len).staged ≡ Some run
    → run.1 + reserve v.geometry ≤ unused_blocks v + 1

-- and as many blocks are unused as a file lacks below its end, and the reserve.
abbrev pub FirstHolesAreUnused : Type 0
FirstHolesAreUnused =
    (v : Volume) (live : List Draft) (f : Words) (numbers : List ℕ) (s : State) (files : Files) (ino first count : ℕ) → AreInFiles v files → LeavesReserve v live f numbers s files → (inode v ino).kind ≡ File
    → first + count ≤ blocks_for (size_in files ino) → length (holes (extents v ino) first count) + reserve v.geometry ≤ unused_blocks v
