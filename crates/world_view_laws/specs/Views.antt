-- What contracts see of a World, and what it keeps.
use Rattle.std.specs.Prelude.{◌≡◌, ◌≢◌, ◌⊎◌, ◌<◌, ◌≤◌, ◌+◌, ◌*◌, ◌-◌, ◌^◌, ℕ, Bool, true, false, List, [], ◌++◌, length, map, Option, Some, None, slice_get, slice_index, slice_index_or, nat_le, nat_lt, ◌&&◌, if◌then◌else◌}
use Rattle.std.specs.List.{range_with_len}
use Rattle.in_flight.specs.pm_model.declared.Cell.{Cell}
use Rattle.in_flight.specs.pm_model.Cells.{AllHome, cell, is_lent}
use Rattle.in_flight.specs.pm_model.Images.{words_of}
use Rattle.in_flight.specs.pm_model.Parts.{Part}
use Rattle.in_flight.specs.pm_model.Words.{Words}
use Rattle.in_flight.specs.block_io.Overwrites.{IsInLines}
use Rattle.file_calls.specs.extent_model.declared.extent_words.Extent.{Extent}
use Rattle.file_calls.specs.file_overlay.declared.runs.Run.{Run}
use Rattle.in_flight.specs.layout_model.declared.lines.Draft.{Draft}
use Rattle.in_flight.specs.layout_model.declared.lines.Inode.{Inode}
use Rattle.in_flight.specs.layout_model.Places.{Geometry, log_line}
use Rattle.in_flight.specs.image_model.Volume.{free_inode, Volume}
use Rattle.file_calls.specs.batch_laws.Together.{PosixStandsAt}
use Rattle.file_calls.specs.eof_laws.Ends.{DraftEnds, FilesEnd}
use Rattle.in_flight.specs.file_table.Files.{Files, runs_in}
use Rattle.in_flight.specs.k_split_model.View.{View}
use Rattle.in_flight.specs.block_io.Lines.{AreFrom, LinesComeBack}
use Rattle.in_flight.specs.list_laws.Members.{In}
use Rattle.in_flight.specs.posix_types.declared.call.Call.{Call}
use Rattle.in_flight.specs.posix_types.declared.call.Mode.{Mode}
use Rattle.in_flight.specs.posix_types.declared.call.Who.{Who}
use Rattle.in_flight.specs.posix_types.declared.item.Item.{Item}
use Rattle.in_flight.specs.posix_types.Scripts.{Scripts}
use Rattle.in_flight.specs.posix_tables.Open.{Tables}
use Rattle.in_flight.specs.posix_spec.Run.{Unfinished, IsLegal, run}
use Rattle.in_flight.specs.posix_spec.Scripted.{call_count, next_call, script_of, Scripted}
use Rattle.in_flight.specs.posix_spec.State.{State}
use Rattle.in_flight.specs.posix_spec.Unfinished.{AreUnfinished}
use Rattle.in_flight.specs.crash_spec.Busy.{Out}
use Rattle.in_flight.specs.Busy.{files_by}
use Rattle.in_flight.specs.k_split.MapChanges.{free_blocks_in}
use Rattle.in_flight.specs.staging_files.GivesUp.{nothing_staged}
use Rattle.in_flight.specs.staging_files.Keeps.{Staged}
use Rattle.in_flight.specs.world_image_laws.Images.{HasOldLines}
use Rattle.in_flight.specs.world_image_laws.Promised.{KeepsPromise}
use Rattle.in_flight.specs.live_model.Standing.{Kept, JobOut, StandsAt}
use Rattle.file_calls.specs.Built.{NamesAreSpelled}
use Rattle.write_end.specs.Ends.{begun_by}
use Rattle.write_end.specs.LosingLaws.{AreSpelled}
use Rattle.write_end.specs.Lost.{IsLostWith}
use Rattle.world_view_laws.specs.declared.views.over.Over.{Over}

-- What stands below the calls: the cells of the device; the tables of the open files, whose nodes are inodes; the inode lines, and the map of
-- each; how many blocks are free; what the staging keeps; and of each inode the runs that are staged, and the size with them.
pub record Disk : Type 0 where
  pub cells : List Cell
  pub tables : Tables
  pub inodes : List Inode
  pub maps : List (List Extent)
  pub free : ℕ
  pub staging : Staged
  pub overlays : List (List Run)
  pub sizes : List ℕ

-- the runs that are staged, inode by inode
abbrev pub overlays_of : Files → List (List Run)
overlays_of files = map (runs_in files) (range_with_len 0 (length files.sizes))

abbrev pub disk_of : View → Tables → Staged → Files → Disk
disk_of k t staging files = record {
  cells = k.cells;
  tables = t;
  inodes = k.volume.inodes;
  maps = k.volume.maps;
  free = free_blocks_in k;
  staging = staging;
  overlays = overlays_of files;
  sizes = files.sizes;
}

-- the inode line of this number
abbrev pub inode_on : Disk → ℕ → Inode
inode_on d ino = slice_index_or d.inodes ino free_inode

-- the map of this number, and the runs that are staged of it
abbrev pub map_on : Disk → ℕ → List Extent
map_on d ino = slice_index_or d.maps ino []

abbrev pub runs_on : Disk → ℕ → List Run
runs_on d ino = slice_index_or d.overlays ino []

-- THE WORLD as contracts see it: the geometry; the log's base; the state at the start and the scripts; the calls that returned, and
-- how many of them had at the last mount or checkpoint; the pairs of slot and entry that were given to `finish` in this lap; the
-- jobs that are out, in the order of their beginning; the call that lost its power in `begin`; what ended the round, and how many
-- jobs were given up in it; how many calls acted; what stands below; whether the log's lines are out, and those that came home
-- after the power went; the words that they had when they went out, line after line; whether the power went; and whether the World goes on, or is
-- only to be dropped, since memory ran out within a change.
pub record WorldView : Type 0 where
  pub geometry : Geometry
  pub base : ℕ
  pub start : State
  pub scripts : Scripts
  pub history : List Item
  pub settled : ℕ
  pub claims : List (ℕ × Draft)
  pub pending : List JobOut
  pub unfinished : List Unfinished
  pub over : Option Over
  pub given_up : ℕ
  pub acts : ℕ
  pub disk : Disk
  pub lines_out : Bool
  pub home : List Part
  pub first : List ℕ
  pub lost : Bool
  pub usable : Bool

-- the state of its history
abbrev pub state_of : WorldView → State
state_of w = run w.start w.history

-- a caller's next call
abbrev pub next_of : WorldView → Who → Option Call
next_of w who = next_call w.scripts w.history who

-- THE CALLS THAT HAVE BEGUN AND NOT RETURNED, in the order of their beginning: those of jobs, and the one that lost its power.
abbrev pub calls_out : WorldView → List Unfinished
calls_out w = map begun_by w.pending ++ w.unfinished

-- the files of the jobs that are out, with their callers, as calls wait for them
abbrev pub files_out : WorldView → List Out
files_out w = files_by (state_of w) w.pending

-- the caller has no job out
abbrev pub HasNone : WorldView → Who → Type 0
HasNone w who = (p : JobOut) → In p w.pending → p.who ≢ who

-- word i of the device in its log lines, of which these are all words; other words are 0
abbrev pub first_by : Geometry → List ℕ → Words
first_by g words i =
    if nat_le (8 * log_line g 0) i && nat_lt i (8 * log_line g 0 + length words) then slice_index words (i - 8 * log_line g 0) else 0

-- ---- what it keeps

abbrev pub kept_of : WorldView → Staged → Files → Kept
kept_of w staging files = record { staging = staging; files = files; claims = w.claims; pending = w.pending; first = first_by w.geometry w.first }

-- each path under which a call may give a node a name is spelled
abbrev pub AreSpelledCalls : Scripts → Type 0
AreSpelledCalls scripts = (who : Who) (i : ℕ) (call : Call) → slice_get (script_of scripts who) i ≡ Some call → NamesAreSpelled call

-- With the log's lines at home nothing is lent or claimed, and each line that is an entry is one of an earlier lap.
pub record IsLogHome (k : View) (w : WorldView) : Type 0 where
  pub home : AllHome k.cells
  pub none : w.claims ≡ []
  pub old : HasOldLines k.volume (words_of k.cells)

-- WHILE THE POWER IS ON, K-Split and what is kept beside it stand together in the state of the history, in POSIX mode with the batch that
-- K-Split gathers, in which no block waits while no call returned in the round; the runs of the staging that are
-- out are those of the jobs, and outside POSIX mode of the claims of this lap, one each, and no other; in POSIX mode just those of the jobs
-- until a call returned in the round. While the round goes on with none out, nothing is staged; each claim is an entry that a line can
-- hold; and nothing of a file or of an entry lies past its end.
pub record IsGoing (k : View) (t : Tables) (staging : Staged) (files : Files) (w : WorldView) : Type 0 where
  pub stands : w.start.mode ≢ Mode.Posix → StandsAt w.geometry k t (kept_of w staging files) w.lines_out (length w.history) (state_of w)
  pub gathers : w.start.mode ≡ Mode.Posix → PosixStandsAt w.geometry k t (kept_of w staging files) w.lines_out (length w.history) w.start w.history
  pub waits : w.start.mode ≡ Mode.Posix → w.settled ≡ length w.history → k.waiting ≡ []
  pub counted : w.start.mode ≢ Mode.Posix → length staging.out ≡ length w.claims + length w.pending
  pub runs : w.settled ≡ length w.history → length staging.out ≡ length w.pending
  pub bare : w.over ≡ None → staging.out ≡ [] → staging ≡ nothing_staged
  pub none_unfinished : w.unfinished ≡ []
  pub none_home : w.home ≡ []
  pub base : w.base ≡ k.volume.base
  pub spelled : AreSpelled w.claims
  pub ends : FilesEnd k.volume files
  pub drafts_end : (p : JobOut) → In p w.pending → DraftEnds p.draft
  pub log_home : w.lines_out ≡ false → IsLogHome k w

-- ONCE IT WENT. With the log's lines out: with the volume that stood before the last change, the promise over all that may be put back.
pub record IsLostOut (staging : Staged) (files : Files) (w : WorldView) : Type 0 where
  pub volume : Volume
  pub geometry : volume.geometry ≡ w.geometry
  pub base : volume.base ≡ w.base
  pub none_home : w.home ≡ []
  pub size : length w.disk.cells ≡ 512 * w.geometry.blocks
  pub at : IsLostWith volume w.disk.cells (kept_of w staging files) w.start w.history w.unfinished

-- The lines that came home come back into the device
pub record ComesHomeTo (w : WorldView) (e : List Cell) : Type 0 where
  pub size : length e ≡ length w.disk.cells
  pub back : LinesComeBack (log_line w.geometry 0) w.home w.disk.cells e
  pub home : (i : ℕ) → IsInLines (log_line w.geometry 0) (length w.home) i → is_lent (cell e i) ≡ false

-- With them at home: no job is out; and once the lines that came home after the loss are back, none where they were home before, nothing
-- is lent, and the device keeps the promise.
pub record IsLostHome (w : WorldView) : Type 0 where
  pub none : w.pending ≡ []
  pub size : length w.disk.cells ≡ 512 * w.geometry.blocks
  pub few : length w.home ≤ w.geometry.log
  pub places : AreFrom (log_line w.geometry 0) w.home
  pub out : (i : ℕ) → IsInLines (log_line w.geometry 0) (length w.home) i → is_lent (cell w.disk.cells i) ≡ true
  pub keeps : (e : List Cell) → ComesHomeTo w e → AllHome e × KeepsPromise w.geometry e w.start w.history (calls_out w)

abbrev pub IsLost : Staged → Files → WorldView → Bool → Type 0
IsLost staging files w true = IsLostOut staging files w
IsLost staging files w false = IsLostHome w

-- As many acts as there may have been: 16 for each call that had returned at the last checkpoint, two for each since, and one for each
-- job that is out or was given up.
abbrev pub most_acts : WorldView → ℕ
most_acts w = 16 * w.settled + 2 * (length w.history - w.settled) + length w.pending + w.given_up

-- How far the round came. None was given up while it goes on; jobs that are out and those that were given up are of callers of their
-- own. Where something was claimed in this lap a call returned since the last checkpoint, and where the round is over, or a job is
-- out or was given up. So the acts are a few for each call that returned; and so the log's base is low.
pub record AreCounted (w : WorldView) : Type 0 where
  pub settled : w.settled ≤ length w.history
  pub fresh : w.over ≡ None → w.given_up ≡ 0
  pub out : length w.pending + w.given_up ≤ 9
  pub claimed : w.lost ≡ false → w.claims ≢ [] → w.settled < length w.history
  pub late : w.over ≢ None → (w.pending ≢ []) ⊎ (1 ≤ w.given_up) ⊎ (w.settled < length w.history)
  pub acts : w.acts ≤ most_acts w + 2
  pub acts_on : w.lost ≡ false → w.acts ≤ most_acts w + 1
  pub acts_going : w.lost ≡ false → w.over ≡ None → w.acts ≤ most_acts w
  pub low : w.base ≤ 2 ^ 62 + w.geometry.log * (w.settled + 1)

-- THE WORLD. The mode is strict or sync; the history is legal and follows the scripts; of the calls that have begun and not returned each is
-- the next of its caller's script, which has no other; and it goes on, or the power went.
pub record IsWorldOver (k : View) (t : Tables) (staging : Staged) (files : Files) (w : WorldView) : Type 0 where
  pub mode : w.start.mode ≢ Mode.Posix
  pub few : call_count w.scripts ≤ 4096
  pub threads : length w.scripts.threads ≤ 8
  pub spelled : AreSpelledCalls w.scripts
  pub legal : IsLegal w.start w.history
  pub scripted : Scripted w.scripts w.history
  pub open_calls : AreUnfinished w.scripts w.history (calls_out w)
  pub counted : AreCounted w
  pub disk_is : w.disk ≡ disk_of k t staging files
  pub going : w.lost ≡ false → IsGoing k t staging files w
  pub gone : w.lost ≡ true → IsLost staging files w w.lines_out
