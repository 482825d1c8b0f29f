-- A round of a World begins and ends, and the whole run, each law as one statement.
use Rattle.std.specs.Prelude.{◌≡◌, ◌≤◌, ◌+◌, ◌^◌, ℕ, true, false, List, [], length, None, Ok}
use Rattle.world_view_laws.specs.eof_laws.pm_model.Cells.{cell, is_lent}
use Rattle.world_view_laws.specs.eof_laws.pm_model.Images.{IsImage}
use Rattle.world_view_laws.specs.eof_laws.pm_model.Parts.{Part}
use Rattle.world_view_laws.specs.eof_laws.pm_model.Words.{Words}
use Rattle.world_view_laws.specs.eof_laws.layout_model.Journal.{journaled}
use Rattle.world_view_laws.specs.eof_laws.layout_model.Places.{log_line}
use Rattle.world_view_laws.specs.eof_laws.image_model.Volume.{volume}
use Rattle.world_view_laws.specs.eof_laws.file_table.Files.{Files}
use Rattle.world_view_laws.specs.file_publish.k_split.Laps.{HasNextLap, HasSingleLog, IsLogWord}
use Rattle.world_view_laws.specs.file_publish.k_split.LogLines.{AreLogLines}
use Rattle.world_view_laws.specs.file_publish.k_split.Order.{IsInOrder}
use Rattle.world_view_laws.specs.eof_laws.k_journal.declared.outcomes.Commit.{Commit}
use Rattle.world_view_laws.specs.eof_laws.k_split_model.View.{View}
use Rattle.world_view_laws.specs.eof_laws.block_io.Lines.{LinesComeBack}
use Rattle.world_view_laws.specs.eof_laws.posix_tables.Open.{Tables}
use Rattle.world_view_laws.specs.file_publish.log_checkpoint.Gathers.{file_count, IsGatherAnswer, MayGather, total_runs}
use Rattle.world_view_laws.specs.file_publish.staging_files.GivesUp.{AllStagedSingle}
use Rattle.world_view_laws.specs.world_image_laws.Images.{HasNoEntry}
use Rattle.world_view_laws.specs.Lines.{HoldTheClaims}
use Rattle.world_view_laws.specs.Losses.{MayCrash}
use Rattle.world_view_laws.specs.Rounds.{AreClaimsApplied, IsLeft, MayCheckpoint}
use Rattle.world_view_laws.specs.Views.{calls_out, Disk, disk_of, IsWorldOver, WorldView}
use Rattle.world_view_laws.specs.file_publish.staging_files.Keeps.{Staged}

-- ---- the log's lines go out

-- WHAT TAKING THE LOG'S LINES ASKS FOR, and what a round says of its base and of how many lines there are
pub record MayTakeLog (k : View) (w : WorldView) : Type 0 where
  pub on : k.lost ≡ false
  pub single : HasSingleLog k
  pub low : w.base ≤ 2 ^ 63
  pub few : w.geometry.log ≤ 4096

-- With the lines at home a round may begin, while the power is on.
abbrev pub MayBegin : Type 0
MayBegin =
    (k : View) (t : Tables) (staging : Staged) (files : Files) (w : WorldView)
    → IsWorldOver k t staging files w → w.lost ≡ false → w.lines_out ≡ false → MayTakeLog k w

-- ---- the log's lines come home

-- WHAT PUTTING THE LOG'S LINES BACK ASKS FOR: they are the log's, by rising slot, and all words of the log are lent.
pub record MayPutLog (k : View) (lines : List Part) : Type 0 where
  pub lines_are : AreLogLines k.volume lines
  pub out : (i : ℕ) → IsLogWord k.volume i → is_lent (cell k.cells i) ≡ true

-- WHAT IT LEAVES: they are back, no word of the log is lent any more, and K-Split is in order and else as it was.
pub record TakesLogBack (k l : View) (lines : List Part) : Type 0 where
  pub same : l ≡ record k { cells = l.cells }
  pub order : IsInOrder l
  pub back : LinesComeBack (log_line k.volume.geometry 0) lines k.cells l.cells
  pub home : (i : ℕ) → IsLogWord k.volume i → is_lent (cell l.cells i) ≡ false

-- The lines of a round that hold the claims may be put back while the power is on.
abbrev pub MayEnd : Type 0
MayEnd =
    (k : View) (t : Tables) (staging : Staged) (files : Files) (w : WorldView) (lines : List Part)
    → IsWorldOver k t staging files w → w.lost ≡ false → HoldTheClaims w lines → MayPutLog k lines

-- A WORLD THAT ENDS ITS ROUND, or its run: the power is on, no job is out, and the lines, which hold the claims, are back.
pub record IsEnding (k l : View) (t : Tables) (staging : Staged) (files : Files) (w : WorldView) (lines : List Part) : Type 0 where
  pub world : IsWorldOver k t staging files w
  pub awake : w.lost ≡ false
  pub none_out : w.pending ≡ []
  pub holds : HoldTheClaims w lines
  pub back : TakesLogBack k l lines

-- ---- all that is staged is gathered

-- WHAT A GATHERING ASKS FOR, and how much there is to gather at most.
pub record ReadyToGather (files : Files) (l : View) : Type 0 where
  pub on : l.lost ≡ false
  pub unbatched : l.batched ≡ false
  pub may : MayGather files l
  pub single : AllStagedSingle l
  pub next : HasNextLap l
  pub few : total_runs files + file_count l.volume ≤ 1275

abbrev pub EndsReady : Type 0
EndsReady =
    (k l : View) (t : Tables) (staging : Staged) (files : Files) (w : WorldView) (lines : List Part)
    → IsEnding k l t staging files w lines → ReadyToGather files l

-- ---- a checkpoint

-- the World once a checkpoint is done
abbrev pub next_view : WorldView → Disk → WorldView
next_view w disk = record w {
  base = w.base + w.geometry.log;
  settled = length w.history;
  claims = [];
  over = None;
  given_up = 0;
  acts = w.acts + 1;
  disk = disk;
  lines_out = false;
}

-- the World once the power went in it, after these acts, and with these lines at home since then
abbrev pub lost_round : WorldView → ℕ → Disk → List Part → WorldView
lost_round w acts disk home = record w { acts = acts; disk = disk; lines_out = false; home = home; lost = true }

-- DONE: the World goes on with the next round.
abbrev pub GoesIntoNextRound : Type 0
GoesIntoNextRound =
    (k l m : View) (t : Tables) (staging then : Staged) (files table : Files) (w : WorldView) (lines : List Part)
    → IsEnding k l t staging files w lines → MayCheckpoint w lines → IsGatherAnswer files l then table m (Ok Commit.Done)
    → IsWorldOver m t then table (next_view w (disk_of m t then table))

-- Each claim of the lap is applied by its file.
abbrev pub AppliesClaims : Type 0
AppliesClaims =
    (k l m : View) (t : Tables) (staging then : Staged) (files table : Files) (w : WorldView) (lines : List Part)
    → IsEnding k l t staging files w lines → IsGatherAnswer files l then table m (Ok Commit.Done)
    → AreClaimsApplied w.claims (disk_of m t then table)

-- THE POWER WENT in it: the World is lost, with the lines at home.
abbrev pub LosesRoundInside : Type 0
LosesRoundInside =
    (k l m : View) (t : Tables) (staging then : Staged) (files table : Files) (w : WorldView) (lines : List Part)
    → IsEnding k l t staging files w lines → IsGatherAnswer files l then table m (Ok Commit.PowerLost)
    → IsWorldOver m t then table (lost_round w (w.acts + 1) (disk_of m t then table) w.home)

-- It had gone: the lines are kept.
abbrev pub LosesRoundBefore : Type 0
LosesRoundBefore =
    (k : View) (t : Tables) (staging : Staged) (files : Files) (w : WorldView) (lines : List Part)
    → IsWorldOver k t staging files w → w.lost ≡ true → w.pending ≡ [] → HoldTheClaims w lines
    → IsWorldOver k t staging files (lost_round w w.acts (disk_of k t staging files) lines)

-- ---- the end of the run

-- DONE: nothing is unfinished,
abbrev pub EndsRunWhole : Type 0
EndsRunWhole =
    (k l m : View) (t : Tables) (staging then : Staged) (files table : Files) (w : WorldView) (lines : List Part)
    → IsEnding k l t staging files w lines → IsGatherAnswer files l then table m (Ok Commit.Done) → IsLeft w m.cells w.history []

-- and all is published: by each image no slot of the log has an entry.
abbrev pub EndsRunEmpty : Type 0
EndsRunEmpty =
    (k l m : View) (t : Tables) (staging then : Staged) (files table : Files) (w : WorldView) (lines : List Part)
    → IsEnding k l t staging files w lines → IsGatherAnswer files l then table m (Ok Commit.Done)
    → (image : Words) → IsImage m.cells image → HasNoEntry (volume w.geometry (journaled image)) (journaled image)

-- THE POWER WENT.
abbrev pub LosesRun : Type 0
LosesRun =
    (k l m : View) (t : Tables) (staging then : Staged) (files table : Files) (w : WorldView) (lines : List Part)
    → IsEnding k l t staging files w lines → IsGatherAnswer files l then table m (Ok Commit.PowerLost)
    → IsLeft w m.cells w.history (calls_out w)

-- It had gone: with no job out, the lines that hold the claims are all that a crash asks for.
abbrev pub MayCrashWhole : Type 0
MayCrashWhole = (w : WorldView) (lines : List Part) → w.pending ≡ [] → HoldTheClaims w lines → MayCrash w lines [] []
