-- What the beginning and the end of a round, and of the whole run, leave.
use Rattle.std.specs.Prelude.{◌≡◌, ◌≢◌, ◌⊎◌, ◌≤◌, ◌+◌, ◌*◌, ◌^◌, ℕ, true, false, List, [], length, None, IsSome}
use Rattle.in_flight.specs.pm_model.declared.Cell.{Cell}
use Rattle.in_flight.specs.pm_model.Cells.{AllHome}
use Rattle.in_flight.specs.pm_model.Parts.{Part}
use Rattle.in_flight.specs.pm_model.Powers.{is_on, Supply}
use Rattle.in_flight.specs.posix_types.declared.item.Item.{Item}
use Rattle.in_flight.specs.posix_spec.Run.{Unfinished, IsLegal}
use Rattle.in_flight.specs.layout_model.declared.lines.Draft.{Draft}
use Rattle.in_flight.specs.layout_model.declared.lines.Kind.TheVariants.{File}
use Rattle.in_flight.specs.layout_model.Places.{log_line}
use Rattle.in_flight.specs.list_laws.Members.{In}
use Rattle.in_flight.specs.block_io.Lines.{LinesGoOut}
use Rattle.in_flight.specs.posix_spec.Scripted.{call_count, IsComplete, Scripted}
use Rattle.in_flight.specs.posix_spec.Unfinished.{AreUnfinished}
use Rattle.in_flight.specs.staging_files.GivesUp.{nothing_staged}
use Rattle.in_flight.specs.world_image_laws.Promised.{KeepsPromise}
use Rattle.world_view_laws.specs.Lines.{AreFresh, HoldTheClaims}
use Rattle.world_view_laws.specs.Views.{calls_out, Disk, inode_on, WorldView}

-- A ROUND BEGINS: the log's lines are out, by rising slot, with the words that they had, each alone, and few enough for a log that threads
-- share; the base is that of the lap. Of what stands below the calls only cells differ: those of the lines, which are out.
pub record IsRoundBegun (old new : WorldView) (lines : List Part) (base : ℕ) : Type 0 where
  pub new_is : new ≡ record old { disk = new.disk; lines_out = true; first = new.first }
  pub cells_alone : new.disk ≡ record old.disk { cells = new.disk.cells }
  pub out : LinesGoOut (log_line old.geometry 0) old.disk.cells new.disk.cells lines
  pub lines_are : AreFresh new lines
  pub few : length lines ≤ 4096
  pub base_is : base ≡ old.base
  pub most : base ≤ 2 ^ 63

-- ---- its end

-- WHAT A CHECKPOINT ASKS FOR: the round is over, no job is out, and the lines are the round's and hold the claims, of which there is
-- one where a job was given up.
pub record MayCheckpoint (w : WorldView) (lines : List Part) : Type 0 where
  pub over : IsSome w.over
  pub none_out : w.pending ≡ []
  pub lines_are : HoldTheClaims w lines
  pub some : (w.given_up ≡ 0 → ⊥) → w.claims ≢ []

-- a file that is there has applied each of these claims that is of it
abbrev pub AreClaimsApplied : List (ℕ × Draft) → Disk → Type 0
AreClaimsApplied claims disk =
    (slot : ℕ) (d : Draft) → In (slot, d) claims → (inode_on disk d.ino).kind ≡ File → d.generation ≡ (inode_on disk d.ino).generation
    → d.order ≤ (inode_on disk d.ino).applied

-- DONE: all that was staged is published, so that each claim of the lap is applied by its file and nothing is staged, and the open files
-- are as before; and the next lap began, with the lines at home and nothing claimed.
pub record IsNextRound (old new : WorldView) (power : Supply) : Type 0 where
  pub awake : old.lost ≡ false
  pub on : is_on power ≡ true
  pub new_is : new ≡ record old {
    base = old.base + old.geometry.log;
    settled = length old.history;
    claims = [];
    over = None;
    given_up = 0;
    acts = old.acts + 1;
    disk = new.disk;
    lines_out = false;
  }
  pub applied : AreClaimsApplied old.claims new.disk
  pub staging : new.disk.staging ≡ nothing_staged
  pub tables : new.disk.tables ≡ old.disk.tables

-- THE POWER WENT: the lines are at home, and else nothing that returned differs.
pub record LosesRound (old new : WorldView) (power : Supply) : Type 0 where
  pub off : (old.lost ≡ true) ⊎ (is_on power ≡ false)
  pub new_is : new ≡ record old { acts = new.acts; disk = new.disk; lines_out = false; home = new.home; lost = true }
  pub first_one : old.lost ≡ false → new.acts ≡ old.acts + 1
  pub later_one : old.lost ≡ true → new.acts ≡ old.acts

-- ---- the end of the run

-- WHAT IS LEFT OF A RUN: the calls that returned, of which the history is legal and follows the scripts; the calls that did not, at most
-- one for each caller, the next of its script, none of a thread before the set-up is done; and the device, of which nothing is lent, and
-- which keeps the promise for both.
pub record IsLeft (w : WorldView) (pm : List Cell) (history : List Item) (unfinished : List Unfinished) : Type 0 where
  pub history_is : history ≡ w.history
  pub unfinished_is : unfinished ≡ calls_out w
  pub legal : IsLegal w.start history
  pub scripted : Scripted w.scripts history
  pub open_calls : AreUnfinished w.scripts history unfinished
  pub within : length history ≤ call_count w.scripts
  pub size : length pm ≡ 512 * w.geometry.blocks
  pub home : AllHome pm
  pub promise : KeepsPromise w.geometry pm w.start history unfinished

-- WHAT AN UNMOUNT ASKS FOR: no job is out, the lines are the round's and hold the claims, and every script has ended.
pub record MayUnmount (w : WorldView) (lines : List Part) : Type 0 where
  pub none_out : w.pending ≡ []
  pub lines_are : HoldTheClaims w lines
  pub ended : IsComplete w.scripts w.history
