-- Between two rounds of a run by threads, and how a round turns out.
use Rattle.std.specs.Prelude.{◌≡◌, ◌≤◌, ◌+◌, ◌*◌, ◌^◌, ℕ, true, false, List, [], length, Ok, Option, Some, None}
use Rattle.thread_laws.specs.world_view_laws.pm_model.declared.Cell.{Cell}
use Rattle.thread_laws.specs.world_view_laws.pm_model.Powers.{Steps, Supply}
use Rattle.thread_laws.specs.world_view_laws.posix_types.declared.item.Item.{Item}
use Rattle.thread_laws.specs.world_view_laws.posix_spec.Run.{Unfinished}
use Rattle.thread_laws.specs.world_view_laws.posix_spec.Scripted.{IsComplete}
use Rattle.thread_laws.specs.world_view_laws.Rounds.{IsLeft, IsNextRound}
use Rattle.thread_laws.specs.world_view_laws.Views.{WorldView}
use Rattle.thread_laws.specs.world_view_laws.k_journal.declared.outcomes.Commit.{Commit}
use Rattle.split_world.specs.world_parts.Answers.{HasTreeOf, IsCheckpoint}
use Rattle.split_world.specs.world_parts.declared.outcomes.Ended.{Ended}
use Rattle.thread_laws.specs.Hands.{lap_of}
use Rattle.thread_laws.specs.Stands.{IsInRound}
use Rattle.split_threads.specs.Ends.{IsEndedByThreads}
use Rattle.split_threads.specs.declared.closes.Turned.{Turned}

-- THE WORLD IS BETWEEN TWO ROUNDS of a run that began with the first: its lines are at home, nothing is claimed or out, the power is on, and
-- each act paid for 2^26 steps of it.
pub record IsBetweenRounds (first : WorldView) (stop : Option ℕ) (w : WorldView) (power : Supply) : Type 0 where
  pub geometry : w.geometry ≡ first.geometry
  pub start : w.start ≡ first.start
  pub scripts : w.scripts ≡ first.scripts
  pub lines : 1 ≤ w.geometry.log
  pub threads : length w.scripts.threads ≤ 8
  pub usable : w.usable ≡ true
  pub lines_home : w.lines_out ≡ false
  pub awake : w.lost ≡ false
  pub going : w.over ≡ None
  pub none_returned : w.settled ≡ length w.history
  pub none_claimed : w.claims ≡ []
  pub none_out : w.pending ≡ []
  pub none_given_up : w.given_up ≡ 0
  pub given : power.given ≡ stop
  pub paid : power.taken ≤ 2 ^ 26 * w.acts

-- ---- how a round turns out

-- This is left of a World that this one became without a call more.
pub record IsLeftOf (w : WorldView) (pm : List Cell) (history : List Item) (unfinished : List Unfinished) : Type 0 where
  pub last : WorldView
  pub geometry : last.geometry ≡ w.geometry
  pub start : last.start ≡ w.start
  pub scripts : last.scripts ≡ w.scripts
  pub same : last.history ≡ w.history
  pub left : IsLeft last pm history unfinished

-- The next round begins, with no job out.
pub record IsTurnedNext (w : WorldView) (power : Supply) (new : WorldView) (after : Supply) : Type 0 where
  pub next : IsNextRound w new after
  pub steps : Steps (2 ^ 26) power after
  pub none_out : w.pending ≡ []

-- The run is whole.
pub record IsTurnedWhole (w : WorldView) (pm : List Cell) (history : List Item) : Type 0 where
  pub left : IsLeftOf w pm history []
  pub complete : IsComplete w.scripts w.history
  pub tree : HasTreeOf w pm

-- The power is lost, which was for so many steps.
pub record IsTurnedLost (w : WorldView) (power : Supply) (pm : List Cell) (history : List Item) (unfinished : List Unfinished) : Type 0 where
  pub left : IsLeftOf w pm history unfinished
  pub steps : ℕ
  pub given : power.given ≡ Some steps
  pub afforded : steps ≤ 2 ^ 31 * (length w.history + 2)

-- A CHECKPOINT WAS MADE of the World of a round, with its lines home and no job out, and answered this.
pub record HasCheckpointed (old : WorldView) (before : Supply) (new : WorldView) (after : Supply) (commit : Commit) : Type 0 where
  pub in_round : IsInRound old before
  pub awake : old.lost ≡ false
  pub none_out : old.pending ≡ []
  pub steps : Steps (2 ^ 26) before after
  pub answer : IsCheckpoint old new after (Ok commit)

-- HOW A ROUND TURNS OUT whose World came out of the turn with this power.
abbrev pub IsTurned : WorldView → Supply → Turned → Type 0
IsTurned w power (Turned.Next new after) = IsTurnedNext w power new after
IsTurned w power (Turned.Ended (Ended.Whole pm history)) = IsTurnedWhole w pm history.items
IsTurned w power (Turned.Ended (Ended.Lost crashed)) = IsTurnedLost w power crashed.pm crashed.history.items crashed.unfinished.items

-- and of one that began with this World and power: of the one that came out no more is said than that it is of the same lap
pub record IsTurnedFrom (w : WorldView) (power : Supply) (turned : Turned) : Type 0 where
  pub last : WorldView
  pub after : Supply
  pub lap : lap_of last ≡ lap_of w
  pub given : after.given ≡ power.given
  pub in_round : IsInRound last after
  pub turned_is : IsTurned last after turned

-- WHAT A ROUND LEAVES of a run: the next one may begin; or the run has ended.
abbrev pub IsRoundDone : WorldView → Option ℕ → Turned → Type 0
IsRoundDone first stop (Turned.Next w power) = IsBetweenRounds first stop w power
IsRoundDone first stop (Turned.Ended ended) = IsEndedByThreads first stop ended
