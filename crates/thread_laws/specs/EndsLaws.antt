-- What a closed round gives the World's end.
use Rattle.std.specs.Prelude.{◌≡◌, ◌≢◌, ◌⊎◌, ◌≤◌, ◌+◌, ◌*◌, ◌^◌, ℕ, true, false, List, [], length, Option, Some, None}
use Rattle.oplog_tail.specs.Logs.{LogView}
use Rattle.oplog_tail.specs.Seats.{SeatView}
use Rattle.round_laws.specs.world_view_laws.pm_model.Parts.{Part}
use Rattle.round_laws.specs.world_view_laws.pm_model.Powers.{is_on, Steps, Supply}
use Rattle.round_laws.specs.world_view_laws.posix_types.declared.call.Who.{Who}
use Rattle.round_laws.specs.world_view_laws.posix_spec.Scripted.{IsComplete, Scripted}
use Rattle.round_laws.specs.world_view_laws.Lines.{HoldTheClaims}
use Rattle.round_laws.specs.world_view_laws.Losses.{MayCrash}
use Rattle.round_laws.specs.world_view_laws.Rounds.{LosesRound, MayCheckpoint, MayUnmount}
use Rattle.round_laws.specs.world_view_laws.Views.{next_of, WorldView}
use Rattle.thread_laws.specs.Stands.{IsBounded, IsInRound}
use Rattle.thread_laws.specs.MovesLaws.{AreFewActs}
use Rattle.thread_laws.specs.Hands.{HandView}
use Rattle.thread_laws.specs.Returned.{filled_jobs_left, HaveStopped, HaveWorkers, IsClosed, IsReturned, jobs_left, Returned}
use Rattle.thread_laws.specs.Works.{HasWorked}
use Rattle.thread_laws.specs.declared.works.Worked.{Worked}

-- WHILE THE POWER IS ON NO JOB IS OUT, the lines hold the claims, and where a job was given up there is one;
abbrev pub ClosedIsQuiet : Type 0
ClosedIsQuiet =
    (w : WorldView) (power : Supply) (log : LogView) (lines : List Part) (parts : List Returned) → IsClosed w power log lines parts → w.lost ≡ false → 1 ≤ w.geometry.log
    → (w.pending ≡ []) × HoldTheClaims w lines × ((w.given_up ≡ 0 → ⊥) → w.claims ≢ [])

-- where a caller has a call left, the round is over, so a Checkpoint may come;
abbrev pub ClosedMayCheckpoint : Type 0
ClosedMayCheckpoint =
    (w : WorldView) (power : Supply) (log : LogView) (lines : List Part) (parts : List Returned) → IsClosed w power log lines parts → w.lost ≡ false → 1 ≤ w.geometry.log
    → HaveStopped parts → HaveWorkers w parts → (who : Who) → next_of w who ≢ None → MayCheckpoint w lines

-- where none has, all calls returned, so the World may be unmounted;
abbrev pub ClosedMayUnmount : Type 0
ClosedMayUnmount =
    (w : WorldView) (power : Supply) (log : LogView) (lines : List Part) (parts : List Returned) → IsClosed w power log lines parts → w.lost ≡ false → 1 ≤ w.geometry.log
    → Scripted w.scripts w.history → ((who : Who) → next_of w who ≡ None) → MayUnmount w lines

-- and once the power went a crash may come, with the jobs that came back.
abbrev pub ClosedMayCrash : Type 0
ClosedMayCrash =
    (w : WorldView) (power : Supply) (log : LogView) (lines : List Part) (parts : List Returned) → IsClosed w power log lines parts → MayCrash w lines (jobs_left parts) (filled_jobs_left parts)

-- A LOST CHECKPOINT leaves a World that may crash with nothing, and whose loss is bounded.
abbrev pub LostMayCrash : Type 0
LostMayCrash =
    (old new : WorldView) (before after : Supply) → IsInRound old before → old.lost ≡ false → old.pending ≡ [] → Steps (2 ^ 26) before after → LosesRound old new after → AreFewActs new
    → MayCrash new [] [] [] × IsBounded new after

-- AND A LOST UNMOUNT IS BOUNDED.
abbrev pub LostIsBounded : Type 0
LostIsBounded =
    (w : WorldView) (before after : Supply) → IsInRound w before → w.lost ≡ false → AreFewActs w → Steps (2 ^ 26) before after → is_on after ≡ false
    → (steps : ℕ) × (before.given ≡ Some steps) × (steps ≤ 2 ^ 31 * (length w.history + 2))

-- ---- what comes back of one worker

-- OF A WORKER THAT WORKED, with a view and a seat that were empty
abbrev pub WorkedIsReturned : Type 0
WorkedIsReturned =
    (number : ℕ) (v u : HandView) (seat now : SeatView) (power : Supply) (worked : Worked) → HasWorked v u seat now power worked → v.done ≡ [] → v.full ≡ false → seat.claims ≡ []
    → IsReturned (record { number = number; view = u; seat = now; worked = worked })

-- AND OF ONE THAT DID NOT START
abbrev pub StillIsReturned : Type 0
StillIsReturned =
    (number : ℕ) (v : HandView) (seat : SeatView) → v.out ≡ None → v.begun ≡ None → v.done ≡ [] → v.full ≡ false → seat.claims ≡ []
    → IsReturned (record { number = number; view = v; seat = seat; worked = Worked.Ended })
