-- How a worker's part is put together, from look to look.
use Rattle.std.specs.Prelude.{◌≡◌, ◌≢◌, ◌≤◌, ◌<◌, ◌+◌, ◌*◌, ◌^◌, ℕ, true, false, length, None, Some}
use Rattle.oplog_tail.specs.Answers.{Answers}
use Rattle.oplog_tail.specs.Seats.{SeatView}
use Rattle.oplog_tail.specs.declared.appends.Appended.{Appended}
use Rattle.oplog_tail.specs.oplog_entry.declared.claims.Full.{Full}
use Rattle.round_laws.specs.world_view_laws.pm_model.Powers.{is_on, Steps, Supply}
use Rattle.oplog_tail.specs.declared.appends.Receipt.{Receipt}
use Rattle.round_laws.specs.world_view_laws.oplog_entry.layout_model.declared.lines.Draft.{Draft}
use Rattle.round_laws.specs.world_view_laws.write_jobs.Jobs.{FilledView, JobView}
use Rattle.thread_laws.specs.Hands.{Gone, HandView}
use Rattle.thread_laws.specs.declared.works.Next.{Next}
use Rattle.thread_laws.specs.declared.works.Worked.{Worked}
use Rattle.thread_laws.specs.States.{HasFilledJob, HasJob, IsIdle}
use Rattle.thread_laws.specs.Works.{AreWritten, HasCome, HasDropped, HasEnded, HasLooked, HasTold, HasWorked, job_steps}

-- at first
abbrev pub ComesFirst : Type 0
ComesFirst = (v : HandView) (seat : SeatView) (power : Supply) → AreWritten v seat → power ≡ record { given = v.given; taken = 0 } → HasCome v v seat seat power

-- behind a look
abbrev pub ComesByLook : Type 0
ComesByLook = (old v u : HandView) (seat now : SeatView) (power : Supply) (next : Next) → HasCome old v seat now power → HasLooked v u next → HasCome old u seat now power

-- behind a job that was filled, appended and returned
abbrev pub ComesByJob : Type 0
ComesByJob =
    (old v u : HandView) (seat now then : SeatView) (before middle after : Supply) (d : Draft) (capacity : ℕ) (receipt : Receipt) → HasCome old v seat now before → Steps (577 * 33) before middle
    → Answers capacity d now middle then after (Appended.Done receipt) → Steps 10 middle after → HasEnded v u receipt.slot d true → HasCome old u seat then after

-- ---- the ends

-- a look finds that it stops
abbrev pub EndsByLook : Type 0
EndsByLook = (old v u : HandView) (seat now : SeatView) (power : Supply) → HasCome old v seat now power → HasLooked v u Next.Over → HasWorked old u seat now power Worked.Ended

-- its power went as its job was filled: it hands that back, or finds the World gone
abbrev pub EndsUnfilled : Type 0
EndsUnfilled =
    (old v u : HandView) (seat now : SeatView) (before after : Supply) (job : JobView) → HasCome old v seat now before → Steps (577 * 33) before after → is_on after ≡ false → HasJob v job
    → (HasTold v u true → HasWorked old u seat now after (Worked.Job job)) × (HasTold v u false → HasWorked old u seat now after Worked.Ended)

-- or in the append
abbrev pub EndsUnappended : Type 0
EndsUnappended =
    (old v u : HandView) (seat now then : SeatView) (before middle after : Supply) (capacity : ℕ) (job : FilledView) → HasCome old v seat now before → Steps (577 * 33) before middle
    → Answers capacity job.draft now middle then after Appended.PowerLost → Steps 10 middle after → HasFilledJob v job
    → (HasTold v u true → HasWorked old u seat then after (Worked.Filled job)) × (HasTold v u false → HasWorked old u seat then after Worked.Ended)

-- the log is full
abbrev pub EndsByFull : Type 0
EndsByFull =
    (old v u : HandView) (seat now then : SeatView) (before middle after : Supply) (capacity : ℕ) (d : Draft) (full : Full) → HasCome old v seat now before → Steps (577 * 33) before middle
    → Answers capacity d now middle then after (Appended.Full full) → HasDropped v u → HasWorked old u seat then after Worked.Ended

-- the World lost its power as the job was given to `finish`, or is gone
abbrev pub EndsByFinish : Type 0
EndsByFinish =
    (old v u : HandView) (seat now then : SeatView) (before middle after : Supply) (capacity : ℕ) (d : Draft) (receipt : Receipt) → HasCome old v seat now before → Steps (577 * 33) before middle
    → Answers capacity d now middle then after (Appended.Done receipt) → Steps 10 middle after → HasEnded v u receipt.slot d false → HasWorked old u seat then after Worked.Ended

-- and the bound of its own power, where that is off behind a job that was begun: so the loss may be told
abbrev pub OwnIsBounded : Type 0
OwnIsBounded =
    (old v : HandView) (seat now : SeatView) (before after : Supply) (n : ℕ) → HasCome old v seat now before → n ≤ job_steps → Steps n before after → is_on after ≡ false
    → (steps : ℕ) × (v.given ≡ Some steps) × (steps ≤ 2 ^ 16 * (length v.mine + 1))
