-- What came back of a round, parted, and what the end of a round asks for.
use Rattle.std.specs.Prelude.{◌≡◌, ◌≤◌, ◌<◌, ◌+◌, ℕ, List, [], ◌∷◌, ◌++◌, length, map, Option, Some, None, vec_capacity}
use Rattle.std.specs.List.{filter_map}
use Rattle.oplog_tail.specs.Logs.{LogView}
use Rattle.ruled_turn.specs.Passes.{TurnView}
use Rattle.thread_laws.specs.world_view_laws.pm_model.Powers.{Supply}
use Rattle.thread_laws.specs.world_view_laws.Lines.{AreFresh}
use Rattle.thread_laws.specs.world_view_laws.Views.{WorldView}
use Rattle.thread_laws.specs.Returned.{filled_left, job_left}
use Rattle.split_threads.specs.Backs.{AreBack}
use Rattle.split_threads.specs.declared.closes.Parted.{Parted}
use Rattle.split_threads.specs.declared.starting.Back.{Back}

-- Nothing is in it, and there is room for so many of each.
pub record IsRoom (count : ℕ) (p : Parted) : Type 0 where
  pub no_pass : p.passes.items ≡ []
  pub no_seat : p.seats.items ≡ []
  pub no_job : p.jobs.items ≡ []
  pub no_filled : p.filled.items ≡ []
  pub passes : count ≤ vec_capacity p.passes
  pub seats : count ≤ vec_capacity p.seats
  pub jobs : count ≤ vec_capacity p.jobs
  pub filled : count ≤ vec_capacity p.filled

-- There is room for one more of each.
pub record HasRoom (p : Parted) : Type 0 where
  pub passes : length p.passes.items < vec_capacity p.passes
  pub seats : length p.seats.items < vec_capacity p.seats
  pub jobs : length p.jobs.items < vec_capacity p.jobs
  pub filled : length p.filled.items < vec_capacity p.filled

-- the one, if it is there
abbrev pub as_list : {A : Type 0} → Option A → List A
as_list None = []
as_list (Some x) = x ∷ []

-- One more was parted.
pub record IsPartedMore (back : Back) (old new : Parted) : Type 0 where
  pub passes : new.passes.items ≡ old.passes.items ++ back.own.pass ∷ []
  pub seats : new.seats.items ≡ old.seats.items ++ back.own.seat ∷ []
  pub jobs : new.jobs.items ≡ old.jobs.items ++ as_list (job_left back.worked)
  pub filled : new.filled.items ≡ old.filled.items ++ as_list (filled_left back.worked)
  pub passes_room : vec_capacity new.passes ≡ vec_capacity old.passes
  pub seats_room : vec_capacity new.seats ≡ vec_capacity old.seats
  pub jobs_room : vec_capacity new.jobs ≡ vec_capacity old.jobs
  pub filled_room : vec_capacity new.filled ≡ vec_capacity old.filled

-- ALL WERE PARTED: passes, seats and jobs are those that came back, in their order.
pub record ArePartedFrom (backs : List Back) (p : Parted) : Type 0 where
  pub passes : p.passes.items ≡ map (λ (b : Back). b.own.pass) backs
  pub seats : p.seats.items ≡ map (λ (b : Back). b.own.seat) backs
  pub jobs : p.jobs.items ≡ filter_map (λ (b : Back). job_left b.worked) backs
  pub filled : p.filled.items ≡ filter_map (λ (b : Back). filled_left b.worked) backs

-- THE ROUND OF THIS WORLD MAY END: all workers came back, one for each thread and that of the set-up; and its log, of at least one line, was
-- opened with the round's lines.
pub record CanEndRound (w : WorldView) (power : Supply) (turn : TurnView) (log : LogView) (backs : List Back) : Type 0 where
  pub back : AreBack w power turn log backs
  pub fresh : AreFresh w log.lines
  pub base : log.base ≡ w.base
  pub passes : turn.passes ≡ length backs
  pub seats : log.seats ≡ length backs
  pub count : length backs ≡ length w.scripts.threads + 1
  pub lines : 1 ≤ w.geometry.log
