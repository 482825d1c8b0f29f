-- What the events of a run take of the power.
use Rattle.std.specs.Prelude.{◌≡◌, ◌≤◌, ◌+◌, ◌*◌, ◌^◌, ◌||◌, ℕ, Bool, false, List, length, map, Some, sum_by}
use Rattle.std.specs.List.{list_any}
use Rattle.round_log.specs.pm_model.Powers.{Steps, Supply}
use Rattle.world_view_laws.specs.posix_types.declared.item.Item.{Item}
use Rattle.world_view_laws.specs.posix_spec.Afforded.{is_posix, moves_data, next_calls}
use Rattle.world_view_laws.specs.live_model.Standing.{JobOut}
use Rattle.world_view_laws.specs.Losses.{calls_acted, TellsActed}
use Rattle.world_view_laws.specs.Views.{WorldView}
use Rattle.run_laws.specs.Paid.{KeepsTree}
use Rattle.run_laws.specs.declared.held.Held.{Held}
use Rattle.run_laws.specs.declared.held.Work.{Work}
use Rattle.run_laws.specs.Held.{filled_of, lines_in, OutView}

-- a call that returned moved data, or the next call of some caller may
abbrev pub moves_now : WorldView → Bool
moves_now w = list_any moves_data (map (λ (item : Item). item.call) w.history) || list_any moves_data (next_calls w.scripts w.history)

-- the most steps of an act: 2^26, and those of the job that it may begin
abbrev pub act_steps : ℕ
act_steps = 2 ^ 26 + 2 ^ 16

-- the most steps that are left to a job: 2^15 to fill it, 8 to store its entry, 2 to persist it
abbrev pub steps_in : Work → ℕ
steps_in (Work.Began job) = 2 ^ 15 + 10
steps_in (Work.Filled job) = 10
steps_in (Work.Claimed job slot) = 10
steps_in (Work.Stored job slot) = 2
steps_in (Work.Persisted job slot) = 0

abbrev pub steps_ahead : List Held → ℕ
steps_ahead jobs = sum_by (λ (h : Held). steps_in h.work) jobs

-- the step that was taken for a job ahead of its return: a word of its entry was stored, so that the entry may stand in the log
abbrev pub early_in : Work → ℕ
early_in (Work.Began job) = 0
early_in (Work.Filled job) = 0
early_in (Work.Claimed job slot) = 0
early_in (Work.Stored job slot) = 1
early_in (Work.Persisted job slot) = 1

abbrev pub steps_early : List Held → ℕ
steps_early jobs = sum_by (λ (h : Held). early_in h.work) jobs

-- THE STEPS SINCE A FIRST SUPPLY: for each act at most `act_steps`, those that are left to the jobs among them; outside POSIX mode, where no
-- call that returned moved data and no next one may, 512 for each call that returned; and one at least for each call that changed the tree, and for each job
-- whose entry was stored.
pub record IsPaid (first now : Supply) (w : WorldView) (jobs : List Held) : Type 0 where
  pub any : Steps (act_steps * w.acts) first now
  pub ahead : now.taken + steps_ahead jobs ≤ first.taken + act_steps * w.acts
  pub quiet : is_posix w.start.mode ≡ false → moves_now w ≡ false → Steps (512 * length w.history) first now
  pub tree : (given : ℕ) → first.given ≡ Some given → KeepsTree first now w (steps_early jobs) given

-- AT MOST SO MANY OF THE CALLS THAT ARE OUT ACTED: those that a test tells, by the lines that are out.
pub record HaveActed (w : WorldView) (out : OutView) (most : ℕ) : Type 0 where
  pub acts : JobOut → Bool
  pub tells : TellsActed w (lines_in out.log) (filled_of out.jobs) acts
  pub few : length (calls_acted w acts) ≤ most

-- One step at least for each call that changed the tree, and for each of those that are out and acted.
pub record PaysForActed (first now : Supply) (w : WorldView) (out : OutView) (given : ℕ) : Type 0 where
  pub most : ℕ
  pub tree : KeepsTree first now w most given
  pub acted : HaveActed w out most

-- where the power went, 512 also for the call that may be unfinished
pub record IsPaidOff (first now : Supply) (w : WorldView) : Type 0 where
  pub any : Steps (act_steps * w.acts) first now
  pub quiet : is_posix w.start.mode ≡ false → moves_now w ≡ false → Steps (512 * (length w.history + 1)) first now
  pub tree : (given : ℕ) → first.given ≡ Some given → KeepsTree first now w 0 given
