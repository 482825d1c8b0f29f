-- A round begins, and may end.
use Rattle.std.specs.Prelude.{◌≡◌, ◌≢◌, ℕ, false, true, List, [], Option, Some, None, IsSome, is_some, refl}
use Rattle.std.proofs.Common.{inr}
use Rattle.run_laws.specs.pm_model.Parts.{Part}
use Rattle.run_laws.specs.pm_model.Powers.{Supply}
use Rattle.run_laws.specs.round_log.Rounds.{RoundView}
use Rattle.run_laws.specs.world_view_laws.Rounds.{IsRoundBegun}
use Rattle.run_laws.specs.world_view_laws.Views.{WorldView}
use Rattle.run_laws.specs.declared.held.Held.{Held}
use Rattle.run_laws.specs.Between.{Between}
use Rattle.run_laws.specs.EventsLaws.{CanCheck, opened_log, with_log}
use Rattle.run_laws.specs.Held.{HasLog, nothing_out, OutView}
use Rattle.run_laws.proofs.Checks.{begins_round}
use Rattle.run_laws.proofs.Rounds.{opens_beside}
use Rattle.split_machine.specs.Events.{IsOpen, IsUnderWay}

-- a Checkpoint may come
pub can_check : (w : WorldView) (out : OutView) (power : Supply) → IsUnderWay w out power → w.over ≢ None → out.jobs ≡ [] → (log : RoundView) → out.log ≡ Some log → CanCheck w out log
can_check w out power under over none log is = record { between = under.between; log_is = is; over = over; none_out = none }

-- and leaves nothing out
pub checked_out : (log : Option RoundView) (jobs : List Held) → log ≡ None → jobs ≡ [] → (let out : OutView = record { log = log; jobs = jobs } in out ≡ nothing_out)
checked_out log jobs gone none = λ k. record { log = gone k; jobs = none k }

-- the lines are at home before a round begins
pub at_home : (w : WorldView) (o : Option RoundView) (jobs : List Held) → HasLog w o jobs → o ≡ None → w.lines_out ≡ false
at_home w None jobs has none = has.0
at_home w (Some log) jobs has none = (let never : Some log ≡ None = none in cc)

-- A ROUND BEGINS.
pub begun_open : (old new : WorldView) (out : OutView) (lines : List Part) (base : ℕ) → Between old out → out.log ≡ None → IsRoundBegun old new lines base → IsOpen old out new (with_log out (opened_log lines base))
begun_open old new out lines base b none begun =
    let opened = begins_round old new out lines base b none begun in
    (refl, inr (record { lines = lines; base = base; begun = begun; none = none; left_is = refl; opened = opened; beside = λ g m course. opens_beside g m old new out lines base opened.turn none course }))

pub not_some : (o : Option RoundView) → is_some o ≡ false → o ≡ None
not_some None is = refl
not_some (Some log) is = (let never : true ≡ false = is in cc)

pub some_if : (o : Option RoundView) → is_some o ≡ true → IsSome o
some_if None is = (let never : false ≡ true = is in cc)
some_if (Some log) is = refl
