-- From one event to the next, while the power is on.
use Rattle.std.specs.Prelude.{◌≡◌, ◌≢◌, ◌⊎◌, ℕ, true, false, [], IsSome}
use Rattle.std.proofs.Common.{subst, sym}
use Rattle.posix_types.specs.declared.call.Who.{Who}
use Rattle.split_machine.specs.run_laws.pm_model.Powers.{is_on, Supply}
use Rattle.split_machine.specs.run_laws.world_view_laws.Views.{WorldView}
use Rattle.split_machine.specs.run_laws.Between.{Between, GoesOn}
use Rattle.split_machine.specs.run_laws.Held.{nothing_out, OutView}
use Rattle.split_machine.specs.run_laws.Runs.{IsFirst}
use Rattle.split_machine.specs.declared.outstanding.Acted.{Acted}
use Rattle.split_machine.specs.Events.{IsActed, IsOpen, IsUnderWay}
use Rattle.split_machine.specs.Runs.{IsReached}
use Rattle.split_machine.proofs.Ends.{opened_reached}
use Rattle.split_machine.proofs.Loop.{reached_at_first}

-- the lines of the first round are out
pub first_under_way : (w new : WorldView) (out left : OutView) (power : Supply) → IsFirst w → out ≡ nothing_out → IsOpen w out new left → IsUnderWay new left power
first_under_way w new out left power first none opens =
    let reached : IsReached w new left power power = opened_reached w w new out left power power (reached_at_first w first out none power) opens in
    record { between = reached.between; log = opens.0; on = reached.on }

-- an event, or a round that is over
pub goes_under_way : (old new : WorldView) (out left : OutView) (before after : Supply) → GoesOn old out new left before after → IsSome left.log → IsUnderWay new left after
goes_under_way old new out left before after goes log = record { between = goes.between; log = log; on = λ some. goes.on }

pub acted_event : (who : Who) (old new : WorldView) (out left : OutView) (before after : Supply) (acted : Acted) → acted ≡ Acted.Event → IsActed who old out new left before after acted → IsUnderWay new left after
acted_event who old new out left before after acted same is =
    let one = subst (IsActed who old out new left before after) same is in
    goes_under_way old new out left before after one.0 one.2

pub acted_over : (who : Who) (old new : WorldView) (out left : OutView) (before after : Supply) (acted : Acted) → acted ≡ Acted.RoundOver → IsActed who old out new left before after acted → IsUnderWay new left after
acted_over who old new out left before after acted same is =
    let one = subst (IsActed who old out new left before after) same is in
    goes_under_way old new out left before after one.0 one.2

-- a call that waits changes nothing
pub waits_under_way : (old new : WorldView) (out : OutView) (before after : Supply) → IsUnderWay old out before → new ≡ old → after ≡ before → IsUnderWay new out after
waits_under_way old new out before after u same spared = subst (IsUnderWay new out) (sym spared) (subst (λ (x : WorldView). IsUnderWay x out before) (sym same) u)
