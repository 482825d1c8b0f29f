-- The value is the one of which the pass learned.
use Rattle.std.proofs.Common.{◌≡◌, ◌∙◌, ◌∷◌, [], List, ℕ, ap, sym, subst, refl, arith, Option}
use Rattle.std.specs.Prelude.{Contains}
use Rattle.atomic_table.specs.Table.{Me}
use Rattle.ruled_turn.specs.Passes.{PassView}
use Rattle.ruled_turn.specs.declared.views.Standing.{Standing}
use Rattle.ruled_turn.proofs.Gathering.{same_value}
use Rattle.ruled_turn.proofs.turns.Turn.enter.Goals as goal

pub returns-clause-knows : goal.returns-clause-knows
returns-clause-knows g c = λ i v is.
    let enters = c.wait.ensures.enters in
    let carried : c.pass.inside.seat.me.0.carried ≡ (i, v) ∷ [] = ap (λ (p : PassView g.row.T.Denot g.row.V.Denot). p.carried) c.pass.view_is ∙ is in
    let has : Contains c.pass.inside.seat.me.0.carried (i, v) = subst (λ (l : List (ℕ × g.row.V.Denot)). Contains l (i, v)) (sym carried) (0, omega arith, refl) in
    let slots = sym (ap (λ (m : Me (Option g.row.T.Denot) (Standing g.row.T.Denot g.row.V.Denot)). m.1) enters.seat) ∙ c.take_value.ensures.value in
    let same : enters.value ≡ c.take_value.result = same_value enters.value c.take_value.result c.pass.inside.seat.me.1 [] slots in
    subst (λ (x : g.row.T.Denot). g.P.Protocol.knows x v) same (enters.known i v has)
