-- The pass is outside again, with its next view.
use Rattle.std.proofs.Common.{◌≡◌, ◌∙◌, ◌∷◌, [], ap, Some}
use Rattle.ruled_turn.specs.Passes.{PassView}
use Rattle.ruled_turn.specs.Standings.{outside, within}
use Rattle.ruled_turn.proofs.Gathering.{pass_at}
use Rattle.ruled_turn.proofs.turns.Turn.leave.Goals as goal

pub invariant_of-pass : goal.invariant_of-pass
invariant_of-pass g c =
    let may = c.requires.may in
    let carried : c.pass.inside.seat.me.0.carried ≡ (may.0, may.1) ∷ [] = ap (λ (p : PassView g.row.T.Denot g.row.V.Denot). p.carried) c.pass.view_is ∙ may.3 in
    let inside : c.pass.inside.seat.me.0.inside ≡ Some may.2 = ap (λ (p : PassView g.row.T.Denot g.row.V.Denot). p.inside) c.pass.view_is ∙ may.4 in
    let standing : c.pass.inside.seat.me.0 ≡ within ((may.0, may.1) ∷ []) may.2 = (λ i. record { carried = carried i; inside = inside i }) in
    pass_at c.release.new.seat.me (may.0, g.P.Protocol.next may.1 may.2 c.args.value) (c.release.ensures.left may.0 may.1 may.2 standing)

pub returns : goal.returns
returns g c = λ i v x is in_it.
    let carried : c.pass.inside.seat.me.0.carried ≡ (i, v) ∷ [] = ap (λ (p : PassView g.row.T.Denot g.row.V.Denot). p.carried) c.pass.view_is ∙ is in
    let inside : c.pass.inside.seat.me.0.inside ≡ Some x = ap (λ (p : PassView g.row.T.Denot g.row.V.Denot). p.inside) c.pass.view_is ∙ in_it in
    let standing : c.pass.inside.seat.me.0 ≡ within ((i, v) ∷ []) x = (λ k. record { carried = carried k; inside = inside k }) in
    let me : c.release.new.seat.me ≡ (outside ((i, g.P.Protocol.next v x c.args.value) ∷ []), []) = c.release.ensures.left i v x standing in
    let turn = c.release.ensures.table ∙ ap (λ (p : PassView g.row.T.Denot g.row.V.Denot). p.turn) c.pass.view_is in
    (λ k. record { turn = turn k; carried = (me k).0.carried; inside = (me k).0.inside })
