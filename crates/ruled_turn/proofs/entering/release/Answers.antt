-- The value goes home with the turn.
use Rattle.std.proofs.Common.{◌≡◌, ◌∙◌, ◌∷◌, [], ap, sym, subst, arith, Option, Some}
use mathlib.Core.Option.{none}
use Rattle.atomic_table.specs.Table.{Allows, Me, rest, step}
use Rattle.ruled_turn.specs.Rule.{KeptFor}
use Rattle.ruled_turn.specs.Standings.{within}
use Rattle.ruled_turn.specs.Steps.{released}
use Rattle.ruled_turn.specs.declared.views.Standing.{Standing}
use Rattle.ruled_turn.proofs.Allowing.{releases_allowed}
use Rattle.ruled_turn.proofs.entering.release.Goals as goal

pub store-requires : goal.store-requires
store-requires g c =
    let shared = c.args.shared.now in
    let may = c.requires.may in
    let words = c.requires.table.1 in
    let seat = c.exchange.new.seat in
    let me : seat.me ≡ (within ((may.0, may.1) ∷ []) may.2, (0, Some c.args.value) ∷ []) =
    c.exchange.ensures.3 ∙ ap (λ (m : Me (Option g.row.T.Denot) (Standing g.row.T.Denot g.row.V.Denot)). (m.0, (0, Some c.args.value) ∷ rest m.1)) may.3 in (
      c.exchange.ensures.0 ∙ c.requires.table.0,
      omega (arith, words),
      subst (λ (m : Me (Option g.row.T.Denot) (Standing g.row.T.Denot g.row.V.Denot)). Allows (KeptFor g.P.Protocol.holds shared.key) shared.table_id.slots seat.id m 0 (λ _. 0) (λ _. released g.P.Protocol.next (step shared.table_id.slots 0 0 0 none) m 0)) (sym me)
          (releases_allowed g.P.Protocol.holds g.P.Protocol.may g.P.Protocol.next g.P.Protocol.keeps shared.key.passes shared.table_id.slots seat.id may.0 may.1 may.2 c.args.value may.4),
    )
