-- The table that is opened keeps the rule, and its first seat carries all passes.
use Rattle.std.proofs.Common.{◌≡◌, ◌∙◌, ◌∷◌, [], List, ℕ, length, ap, sym, subst, Option, Some}
use Rattle.atomic_table.specs.Table.{Me, opening}
use Rattle.ruled_turn.specs.Rule.{first_standing, KeptFor}
use Rattle.ruled_turn.specs.declared.views.Opening.{Opening}
use Rattle.ruled_turn.specs.declared.views.Standing.{Standing}
use Rattle.ruled_turn.proofs.Allowing.{opens_kept}
use Rattle.ruled_turn.proofs.Lists.{length-numbered}
use Rattle.ruled_turn.proofs.turns.Turn.open.Goals as goal

pub new-made-requires : goal.new-made-requires
new-made-requires g c =
    let key : Opening g.row.T.Denot = record { passes = c.args.passes; value = c.of.result } in
    let x : g.row.T.Denot = c.args.value in
    subst (λ (l : List (Option g.row.T.Denot)). KeptFor g.P.Protocol.holds key (opening (0 ∷ []) l (first_standing g.P.Protocol.first key))) (sym c.in-Ok.ensures)
    (opens_kept g.P.Protocol.holds g.P.Protocol.first key x c.of.ensures (g.P.Protocol.sized x c.args.passes c.requires.opens) (g.P.Protocol.starts x c.args.passes c.requires.opens))

pub deal-requires-clause-count : goal.deal-requires-clause-count
deal-requires-clause-count g c =
    let x : g.row.T.Denot = c.args.value in
    let n : ℕ = c.args.passes in
    let me = c.in-Ok-made.ensures.ok.4 in
    ap (λ (m : Me (Option g.row.T.Denot) (Standing g.row.T.Denot g.row.V.Denot)). length m.0.carried) me
    ∙ (length-numbered 0 (g.P.Protocol.first c.of.result.value n) ∙ (ap (λ (y : g.row.T.Denot). length (g.P.Protocol.first y n)) c.of.ensures ∙ g.P.Protocol.sized x n c.requires.opens))
