-- The value is at home, and the rule holds of it and of the views that the passes carry.
use Rattle.std.proofs.Common.{◌≡◌, ◌∙◌, List, ℕ, length, ap, sym, subst, Option, Some}
use Rattle.std.specs.Prelude.{Contains}
use Rattle.std.specs.Mem.Slots.{slots_items}
use Rattle.std.proofs.lemmas.Option.{same_Some}
use mathlib.Core.Option.{some-injective}
use Rattle.ruled_turn.specs.Passes.{TurnView}
use Rattle.ruled_turn.proofs.Allowing.{ends, IsEnd}
use Rattle.ruled_turn.proofs.Gathering.{carried_of_pass}
use Rattle.ruled_turn.proofs.turns.Turn.close.Goals as goal

pub unreachable-requires : goal.unreachable-requires
unreachable-requires g c =
    let whole = c.gather-whole.result in
    let xs : List (Option g.row.T.Denot) = slots_items c.close_with-closed.result.slots in
    let n : ℕ = c.self.inside.table.shared.key.passes in
    let all : length whole.me.0.carried ≡ n = c.gather-whole.ensures.count ∙ (c.requires.all ∙ sym (ap (λ (t : TurnView). t.passes) c.self.view_is)) in
    let end : IsEnd g.P.Protocol.holds n whole.me.0.carried xs = ends g.P.Protocol.holds n whole.id whole.me.0 _ xs c.close_with-closed.ensures.values.2 all c.gather-whole.ensures.outside in
    c.in_default.not-Some end.value (some-injective c.take-value.result (Some end.value) (sym c.take-value.ensures.value ∙ end.at_home))

pub returns : goal.returns
returns g c =
    let whole = c.gather-whole.result in
    let xs : List (Option g.row.T.Denot) = slots_items c.close_with-closed.result.slots in
    let n : ℕ = c.self.inside.table.shared.key.passes in
    let count : n ≡ c.args.self.passes = ap (λ (t : TurnView). t.passes) c.self.view_is in
    let all : length whole.me.0.carried ≡ n = c.gather-whole.ensures.count ∙ (c.requires.all ∙ sym count) in
    let end : IsEnd g.P.Protocol.holds n whole.me.0.carried xs = ends g.P.Protocol.holds n whole.id whole.me.0 _ xs c.close_with-closed.ensures.values.2 all c.gather-whole.ensures.outside in
    let there : c.take-value.result ≡ Some end.value = some-injective c.take-value.result (Some end.value) (sym c.take-value.ensures.value ∙ end.at_home) in
    let same : end.value ≡ c.in-Some.value = same_Some end.value c.in-Some.value (sym there ∙ c.in-Some.is) in (
      end.views,
      subst (λ (x : g.row.T.Denot). g.P.Protocol.holds x end.views) same end.law,
      end.count ∙ count,
      λ p i v has is. end.own i v (subst (λ (l : List (ℕ × g.row.V.Denot)). Contains l (i, v)) (sym c.gather-whole.ensures.carried) (carried_of_pass c.args.passes.items p (i, v) has is)),
    )
