use Rattle.std.proofs.Common.{◌≡◌, true, false, ◌∙◌, ap}
use Rattle.k_tables.specs.k_split_model.View.{View}
use Rattle.k_split.proofs.Ready.{ready-gathers, view-gathers}
use Rattle.k_split.proofs.Steady.{steady-ready}
use Rattle.k_split.proofs.state.KSplit.gather_changes.Goals as goal

pub invariant_of-self : goal.invariant_of-self
invariant_of-self c on = let k = c.self.inside in ready-gathers k.tables k.group k.batch k.pm k.batched (c.self.invariant on)

pub returns : goal.returns
returns c =
    let k = c.self.inside in
    let is : k.lost ≡ false = ap (λ (x : View). x.lost) c.self.view_is ∙ c.requires.on in
    view-gathers k.tables k.group k.batch k.pm k.batched k.lost (c.self.invariant is) ∙ ap (λ (x : View). record x { batched = true }) c.self.view_is

pub invariant_of-self-inside : goal.invariant_of-self-inside
invariant_of-self-inside c =
    let k = c.self.inside in
    let is : k.lost ≡ false = ap (λ (x : View). x.lost) c.self.view_is ∙ c.requires.on in
    (k.none_aside, (λ on. steady-ready k.tables k.group k.batch k.pm k.batched (c.self.invariant is), tt))
