use Rattle.std.proofs.Common.{◌≡◌, false, sym, ◌∙◌, ap, subst}
use Rattle.k_tables.specs.k_split_model.View.{View}
use Rattle.k_split.specs.Order.{IsInOrder}
use Rattle.k_split.proofs.Ready.{in-order}
use Rattle.k_split.proofs.state.KSplit.is_lost.Goals as goal

pub returns-clause-order : goal.returns-clause-order
returns-clause-order c on =
    let k = c.self.inside in
    let is : k.lost ≡ false = ap (λ (x : View). x.lost) c.self.view_is ∙ on in
    subst IsInOrder c.self.view_is (in-order k.tables k.group k.batch k.pm k.batched (c.self.invariant is) k.lost)
