use Rattle.std.proofs.Common.{◌≡◌, true, false, sym, ◌∙◌, ap, subst}
use Rattle.block_io.specs.pm_model.Powers.{is_on}
use Rattle.k_tables.specs.k_split_model.View.{once_committed, View}
use Rattle.k_split.specs.MapChanges.{IsMovedWith}
use Rattle.k_split.specs.Order.{IsInOrder}
use Rattle.k_split.proofs.Again.{mid-same, move-again, second-answer}
use Rattle.k_split.proofs.ChangeLaws.{awake}
use Rattle.k_split.proofs.Ready.{in-order}
use Rattle.k_split.proofs.state.KSplit.relink.Goals as goal

pub returns-in-Some-move_blocks-clause-gathers : goal.returns-in-Some-move_blocks-clause-gathers
returns-in-Some-move_blocks-clause-gathers c batched =
    let k = c.self.inside in
    let old = c.args.self.now in
    let mid = c.commit.new.self in
    let on : is_on c.args.power.now ≡ true = sym c.on.ensures ∙ c.if-not-on.false in
    let is : k.lost ≡ false = awake k.tables k.group k.pm k.batched k.lost old c.args.power.now c.self.view_is c.requires.awake on in
    let order : IsInOrder old = subst IsInOrder c.self.view_is (in-order k.tables k.group k.batch k.pm k.batched (c.self.invariant is) k.lost) in
    let wants = c.move_blocks.ensures.wants c.in-None.is in
    let same : mid ≡ record (once_committed old) { cells = mid.cells } =
    mid-same (λ (done : Unit {0}) seen w blocks. IsMovedWith c.args.asked.now seen w blocks) old c.move_blocks.new.self order wants.0 wants.2 mid c.commit.result c.in-Done.is c.commit.ensures.outcome
    in
    second-answer (λ (done : Unit {0}) seen w blocks. IsMovedWith c.args.asked.now seen w blocks) old c.move_blocks.new.self order wants.0 wants.2 mid c.move_blocks-in-Done.new.self c.commit.result c.in-Some-move_blocks.result c.in-Done.is
    c.commit.ensures.outcome (move-again c.args.asked.now old mid same) (c.in-Some-move_blocks.ensures.gathers (ap (λ (x : View). x.batched) same ∙ batched))
