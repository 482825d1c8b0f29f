use Rattle.std.proofs.Common.{◌≡◌, true, false, sym, ◌∙◌, ap, subst}
use Rattle.block_io.specs.pm_model.Powers.{is_on}
use Rattle.k_tables.specs.k_split_model.View.{once_committed, View}
use Rattle.k_split.specs.MapChanges.{IsSizedWith}
use Rattle.k_split.specs.Order.{IsInOrder}
use Rattle.k_split.proofs.Again.{mid-same, size-again, second-answer}
use Rattle.k_split.proofs.ChangeLaws.{awake}
use Rattle.k_split.proofs.Ready.{in-order}
use Rattle.k_split.proofs.state.KSplit.set_size.Goals as goal

pub returns-in-Some-resize-clause-gathers : goal.returns-in-Some-resize-clause-gathers
returns-in-Some-resize-clause-gathers c batched =
    let k = c.self.inside in
    let old = c.args.self.now in
    let mid = c.commit.new.self in
    let on : is_on c.args.power.now ≡ true = sym c.on.ensures ∙ c.if-not-on.false in
    let is : k.lost ≡ false = awake k.tables k.group k.pm k.batched k.lost old c.args.power.now c.self.view_is c.requires.awake on in
    let order : IsInOrder old = subst IsInOrder c.self.view_is (in-order k.tables k.group k.batch k.pm k.batched (c.self.invariant is) k.lost) in
    let wants = c.resize.ensures.wants c.in-None.is in
    let same : mid ≡ record (once_committed old) { cells = mid.cells } =
    mid-same (λ (done : Unit {0}) seen w blocks. IsSizedWith c.args.ino c.args.size seen w blocks) old c.resize.new.self order wants.0 wants.2 mid c.commit.result c.in-Done.is c.commit.ensures.outcome
    in
    second-answer (λ (done : Unit {0}) seen w blocks. IsSizedWith c.args.ino c.args.size seen w blocks) old c.resize.new.self order wants.0 wants.2 mid c.resize-in-Done.new.self c.commit.result c.in-Some-resize.result c.in-Done.is
    c.commit.ensures.outcome (size-again c.args.ino c.args.size old mid same) (c.in-Some-resize.ensures.gathers (ap (λ (x : View). x.batched) same ∙ batched))
