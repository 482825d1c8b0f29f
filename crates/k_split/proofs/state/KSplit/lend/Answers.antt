use Rattle.std.proofs.Common.{◌<◌, ◌/◌, ℕ, IfOk, length, subst, sym, ap, ◌∙◌}
use Rattle.block_io.specs.pm_model.Parts.{GoesOut}
use Rattle.k_tables.specs.k_split_model.View.{View}
use Rattle.k_split.specs.Loans.{MayLend}
use Rattle.k_split.proofs.LoanLaws.{lend_within, ready_asked, same_disk, view_asked}
use Rattle.k_split.proofs.Steady.{steady-ready}
use Rattle.k_split.proofs.state.KSplit.lend.Goals as goal

pub lend-requires-clause-in_device : goal.lend-requires-clause-in_device
lend-requires-clause-in_device c =
    let k = c.self.inside in
    let ready = c.self.invariant (ap (λ (x : View). x.lost) c.self.view_is ∙ c.requires.on) in
    let may = subst (λ (x : View). (b : ℕ) × MayLend x.volume x.cells c.args.staging c.args.block b) (sym c.self.view_is) c.requires.may in
    subst (λ n. n < length k.pm / 512)
    (same_disk k.tables.volume k.pm c.args.staging c.args.block may.0 c.in-Some.map.now c.in-Some-lookup.disk may.1 c.in-Some.ensures.map (sym c.lookup.ensures.disk ∙ c.in-Some-lookup.is))
    (lend_within k.tables.volume k.pm c.args.staging c.args.block may.0 ready.opened.whole ready.opened.are.stands.size may.1)

pub invariant_of-self : goal.invariant_of-self
invariant_of-self c on =
    let k = c.self.inside in
    let ready = c.self.invariant on in
    let may = subst (λ (x : View). (b : ℕ) × MayLend x.volume x.cells c.args.staging c.args.block b) (sym c.self.view_is) c.requires.may in
    let disk = same_disk k.tables.volume k.pm c.args.staging c.args.block may.0 c.in-Some.map.now c.in-Some-lookup.disk may.1 c.in-Some.ensures.map (sym c.lookup.ensures.disk ∙ c.in-Some-lookup.is) in
    ready_asked (λ loan. loan.cells) k.tables k.group k.batch k.pm c.lend.new.self k.batched c.args.staging c.args.block may.0 c.lend.result ready may.1
    (subst (λ n. IfOk c.lend.result (λ loan. GoesOut 512 n k.pm c.lend.new.self loan.cells)) (sym disk) c.lend.ensures.lent) c.lend.ensures.err c.lend.ensures.size

pub returns-clause-same : goal.returns-clause-same
returns-clause-same c =
    let k = c.self.inside in
    let e = c.lend.new.self in
    let ready = c.self.invariant (ap (λ (x : View). x.lost) c.self.view_is ∙ c.requires.on) in
    let may = subst (λ (x : View). (b : ℕ) × MayLend x.volume x.cells c.args.staging c.args.block b) (sym c.self.view_is) c.requires.may in
    let disk = same_disk k.tables.volume k.pm c.args.staging c.args.block may.0 c.in-Some.map.now c.in-Some-lookup.disk may.1 c.in-Some.ensures.map (sym c.lookup.ensures.disk ∙ c.in-Some-lookup.is) in
    view_asked (λ loan. loan.cells) k.tables k.group k.batch k.pm e k.batched k.lost c.args.staging c.args.block may.0 c.lend.result ready may.1
    (subst (λ n. IfOk c.lend.result (λ loan. GoesOut 512 n k.pm e loan.cells)) (sym disk) c.lend.ensures.lent) c.lend.ensures.err c.lend.ensures.size
    ∙ ap (λ (x : View). record x { cells = e }) c.self.view_is

pub invariant_of-self-inside : goal.invariant_of-self-inside
invariant_of-self-inside c =
    let k = c.self.inside in
    let e = c.lend.new.self in
    let ready = c.self.invariant (ap (λ (x : View). x.lost) c.self.view_is ∙ c.requires.on) in
    let may = subst (λ (x : View). (b : ℕ) × MayLend x.volume x.cells c.args.staging c.args.block b) (sym c.self.view_is) c.requires.may in
    let disk = same_disk k.tables.volume k.pm c.args.staging c.args.block may.0 c.in-Some.map.now c.in-Some-lookup.disk may.1 c.in-Some.ensures.map (sym c.lookup.ensures.disk ∙ c.in-Some-lookup.is) in (
      k.none_aside,
      (
        λ batched. steady-ready k.tables k.group k.batch e k.batched
            (ready_asked (λ loan. loan.cells) k.tables k.group k.batch k.pm e k.batched c.args.staging c.args.block may.0 c.lend.result ready may.1
            (subst (λ n. IfOk c.lend.result (λ loan. GoesOut 512 n k.pm e loan.cells)) (sym disk) c.lend.ensures.lent) c.lend.ensures.err c.lend.ensures.size),
        tt,
      ),
    )
