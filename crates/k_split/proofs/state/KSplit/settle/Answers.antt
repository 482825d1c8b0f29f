use Rattle.std.proofs.Common.{ap, ◌∙◌, ◌≡◌, ◌/◌, ℕ, subst, sym, true}
use Rattle.block_io.specs.pm_model.Cells.{cell, is_lent}
use Rattle.k_tables.specs.k_split_model.View.{View}
use Rattle.k_split.proofs.LoanLaws.{home_back, ready_back}
use Rattle.k_split.proofs.Steady.{steady-back, view-back}
use Rattle.k_split.proofs.state.KSplit.settle.Goals as goal

pub invariant_of-self : goal.invariant_of-self
invariant_of-self c on =
    let k = c.self.inside in
    ready_back k.tables k.group k.batch k.pm c.settle.new.self c.args.loan.cells k.batched (c.self.invariant on) c.args.loan.place
    (subst (λ (x : View). (i : ℕ) → i / 512 ≡ c.args.loan.place → is_lent (cell x.cells i) ≡ true) (sym c.self.view_is) c.requires.out) c.settle.ensures.back c.settle.ensures.size

pub returns-clause-same : goal.returns-clause-same
returns-clause-same c =
    let k = c.self.inside in
    let e = c.settle.new.self in
    let out = subst (λ (x : View). (i : ℕ) → i / 512 ≡ c.args.loan.place → is_lent (cell x.cells i) ≡ true) (sym c.self.view_is) c.requires.out in
    view-back k.tables k.group k.pm e k.batched k.lost k.steady (home_back k.pm e c.args.loan.cells c.args.loan.place out c.settle.ensures.back)
    ∙ ap (λ (x : View). record x { cells = e }) c.self.view_is

pub invariant_of-self-inside : goal.invariant_of-self-inside
invariant_of-self-inside c =
    let k = c.self.inside in
    let e = c.settle.new.self in
    let out = subst (λ (x : View). (i : ℕ) → i / 512 ≡ c.args.loan.place → is_lent (cell x.cells i) ≡ true) (sym c.self.view_is) c.requires.out in
    (k.none_aside, (λ batched. steady-back k.tables.volume.geometry k.pm e (k.steady batched) (home_back k.pm e c.args.loan.cells c.args.loan.place out c.settle.ensures.back), tt))
