use Rattle.std.proofs.Common.{◌∙◌, ◌++◌, ◌∷◌, [], List, ap, sym, refl}
use Rattle.std.proofs.lemmas.List.{append_assoc}
use Rattle.k_split.specs.pm_model.Parts.{Part}
use Rattle.k_split.specs.k_split_model.View.{View}
use Rattle.write_jobs.proofs.SettleLaws.{come_back_more, come_back_none, next_apart, next_out}
use Rattle.write_jobs.proofs.loans.settling.settle_blocks.Goals as goal

pub settle-requires : goal.settle-requires
settle-requires c =
    let inv = c.loop-loan.invariant in
    let is = inv.all ∙ ap (λ (xs : List Part). c.loop-loan.yielded ++ xs) c.in-Some.ensures.steps.0 in
    record {
      out = next_out c.args.loans.items c.loop-loan.yielded c.next.new.self.rest.items c.in-Some.loan is c.args.k.now.cells c.loop-loan.k.cells
          c.requires.out c.requires.apart inv.back;
    }

pub loop-loan-preserved : goal.loop-loan-preserved
loop-loan-preserved c =
    let inv = c.loop-loan.invariant in
    let is = inv.all ∙ ap (λ (xs : List Part). c.loop-loan.yielded ++ xs) c.in-Some.ensures.steps.0 in
    record {
      all = is ∙ sym (append_assoc c.loop-loan.yielded (c.in-Some.loan ∷ []) c.next.new.self.rest.items);
      back = come_back_more c.loop-loan.yielded c.in-Some.loan c.args.k.now.cells c.loop-loan.k.cells c.settle.new.self.cells c.settle.ensures.size
          (next_apart c.args.loans.items c.loop-loan.yielded c.next.new.self.rest.items c.in-Some.loan is c.requires.apart) inv.back c.settle.ensures.back;
      same = c.settle.ensures.same ∙ ap (λ (k : View). record k { cells = c.settle.new.self.cells }) inv.same;
    }

pub loop-loan-init : goal.loop-loan-init
loop-loan-init c = record { all = cc; back = come_back_none c.args.k.now.cells; same = refl }
