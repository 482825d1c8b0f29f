use Rattle.std.proofs.Common.{◌∙◌, ◌++◌, ◌∷◌, [], List, ap, sym}
use Rattle.std.proofs.lemmas.List.{append_assoc}
use Rattle.world_parts.specs.pm_model.Parts.{Part}
use Rattle.world_parts.proofs.world_view_laws_proofs.Handing.{home_none}
use Rattle.world_rounds.proofs.Settles.{loan_home, loan_lent}
use Rattle.world_rounds.proofs.rounds.losses.settle_loans.Goals as goal

pub settle-requires : goal.settle-requires
settle-requires c =
    let inv = c.loop-loan.invariant in
    let is = inv.all ∙ ap (λ (xs : List Part). c.loop-loan.yielded ++ xs) c.in-Some.ensures.steps.0 in
    record { out = loan_lent c.args.loans.items c.loop-loan.yielded c.in-Some.loan c.next.new.self.rest.items is c.args.pm.now c.loop-loan.pm c.requires.each c.requires.out inv.back }

pub loop-loan-preserved : goal.loop-loan-preserved
loop-loan-preserved c =
    let inv = c.loop-loan.invariant in
    let is = inv.all ∙ ap (λ (xs : List Part). c.loop-loan.yielded ++ xs) c.in-Some.ensures.steps.0 in
    record {
      all = is ∙ sym (append_assoc c.loop-loan.yielded (c.in-Some.loan ∷ []) c.next.new.self.rest.items);
      back = loan_home c.args.loans.items c.loop-loan.yielded c.in-Some.loan c.next.new.self.rest.items is c.args.pm.now c.loop-loan.pm c.requires.each c.requires.out inv.back
          c.settle.new.self c.settle.ensures.size c.settle.ensures.back c.settle.ensures.home;
    }

pub loop-loan-init : goal.loop-loan-init
loop-loan-init c = record { all = cc; back = home_none c.args.pm.now }
