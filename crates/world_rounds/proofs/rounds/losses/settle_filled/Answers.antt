use Rattle.std.proofs.Common.{◌∙◌, ◌++◌, ◌∷◌, [], List, ap, sym, subst}
use Rattle.std.proofs.lemmas.List.{append_assoc}
use Rattle.world_parts.specs.pm_model.Parts.{Part}
use Rattle.world_parts.proofs.world_view_laws_proofs.Handing.{home_none}
use Rattle.world_parts.specs.world_view_laws.Handed.{AreOneEach}
use Rattle.world_parts.specs.world_view_laws.write_end.Blocks.{ComeHome}
use Rattle.world_parts.specs.write_jobs.Jobs.{FilledView}
use Rattle.world_rounds.proofs.Settles.{AreLent, filled_each, filled_home, filled_lent, holds_more}
use Rattle.world_rounds.proofs.rounds.losses.settle_filled.Goals as goal

pub settle_loans-requires-clause-out : goal.settle_loans-requires-clause-out
settle_loans-requires-clause-out c =
    let inv = c.loop-job.invariant in
    let is = inv.all ∙ ap (λ (xs : List FilledView). c.loop-job.yielded ++ xs) c.in-Some.ensures.steps.0 in
    subst (λ (loans : List Part). AreLent loans c.loop-job.pm) (sym c.into_loans.ensures.loans)
    (filled_lent c.args.jobs.items c.loop-job.yielded c.in-Some.job c.next.new.self.rest.items is c.args.pm.now c.loop-job.pm c.requires.each c.requires.out inv.back)

pub settle_loans-requires-clause-each : goal.settle_loans-requires-clause-each
settle_loans-requires-clause-each c =
    let inv = c.loop-job.invariant in
    let is = inv.all ∙ ap (λ (xs : List FilledView). c.loop-job.yielded ++ xs) c.in-Some.ensures.steps.0 in
    subst AreOneEach (sym c.into_loans.ensures.loans)
    (filled_each c.args.jobs.items c.loop-job.yielded c.in-Some.job c.next.new.self.rest.items is c.args.pm.now c.loop-job.pm c.requires.each c.requires.out inv.back)

pub loop-job-preserved : goal.loop-job-preserved
loop-job-preserved c =
    let inv = c.loop-job.invariant in
    let is = inv.all ∙ ap (λ (xs : List FilledView). c.loop-job.yielded ++ xs) c.in-Some.ensures.steps.0 in
    record {
      all = is ∙ sym (append_assoc c.loop-job.yielded (c.in-Some.job ∷ []) c.next.new.self.rest.items);
      back = filled_home c.args.jobs.items c.loop-job.yielded c.in-Some.job c.next.new.self.rest.items is c.args.pm.now c.loop-job.pm c.requires.each c.requires.out inv.back
          c.settle_loans.new.pm (subst (λ (loans : List Part). ComeHome loans c.loop-job.pm c.settle_loans.new.pm) c.into_loans.ensures.loans c.settle_loans.ensures);
      holds = holds_more c.loop-job.yielded c.in-Some.job inv.holds c.into_loans.ensures.holds;
    }

pub loop-job-init : goal.loop-job-init
loop-job-init c = record { all = cc; back = home_none c.args.pm.now; holds = λ job at. absurd at }
