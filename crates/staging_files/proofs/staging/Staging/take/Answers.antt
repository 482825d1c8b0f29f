use Rattle.std.proofs.Common.{ap, sym, subst, ◌∙◌}
use Rattle.staging_files.specs.Keeps.{IsStaged}
use Rattle.staging_files.specs.Reserves.{IsFreeRun, with_out}
use Rattle.staging_files.proofs.StagedLaws.{staged-taken}
use Rattle.staging_files.proofs.staging.Staging.take.Goals as goal

pub invariant_of-self-2 : goal.invariant_of-self-2
invariant_of-self-2 c =
    let s = c.self.inside in
    subst (λ xs. IsStaged (record { out = xs; given = s.given })) (sym c.in_ok-push.ensures.items)
    (staged-taken (record { out = s.out.items; given = s.given }) c.args.run c.self.invariant c.requires.staging c.requires.some
    (subst (λ v. IsFreeRun v c.args.run.count c.args.run.staging c.args.run.block) (sym c.self.view_is) c.requires.free))

pub returns-clause-ok : goal.returns-clause-ok
returns-clause-ok c =
    let s = c.self.inside in
    ap (λ xs. record { out = xs; given = s.given }) c.in_ok-push.ensures.items ∙ ap (with_out c.args.run) c.self.view_is
