use Rattle.std.proofs.Common.{◌≡◌, inl, inr, subst, arith}
use Rattle.std.proofs.lemmas.Bool.{cases_lt}
use Rattle.staging_files.specs.Reserves.{IsFreeRun}
use Rattle.staging_files.proofs.staging.Staging.lowest_run.Goals as goal

pub loop-staging-preserved : goal.loop-staging-preserved
loop-staging-preserved c y at is low free = elim (cases_lt y c.loop-staging.staging) [
  | inl before ↦ c.loop-staging.invariant y at is before free
  | inr behind ↦
      let same : y ≡ c.loop-staging.staging = omega arith in
      c.in_default.ensures.none at (subst (λ n. IsFreeRun c.args.self.now c.args.count n at) same free)
]
