use Rattle.std.proofs.Common.{◌≡◌, inl, inr, subst, arith}
use Rattle.std.proofs.lemmas.Bool.{cases_lt}
use Rattle.staging_files.specs.Keeps.{IsStaged}
use Rattle.staging_files.specs.Reserves.{IsFreeRun}
use Rattle.staging_files.proofs.StagedLaws.{none-past}
use Rattle.staging_files.proofs.staging.Staging.lowest_in.Goals as goal

pub returns-clause-none : goal.returns-clause-none
returns-clause-none c at free = elim (cases_lt at 64) [
  | inl low ↦ c.loop-block.invariant at (omega arith) free
  | inr past ↦ none-past c.args.self.now c.args.count c.args.staging at (subst IsStaged c.self.view_is c.self.invariant) c.requires.staging c.requires.some past free
]

pub loop-block-preserved : goal.loop-block-preserved
loop-block-preserved c at low free = elim (cases_lt at c.loop-block.block) [
  | inl before ↦ c.loop-block.invariant at before free
  | inr behind ↦
      let same : at ≡ c.loop-block.block = omega (arith, low, behind) in
      c.has_free_run.ensures.no c.if-has_free_run.false (subst (λ n. IsFreeRun c.args.self.now c.args.count c.args.staging n) same free)
]
