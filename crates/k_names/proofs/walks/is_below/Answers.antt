-- Each step goes one directory up, and there are at most as many as the table has lines.
use Rattle.std.proofs.Common.{◌∙◌, sym, ap, Some}
use Rattle.std.proofs.lemmas.Bool.{eqb-true, eq-eqb, false≢true}
use Rattle.k_names.proofs.Climbs.{climb_start, climb_more, climb_end, climb_all}
use Rattle.k_names.proofs.walks.is_below.Goals as goal

pub loop-step-init : goal.loop-step-init
loop-step-init c = climb_start c.args.rows.now c.args.ino c.args.ancestor

pub returns-in-None : goal.returns-in-None
returns-in-None c = (
  λ h. absurd (false≢true h),
  λ below.
      absurd (climb_end c.args.rows.now c.args.ino c.args.ancestor c.loop-step._step c.loop-step.at c.loop-step.invariant c.if-at-ancestor.false (sym c.parent_of.ensures ∙ c.in-None.is) below),
)

pub loop-step-preserved : goal.loop-step-preserved
loop-step-preserved c =
    climb_more c.args.rows.now c.args.ino c.args.ancestor c.loop-step._step c.loop-step.at c.in-Some.parent c.loop-step.invariant c.if-at-ancestor.false (sym c.parent_of.ensures ∙ c.in-Some.is)

pub returns : goal.returns
returns c =
    let at = c.loop-step.at in (
      λ h. (c.loop-step._step, c.loop-step.invariant.0 ∙ ap (λ n. Some n) (eqb-true at c.args.ancestor h)),
      λ below.
          eq-eqb at c.args.ancestor (climb_all c.args.rows.now c.args.ino c.args.ancestor c.loop-step._step at c.requires.keyed c.requires.acyclic c.loop-step-test.false c.loop-step.invariant below),
    )
