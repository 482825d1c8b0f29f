use Rattle.std.proofs.Common.{arith, subst, get_or, length, ◌<◌}
use Rattle.std.proofs.lemmas.Bool.{both_ways}
use Rattle.std.proofs.lemmas.List.{get_or_default}
use borrow.Author.Count.{below_more}
use Rattle.oplog_entry.specs.layout_model.declared.lines.Draft.{Draft}
use Rattle.check_image.specs.image_model.Rules.{HasStagingBlocks}
use Rattle.k_check.proofs.rules.are_staged.Goals as goal

pub returns-then-not-has_staging_blocks : goal.returns-then-not-has_staging_blocks
returns-then-not-has_staging_blocks c v maps = (
  λ no. cc,
  λ all. absurd (both_ways c.has_staging_blocks.result c.if-not-has_staging_blocks.true
      ((c.has_staging_blocks.ensures v maps).1 (all c.loop-draft.draft-index _ c.loop-draft-test.true))),
)

pub loop-draft-preserved : goal.loop-draft-preserved
loop-draft-preserved c v maps k d below =
    let within : c.loop-draft.draft-index < length c.args.live.now = omega arith in
    below_more (λ n. (x : Draft) → HasStagingBlocks v (get_or c.args.live.now n x)) c.loop-draft.draft-index
    (λ n before x. c.loop-draft.invariant v maps n x before)
    (λ x. subst (HasStagingBlocks v) (get_or_default c.args.live.now c.loop-draft.draft-index _ x within)
    ((c.has_staging_blocks.ensures v maps).0 c.if-not-has_staging_blocks.false))
    k below d
