use Rattle.std.proofs.Common.{ap, arith}
use Rattle.std.proofs.lemmas.List.{take_all}
use Rattle.std.proofs.lemmas.List.Sums.{sum_by_more}
use Rattle.k_plans.specs.image_model.Placed.{no_extent}
use Rattle.k_relink.specs.extent_model.Counts.{one_if}
use Rattle.k_relink.specs.extent_model.declared.extent_words.Extent.{Extent}
use Rattle.k_relink.specs.extent_model.Extents.{holds_disk}
use Rattle.k_plans.specs.volume_laws.Uses.{in_map}
use Rattle.k_map_plans.proofs.map_plans.lists.push_extents.Goals as goal

pub loop-extent-preserved : goal.loop-extent-preserved
loop-extent-preserved c b =
    omega (
      arith,
      c.in_ok-push_run.ensures b,
      c.loop-extent.invariant b,
      sum_by_more (λ (e : Extent). one_if (holds_disk e b)) c.args.extents.now c.loop-extent.extent-index no_extent c.loop-extent-test.true,
    )

pub returns : goal.returns
returns c b =
    omega (
      arith,
      c.loop-extent.invariant b,
      ap (λ es. in_map es b) (take_all c.loop-extent.extent-index c.args.extents.now c.loop-extent-test.false),
    )
