use Rattle.std.proofs.Common.{◌+◌, arith}
use Rattle.std.proofs.lemmas.List.{length_push}
use Rattle.block_pool.proofs.Lowest.{none_yet, all_found, next_found, lowest_found}
use Rattle.block_pool.proofs.blocks.lowest_blocks.Goals as goal

pub loop-taken-init : goal.loop-taken-init
loop-taken-init c = rw c.in_ok-blocks.ensures.items (record { size = omega arith; all = none_yet c.args.words.now c.args.first c.args.count })

-- there are more set bits than were found
pub unreachable-requires : goal.unreachable-requires
unreachable-requires c =
    omega (arith, c.requires.enough, all_found _ _ _ _ _ c.loop-taken.invariant.all c.in-None.ensures.none, c.loop-taken.invariant.size)

pub loop-taken-preserved : goal.loop-taken-preserved
loop-taken-preserved c = rw c.in_ok-push-in-Some.ensures.items (record {
  size = omega (arith, length_push c.loop-taken.blocks.items (c.args.first + c.in-Some.place), c.loop-taken.invariant.size);
  all = next_found _ _ _ _ _ c.loop-taken.invariant.all _ c.in-Some.ensures.found;
})

pub returns : goal.returns
returns c = lowest_found _ _ _ _ _ c.loop-taken.invariant.all c.args.n (omega arith)
