use Rattle.std.proofs.Common.{None, arith, refl}
use Rattle.std.specs.Prelude.{slice_index_or}
use borrow.Author.Count.{below_more}
use Rattle.k_check.specs.Slots.{IsGoodWithLater}
use Rattle.k_check.proofs.SlotFacts.{slots-all}
use Rattle.k_check.proofs.rules.are_good_slots.Goals as goal

pub loop-place-preserved : goal.loop-place-preserved
loop-place-preserved c v inodes s below =
    below_more (λ n. IsGoodWithLater v c.args.slots.now n (slice_index_or c.args.slots.now n None)) c.loop-place.place
    (c.loop-place.invariant v inodes) ((c.is_good_with_later.ensures v inodes).0 c.if-not-is_good_with_later.false) s below

pub returns : goal.returns
returns c v inodes = (
  λ yes. slots-all v c.args.slots.now (λ s within. c.loop-place.invariant v inodes s (omega (arith, within, c.loop-place-test.false))),
  λ good. refl,
)
