use Rattle.std.proofs.Common.{subst, sym}
use Rattle.k_check.specs.Slots.{IsGoodSlot}
use Rattle.k_check.proofs.SlotFacts.{slot-some}
use Rattle.k_check.proofs.rules.is_good_slot.Goals as goal

pub returns-in-Some : goal.returns-in-Some
returns-in-Some c v inodes =
    let pair = c.is_good_pair.ensures v inodes in (
      λ yes. subst (IsGoodSlot v c.args.draft.now) (sym c.in-Some.is) (slot-some v c.args.draft.now c.in-Some.other (pair.0 yes)),
      λ good. pair.1 (good.pair c.in-Some.other c.in-Some.is),
    )
