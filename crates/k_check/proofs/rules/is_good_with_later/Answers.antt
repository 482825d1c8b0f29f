use Rattle.std.proofs.Common.{◌<◌, None, subst, sym, arith, refl, length}
use Rattle.std.specs.Prelude.{slice_index_or}
use Rattle.std.proofs.lemmas.List.{get_or_default}
use borrow.Author.Count.{below_more}
use Rattle.k_check.specs.Slots.{IsGoodSlot, IsGoodWithLater}
use Rattle.k_check.proofs.SlotFacts.{later-some, slot-at}
use Rattle.k_check.proofs.rules.is_good_with_later.Goals as goal

pub loop-later-preserved : goal.loop-later-preserved
loop-later-preserved c v inodes t after below =
    let within : c.loop-later.later < length c.args.slots.now = omega arith in
    below_more (λ n. c.args.place < n → IsGoodSlot v c.in-Some.draft (slice_index_or c.args.slots.now n None)) c.loop-later.later
    (λ n before behind. c.loop-later.invariant v inodes n behind before)
    (λ behind. subst (IsGoodSlot v c.in-Some.draft) (get_or_default c.args.slots.now c.loop-later.later _ None within)
    ((c.is_good_slot.ensures v inodes).0 c.if-not-is_good_slot.false)) t below after

pub returns : goal.returns
returns c v inodes = (
  λ yes. subst (IsGoodWithLater v c.args.slots.now c.args.place) (sym (slot-at c.args.slots.now c.args.place _ _ c.requires.place c.in-Some.is))
      (later-some v c.args.slots.now c.args.place c.in-Some.draft
      (λ t after within. c.loop-later.invariant v inodes t after (omega (arith, within, c.loop-later-test.false)))),
  λ good. refl,
)
