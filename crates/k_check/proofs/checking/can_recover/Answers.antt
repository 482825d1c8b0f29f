use Rattle.std.proofs.Common.{sym, ◌∙◌, subst, List, All}
use Rattle.std.specs.Prelude.{Option}
use Rattle.std.proofs.lemmas.Bool.{both_ways}
use Rattle.oplog_entry.specs.layout_model.declared.lines.Draft.{Draft}
use Rattle.check_image.specs.image_model.Rules.{HasStagingBlocks}
use Rattle.k_check.specs.Rooms.{HasRoom}
use Rattle.k_check.specs.Slots.{AreGoodSlots}
use Rattle.k_check.proofs.RecoverFacts.{pairs-held, recover-held, room-of}
use Rattle.k_check.proofs.checking.can_recover.Goals as goal
use Rattle.k_check.proofs.checking.can_recover.Goals.{then-not-are_staged-via-then-not-are_staged, then-not-are_staged-via-else-not-are_staged+then-not-are_good_slots}

pub returns : goal.returns
returns c v j are slots live =
    let maps = are.tables.same_maps ∙ sym c.deref.ensures.value in
    let inodes = are.tables.same_inodes ∙ sym c.deref-else-not-are_staged.ensures.value in
    let room = c.has_room.ensures v are in (
      λ yes. recover-held v j
          (subst (λ (l : List Draft). All (HasStagingBlocks v) l) live ((c.are_staged.ensures v maps).0 c.if-not-are_staged.false))
          (subst (λ (l : List (Option Draft)). AreGoodSlots v l) slots ((c.are_good_slots.ensures v inodes).0 c.if-not-are_good_slots.false))
          (subst (HasRoom v) live (room.0 yes)),
      λ can. room.1 (subst (HasRoom v) (sym live) (room-of v j can)),
    )

pub returns-then-not-are_staged : goal.returns-then-not-are_staged
returns-then-not-are_staged c v j are slots live = (
  λ no. cc,
  λ can. absurd (elim c.then-not-are_staged.branch [
    | then-not-are_staged-via-then-not-are_staged w ↦
        both_ways c.are_staged.result w.if-not-are_staged.true
        ((c.are_staged.ensures v (are.tables.same_maps ∙ sym c.deref.ensures.value)).1
        (subst (λ (l : List Draft). All (HasStagingBlocks v) l) (sym live) can.staged))
    | then-not-are_staged-via-else-not-are_staged+then-not-are_good_slots w ↦
        both_ways w.are_good_slots.result w.if-not-are_good_slots.true
        ((w.are_good_slots.ensures v (are.tables.same_inodes ∙ sym w.deref-else-not-are_staged.ensures.value)).1
        (subst (λ (l : List (Option Draft)). AreGoodSlots v l) (sym slots) (pairs-held v j can)))
  ]),
)
