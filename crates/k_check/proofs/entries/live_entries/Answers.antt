use Rattle.std.proofs.Common.{◌<◌, length, List, ap, ◌∙◌, arith}
use Rattle.std.specs.Prelude.{Option, filter}
use Rattle.std.proofs.lemmas.List.{take_all}
use Rattle.oplog_entry.specs.layout_model.declared.lines.Draft.{Draft}
use Rattle.check_image.specs.image_model.Live.{is_live}
use Rattle.k_check.proofs.SlotFacts.{items_of, passing-read}
use Rattle.k_check.proofs.entries.live_entries.Goals as goal

pub loop-slot-preserved : goal.loop-slot-preserved
loop-slot-preserved c v inodes =
    let within : c.loop-slot.slot-index < length c.args.slots.now = omega arith in
    passing-read (is_live v) c.args.slots.now c.loop-slot.slot-index _ c.loop-slot.live.items _ within (c.loop-slot.invariant v inodes)
    (c.in_ok-push_live.ensures v inodes)

pub returns : goal.returns
returns c v inodes =
    c.loop-slot.invariant v inodes
    ∙ ap (λ (l : List (Option Draft)). filter (is_live v) (items_of l)) (take_all c.loop-slot.slot-index c.args.slots.now (omega arith))
