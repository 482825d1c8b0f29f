use Rattle.std.proofs.Common.{◌≡◌, take}
use Rattle.std.specs.Prelude.{filter, Option}
use Rattle.std.specs.List.{filter_map}
use Rattle.oplog_entry.specs.layout_model.declared.lines.Draft.{Draft}
use Rattle.check_image.specs.image_model.Live.{is_live}
use Rattle.check_image.specs.image_model.Volume.{Volume}
use Rattle.k_check.proofs.entries.live_entries.Given as goal

-- the live entries of the slots so far
abbrev pub invariant-loop-slot : goal.invariant-loop-slot
invariant-loop-slot l =
    (v : Volume) → v.inodes ≡ l.inodes → l.live.items ≡ filter (is_live v) (filter_map (λ (o : Option Draft). o) (take l.slot-index l.slots))
