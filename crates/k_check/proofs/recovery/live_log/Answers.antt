use Rattle.std.proofs.Common.{◌≡◌, ◌*◌, length, List, sym, ◌∙◌, ap}
use Rattle.std.specs.Prelude.{filter, Option}
use Rattle.oplog_entry.specs.layout_model.declared.lines.Draft.{Draft}
use Rattle.oplog_entry.specs.layout_model.Journal.{journaled}
use Rattle.check_image.specs.image_model.Broken.{BreaksFirst}
use Rattle.check_image.specs.image_model.Checked.{HasHead}
use Rattle.check_image.specs.image_model.Live.{is_live, live_entries}
use Rattle.oplog_entry.specs.pm_model.Images.{words_of}
use Rattle.check_image.specs.Readings.{AreTables, front_rules}
use Rattle.k_check.specs.Slots.{slots_at}
use Rattle.k_check.proofs.CheckFacts.{base-read, read-whole, size-read, volume_of}
use Rattle.k_check.proofs.RecoverFacts.{live-slots}
use Rattle.k_check.proofs.SlotFacts.{items_of}
use Rattle.k_check.proofs.recovery.live_log.Goals as goal

pub read_slots-requires-clause-size : goal.read_slots-requires-clause-size
read_slots-requires-clause-size c =
    let f = words_of c.args.pm.now in
    let n = length c.args.pm.now in
    let are : AreTables (volume_of f) c.in-Ok.tables = rw c.in-Ok.is at c.in_ok-tables.ensures.tables in
    let head : HasHead (8 * n) f = rw c.in-Ok.is at c.in_ok-tables.ensures.head in
    size-read n f c.in-Ok.tables are head

pub read_slots-requires-clause-base : goal.read_slots-requires-clause-base
read_slots-requires-clause-base c =
    let f = words_of c.args.pm.now in
    let n = length c.args.pm.now in
    let are : AreTables (volume_of f) c.in-Ok.tables = rw c.in-Ok.is at c.in_ok-tables.ensures.tables in
    let head : HasHead (8 * n) f = rw c.in-Ok.is at c.in_ok-tables.ensures.head in
    base-read (8 * n) f c.in-Ok.tables are head

pub unreachable-requires : goal.unreachable-requires
unreachable-requires c =
    let f = words_of c.args.pm.now in
    let n = length c.args.pm.now in
    let breaks : BreaksFirst (front_rules (8 * n) f) c.in-Err.field-0.rule c.in-Err.field-0.place = rw c.in-Err.is at c.in_ok-tables.ensures.bad in
    read-whole (8 * n) f c.in-Err.field-0.rule c.in-Err.field-0.place c.requires.checked breaks

pub returns : goal.returns
returns c =
    let f = words_of c.args.pm.now in
    let j = journaled f in
    let v = volume_of f in
    let are : AreTables v c.in-Ok.tables = rw c.in-Ok.is at c.in_ok-tables.ensures.tables in
    let slots : c.in_ok-slots-in-Ok.slots.items ≡ slots_at v.geometry v.base j = c.in_ok-slots-in-Ok.ensures ∙ (λ i. slots_at (sym are.geometry i) (sym are.base i) j) in
    let inodes : v.inodes ≡ c.deref.result.now = are.tables.same_inodes ∙ sym c.deref.ensures.value in
    let live : c.in_ok-live-in-Ok.live.items ≡ filter (is_live v) (items_of c.in_ok-slots-in-Ok.slots.items) = rw c.deref-in-Ok.ensures.value at (c.in_ok-live-in-Ok.ensures v inodes) in
    let all : c.in_ok-live-in-Ok.live.items ≡ live_entries v j = live ∙ ap (λ (l : List (Option Draft)). filter (is_live v) (items_of l)) slots ∙ live-slots v j in
    all
