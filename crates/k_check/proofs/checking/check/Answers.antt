use Rattle.std.proofs.Common.{◌≡◌, ◌*◌, ap, sym, ◌∙◌, subst, List, length}
use Rattle.std.specs.Prelude.{Option, filter}
use Rattle.std.proofs.lemmas.Bool.{both_ways}
use Rattle.oplog_entry.specs.layout_model.declared.lines.Draft.{Draft}
use Rattle.oplog_entry.specs.layout_model.Journal.{journaled}
use Rattle.check_image.specs.image_model.Broken.{HoldAll, Holds, FailsFirst, Breaks, BreaksFirst}
use Rattle.check_image.specs.image_model.Checked.{HasHead}
use Rattle.check_image.specs.image_model.Live.{is_live}
use Rattle.oplog_entry.specs.pm_model.Images.{words_of}
use Rattle.check_image.specs.Readings.{AreTables, front_rules}
use Rattle.k_check.specs.Slots.{slots_at, AreDrafts, later_rule}
use Rattle.k_check.proofs.CheckFacts.{volume_of, geometry-read, size-read, base-read, breaks-front, breaks-recovery, breaks-later, all-kept}
use Rattle.k_check.proofs.RecoverFacts.{slots-drafts, live-slots, live-drafts}
use Rattle.k_check.proofs.SlotFacts.{items_of}
use Rattle.k_check.proofs.checking.check.Goals as goal

pub returns-in-Err-clause-bad : goal.returns-in-Err-clause-bad
returns-in-Err-clause-bad c =
    let f = words_of c.args.pm.now in
    let bytes = 8 * length c.args.pm.now in
    let bad : BreaksFirst (front_rules bytes f) c.in-Err.bad.rule c.in-Err.bad.place = rw c.in-Err.is at c.in_ok-tables.ensures.bad in
    breaks-front bytes f c.in-Err.bad.rule c.in-Err.bad.place bad

pub read_slots-requires-clause-size : goal.read_slots-requires-clause-size
read_slots-requires-clause-size c =
    let f = words_of c.args.pm.now in
    let j = journaled f in
    let v = volume_of f in
    let n = length c.args.pm.now in
    let are : AreTables v c.in-Ok.tables = rw c.in-Ok.is at c.in_ok-tables.ensures.tables in
    let head : HasHead (8 * n) f = rw c.in-Ok.is at c.in_ok-tables.ensures.head in
    size-read n f c.in-Ok.tables are head

pub read_slots-requires-clause-base : goal.read_slots-requires-clause-base
read_slots-requires-clause-base c =
    let f = words_of c.args.pm.now in
    let j = journaled f in
    let v = volume_of f in
    let n = length c.args.pm.now in
    let are : AreTables v c.in-Ok.tables = rw c.in-Ok.is at c.in_ok-tables.ensures.tables in
    let head : HasHead (8 * n) f = rw c.in-Ok.is at c.in_ok-tables.ensures.head in
    base-read (8 * n) f c.in-Ok.tables are head

pub can_recover-requires-clause-drafts : goal.can_recover-requires-clause-drafts
can_recover-requires-clause-drafts c =
    let j = journaled (words_of c.args.pm.now) in
    subst AreDrafts (sym (c.deref-3.ensures.value ∙ c.in_ok-slots.ensures)) (slots-drafts c.in-Ok.tables.geometry c.in-Ok.tables.base j)

pub can_recover-requires-clause-live : goal.can_recover-requires-clause-live
can_recover-requires-clause-live c =
    let f = words_of c.args.pm.now in
    let j = journaled f in
    let v = volume_of f in
    let n = length c.args.pm.now in
    let are : AreTables v c.in-Ok.tables = rw c.in-Ok.is at c.in_ok-tables.ensures.tables in
    let head : HasHead (8 * n) f = rw c.in-Ok.is at c.in_ok-tables.ensures.head in
    let slots : c.in_ok-slots.slots.items ≡ slots_at v.geometry v.base j = c.in_ok-slots.ensures ∙ (λ i. slots_at (sym are.geometry i) (sym are.base i) j) in
    let inodes : v.inodes ≡ c.deref.result.now = are.tables.same_inodes ∙ sym c.deref.ensures.value in
    let live : c.in_ok-live.live.items ≡ filter (is_live v) (items_of c.in_ok-slots.slots.items) = rw c.deref-2.ensures.value at (c.in_ok-live.ensures v inodes) in
    let drafts : AreDrafts c.in_ok-slots.slots.items = subst AreDrafts (sym c.in_ok-slots.ensures) (slots-drafts c.in-Ok.tables.geometry c.in-Ok.tables.base j) in
    rw (c.deref-4.ensures.value, live) (live-drafts (is_live v) c.in_ok-slots.slots.items drafts)

pub returns-then-not-can_recover-clause-bad : goal.returns-then-not-can_recover-clause-bad
returns-then-not-can_recover-clause-bad c =
    let f = words_of c.args.pm.now in
    let j = journaled f in
    let v = volume_of f in
    let n = length c.args.pm.now in
    let are : AreTables v c.in-Ok.tables = rw c.in-Ok.is at c.in_ok-tables.ensures.tables in
    let head : HasHead (8 * n) f = rw c.in-Ok.is at c.in_ok-tables.ensures.head in
    let front : HoldAll (front_rules (8 * n) f) = rw c.in-Ok.is at c.in_ok-tables.ensures.ok in
    let slots : c.in_ok-slots.slots.items ≡ slots_at v.geometry v.base j = c.in_ok-slots.ensures ∙ (λ i. slots_at (sym are.geometry i) (sym are.base i) j) in
    let inodes : v.inodes ≡ c.deref.result.now = are.tables.same_inodes ∙ sym c.deref.ensures.value in
    let live : c.in_ok-live.live.items ≡ filter (is_live v) (items_of c.in_ok-slots.slots.items) = rw c.deref-2.ensures.value at (c.in_ok-live.ensures v inodes) in
    let decides = c.can_recover.ensures v j are (c.deref-3.ensures.value ∙ slots)
    (c.deref-4.ensures.value ∙ live ∙ ap (λ (l : List (Option Draft)). filter (is_live v) (items_of l)) slots ∙ live-slots v j)
    in
    breaks-recovery (8 * n) f front (λ can. both_ways c.can_recover.result c.if-not-can_recover.true (decides.1 can))

pub later_entry-requires-clause-size : goal.later_entry-requires-clause-size
later_entry-requires-clause-size c =
    let f = words_of c.args.pm.now in
    let j = journaled f in
    let v = volume_of f in
    let n = length c.args.pm.now in
    let are : AreTables v c.in-Ok.tables = rw c.in-Ok.is at c.in_ok-tables.ensures.tables in
    let head : HasHead (8 * n) f = rw c.in-Ok.is at c.in_ok-tables.ensures.head in
    size-read n f c.in-Ok.tables are head

pub later_entry-requires-clause-base : goal.later_entry-requires-clause-base
later_entry-requires-clause-base c =
    let f = words_of c.args.pm.now in
    let j = journaled f in
    let v = volume_of f in
    let n = length c.args.pm.now in
    let are : AreTables v c.in-Ok.tables = rw c.in-Ok.is at c.in_ok-tables.ensures.tables in
    let head : HasHead (8 * n) f = rw c.in-Ok.is at c.in_ok-tables.ensures.head in
    base-read (8 * n) f c.in-Ok.tables are head

pub returns-in-Some-clause-bad : goal.returns-in-Some-clause-bad
returns-in-Some-clause-bad c =
    let f = words_of c.args.pm.now in
    let j = journaled f in
    let v = volume_of f in
    let n = length c.args.pm.now in
    let are : AreTables v c.in-Ok.tables = rw c.in-Ok.is at c.in_ok-tables.ensures.tables in
    let head : HasHead (8 * n) f = rw c.in-Ok.is at c.in_ok-tables.ensures.head in
    let front : HoldAll (front_rules (8 * n) f) = rw c.in-Ok.is at c.in_ok-tables.ensures.ok in
    let slots : c.in_ok-slots.slots.items ≡ slots_at v.geometry v.base j = c.in_ok-slots.ensures ∙ (λ i. slots_at (sym are.geometry i) (sym are.base i) j) in
    let inodes : v.inodes ≡ c.deref.result.now = are.tables.same_inodes ∙ sym c.deref.ensures.value in
    let live : c.in_ok-live.live.items ≡ filter (is_live v) (items_of c.in_ok-slots.slots.items) = rw c.deref-2.ensures.value at (c.in_ok-live.ensures v inodes) in
    let decides = c.can_recover.ensures v j are (c.deref-3.ensures.value ∙ slots)
    (c.deref-4.ensures.value ∙ live ∙ ap (λ (l : List (Option Draft)). filter (is_live v) (items_of l)) slots ∙ live-slots v j)
    in
    let fails : FailsFirst (later_rule v j) c.in-Some.slot = c.in-Some.ensures v are.geometry are.base in
    subst (Breaks (8 * n) f 13) (sym c.from.ensures) (breaks-later (8 * n) f c.in-Some.slot front (decides.0 c.if-not-can_recover.false) fails)

pub returns-clause-ok : goal.returns-clause-ok
returns-clause-ok c =
    let f = words_of c.args.pm.now in
    let j = journaled f in
    let v = volume_of f in
    let n = length c.args.pm.now in
    let are : AreTables v c.in-Ok.tables = rw c.in-Ok.is at c.in_ok-tables.ensures.tables in
    let head : HasHead (8 * n) f = rw c.in-Ok.is at c.in_ok-tables.ensures.head in
    let front : HoldAll (front_rules (8 * n) f) = rw c.in-Ok.is at c.in_ok-tables.ensures.ok in
    let slots : c.in_ok-slots.slots.items ≡ slots_at v.geometry v.base j = c.in_ok-slots.ensures ∙ (λ i. slots_at (sym are.geometry i) (sym are.base i) j) in
    let inodes : v.inodes ≡ c.deref.result.now = are.tables.same_inodes ∙ sym c.deref.ensures.value in
    let live : c.in_ok-live.live.items ≡ filter (is_live v) (items_of c.in_ok-slots.slots.items) = rw c.deref-2.ensures.value at (c.in_ok-live.ensures v inodes) in
    let decides = c.can_recover.ensures v j are (c.deref-3.ensures.value ∙ slots)
    (c.deref-4.ensures.value ∙ live ∙ ap (λ (l : List (Option Draft)). filter (is_live v) (items_of l)) slots ∙ live-slots v j)
    in
    let later : Holds (later_rule v j) = c.in_default.ensures v are.geometry are.base in
    all-kept (8 * n) f front (decides.0 c.if-not-can_recover.false) later

pub returns-clause-geometry : goal.returns-clause-geometry
returns-clause-geometry c =
    let f = words_of c.args.pm.now in
    let j = journaled f in
    let v = volume_of f in
    let n = length c.args.pm.now in
    let are : AreTables v c.in-Ok.tables = rw c.in-Ok.is at c.in_ok-tables.ensures.tables in
    let head : HasHead (8 * n) f = rw c.in-Ok.is at c.in_ok-tables.ensures.head in
    geometry-read f c.in-Ok.tables are
