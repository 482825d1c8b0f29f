-- What the place of all seats knows of the slots is said of the lines that come out of them.
use Rattle.std.proofs.Common.{◌≡◌, ◌∙◌, ◌<◌, List, ℕ, length, refl, ap, sym, subst}
use Rattle.oplog_entry.specs.image_model.pm_model.Parts.{Part}
use Rattle.std.specs.Mem.Slots.{slots_items}
use Rattle.oplog_tail.specs.Closing.{AreNumbered, claims_of_all, LeavesLines}
use Rattle.oplog_entry.specs.EntryLines.{IsSingle}
use Rattle.oplog_tail.specs.Logs.{LogView}
use Rattle.oplog_entry.specs.LogLines.{line_at}
use Rattle.oplog_tail.specs.declared.views.Slot.{Slot}
use Rattle.oplog_tail.proofs.Ends.{ends, IsEnd}
use Rattle.oplog_tail.proofs.Leaving.{have_lines, holds_claims, leaves, numbered}
use Rattle.oplog_tail.proofs.logs.OpLog.close.Goals as goal

pub take_lines-requires-clause-lines : goal.take_lines-requires-clause-lines
take_lines-requires-clause-lines c =
    let key = c.self.inside.table.shared.key in
    let whole = c.gather-whole.result in
    let count : length c.args.seats.items ≡ key.seats = c.requires.all ∙ sym (ap (λ (l : LogView). l.seats) c.self.view_is) in
    have_lines key whole.me.0 (slots_items c.close_with.result.slots)
    (ends key _ (slots_items c.close_with.result.slots) whole.id whole.me.0 c.close_with.ensures.values.2 c.self.invariant.some_seat (c.gather-whole.ensures.parts ∙ count) c.gather-whole.ensures.idle)

pub returns-clause-numbers : goal.returns-clause-numbers
returns-clause-numbers c =
    let key = c.self.inside.table.shared.key in
    let whole = c.gather-whole.result in
    let xs : List Slot = slots_items c.close_with.result.slots in
    let count : length c.args.seats.items ≡ key.seats = c.requires.all ∙ sym (ap (λ (l : LogView). l.seats) c.self.view_is) in
    let end : IsEnd key whole.me.0 xs = ends key _ xs whole.id whole.me.0 c.close_with.ensures.values.2 c.self.invariant.some_seat (c.gather-whole.ensures.parts ∙ count) c.gather-whole.ensures.idle in
    let log : LogView = record { id = c.self.inside.table.shared.table_id; base = c.self.inside.base; seats = key.seats; lines = key.lines.value.items } in
    subst (λ (l : LogView). AreNumbered l c.args.seats.items) c.self.view_is
    (numbered log key whole.me.0 xs c.args.seats.items refl refl c.gather-whole.ensures.claims c.gather-whole.ensures.full c.gather-whole.ensures.idle end)

pub returns-clause-lines : goal.returns-clause-lines
returns-clause-lines c =
    let key = c.self.inside.table.shared.key in
    let whole = c.gather-whole.result in
    let xs : List Slot = slots_items c.close_with.result.slots in
    let count : length c.args.seats.items ≡ key.seats = c.requires.all ∙ sym (ap (λ (l : LogView). l.seats) c.self.view_is) in
    let end : IsEnd key whole.me.0 xs = ends key _ xs whole.id whole.me.0 c.close_with.ensures.values.2 c.self.invariant.some_seat (c.gather-whole.ensures.parts ∙ count) c.gather-whole.ensures.idle in
    let log : LogView = record { id = c.self.inside.table.shared.table_id; base = c.self.inside.base; seats = key.seats; lines = key.lines.value.items } in
    subst (λ (l : LogView). LeavesLines l (claims_of_all c.args.seats.items) c.take_lines.result.items) c.self.view_is
    (subst (λ (lines : List Part). LeavesLines log (claims_of_all c.args.seats.items) lines) (sym c.take_lines.ensures)
    (leaves log key whole.me.0 xs (claims_of_all c.args.seats.items) c.self.invariant.base_is refl c.gather-whole.ensures.claims end))

pub returns-clause-holds : goal.returns-clause-holds
returns-clause-holds c =
    let key = c.self.inside.table.shared.key in
    let whole = c.gather-whole.result in
    let xs : List Slot = slots_items c.close_with.result.slots in
    let count : length c.args.seats.items ≡ key.seats = c.requires.all ∙ sym (ap (λ (l : LogView). l.seats) c.self.view_is) in
    let end : IsEnd key whole.me.0 xs = ends key _ xs whole.id whole.me.0 c.close_with.ensures.values.2 c.self.invariant.some_seat (c.gather-whole.ensures.parts ∙ count) c.gather-whole.ensures.idle in
    let single : (n : ℕ) → n < length c.args.self.lines → IsSingle (line_at c.args.self.lines n).cells =
    subst (λ (l : LogView). (n : ℕ) → n < length l.lines → IsSingle (line_at l.lines n).cells) c.self.view_is end.single in
    holds_claims c.args.self (claims_of_all c.args.seats.items) c.take_lines.result.items (returns-clause-lines c) single
