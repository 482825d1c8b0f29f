-- The table that is opened keeps the rule.
use Rattle.std.proofs.Common.{◌≡◌, ◌∙◌, ◌≤◌, ◌<◌, ℕ, List, length, map, ap, sym, subst, Vec, Global}
use Rattle.oplog_entry.specs.image_model.pm_model.Parts.{Part}
use Rattle.pm_lines.specs.declared.lines.Line.{Line}
use Rattle.oplog_entry.specs.EntryLines.{IsSingle}
use Rattle.oplog_entry.specs.LogLines.{line_at}
use Rattle.oplog_tail.specs.declared.views.Slot.TheVariants.{Fresh}
use Rattle.oplog_tail.specs.declared.views.Start.{Start}
use Rattle.oplog_tail.proofs.Founding.{opens_kept}
use Rattle.oplog_tail.proofs.logs.OpLog.open.Goals as goal

pub new-requires : goal.new-requires
new-requires c =
    let key : Start = record { seats = c.args.seats; base = c.args.base; lines = c.of.result } in
    let lines : c.of.result.value.items ≡ c.args.lines.items = ap (λ (v : Vec Line Global). v.items) c.of.ensures in
    opens_kept key c.in_ok-slots.slots.items (c.in_ok-slots.ensures ∙ ap (λ (l : List Part). map Fresh l) (sym lines)) c.requires.seats.1
    (subst (λ (l : List Part). length l ≤ 4096) (sym lines) c.requires.few)
    (subst (λ (l : List Part). (n : ℕ) → n < length l → IsSingle (line_at l n).cells) (sym lines) c.requires.single)
