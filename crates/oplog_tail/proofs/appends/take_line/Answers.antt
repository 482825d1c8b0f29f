use Rattle.std.proofs.Common.{◌≡◌, ◌∙◌, ◌∷◌, [], List, ℕ, ap, sym}
use Rattle.atomic_table.specs.Table.{rest}
use Rattle.oplog_tail.specs.declared.views.Slot.{Slot}
use Rattle.oplog_tail.specs.declared.views.Slot.TheVariants.{Fresh}
use Rattle.oplog_tail.proofs.appends.take_line.Goals as goal

pub exchange-requires : goal.exchange-requires
exchange-requires c =
    let line = c.requires.line in
    let behind : [] ≡ rest c.args.place.now.me.1 = sym (ap rest line.1) in
    (c.requires.table, (Fresh line.0, line.1 ∙ ap (λ (l : List (ℕ × Slot)). (c.args.number, Fresh line.0) ∷ l) behind))
