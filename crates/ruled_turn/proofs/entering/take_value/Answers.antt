use Rattle.std.proofs.Common.{◌≡◌, ◌∙◌, ◌∷◌, [], ap, sym, Some}
use Rattle.atomic_table.specs.Table.{rest}
use Rattle.ruled_turn.proofs.entering.take_value.Goals as goal

pub exchange-requires : goal.exchange-requires
exchange-requires g c =
    let x = c.requires.value in
    let behind : [] ≡ rest c.args.seat.now.me.1 = sym (ap rest x.1) in
    (c.requires.table, (Some x.0, x.1 ∙ ap (λ l. (0, Some x.0) ∷ l) behind))
