use Rattle.std.proofs.Common.{arith}
use Rattle.ruled_turn.proofs.Allowing.{takes_allowed}
use Rattle.ruled_turn.proofs.entering.take.Goals as goal

pub compare_exchange-requires : goal.compare_exchange-requires
compare_exchange-requires g c =
    let words = c.requires.table.1 in
    let shared = c.args.shared.now in (
      c.requires.table.0,
      omega (arith, words),
      takes_allowed g.P.Protocol.holds g.P.Protocol.knows g.P.Protocol.tells shared.key.passes shared.table_id.slots c.args.seat.now.id c.args.seat.now.me c.requires.pass,
    )
