use Rattle.std.proofs.Common.{arith}
use Rattle.oplog_tail.proofs.Allowing.{claims_allowed}
use Rattle.oplog_tail.proofs.appends.claim.Goals as goal

pub fetch_add-requires : goal.fetch_add-requires
fetch_add-requires c =
    let place = c.args.place.now in
    let shared = c.args.shared.now in
    let words = c.requires.table.1 in
    let parts = c.requires.alone in
    (c.requires.table.0, omega (arith, words), claims_allowed shared.key shared.table_id.slots place.id place.me c.requires.idle c.requires.unfilled (omega (arith, parts)))
