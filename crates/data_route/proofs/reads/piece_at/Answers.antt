use Rattle.std.proofs.Common.{arith, ap, ◌∙◌, ◌≡◌, ◌+◌, ◌*◌, ◌≤◌, ◌/◌, ◌%◌}
use Rattle.data_route.specs.Reads.{places_in}
use Rattle.data_route.proofs.Pieces.{places-block}
use Rattle.data_route.proofs.reads.piece_at.Goals as goal

-- the bytes lie one after the other in one block
pub returns-clause-bytes : goal.returns-clause-bytes
returns-clause-bytes c =
    let least = c.min.ensures in
    let place : c.args.at ≡ 4096 * (c.args.at / 4096) + c.args.at % 4096 = omega arith in
    let within : c.args.at % 4096 + c.min.result ≤ 4096 = omega arith in
    ap (λ s. places_in (record { source = s; at = c.args.at % 4096; len = c.min.result })) c.in_ok-source.ensures.source
    ∙ places-block c.args.overlay.now.runs c.args.map.now (c.args.at / 4096) (c.args.at % 4096) c.args.at c.min.result place within
