use Rattle.std.proofs.lemmas.Bool.{both_ways}
use Rattle.k_map_rows.proofs.CalmLaws.{calm-after}
use Rattle.k_map_rows.proofs.runs.reserved.Goals as goal

pub reserve-requires-clause-awake : goal.reserve-requires-clause-awake
reserve-requires-clause-awake c lost = absurd (both_ways c.args.k.now.lost c.requires.calm.on lost)

pub reserve-requires-clause-agrees : goal.reserve-requires-clause-agrees
reserve-requires-clause-agrees c on = c.requires.calm.agrees

pub returns : goal.returns
returns c =
    calm-after c.args.count c.args.staging.now c.reserve.new.self c.args.k.now c.reserve.new.k c.reserve.result c.requires.calm c.reserve.ensures.answer c.reserve.ensures.agrees

pub reserve-requires-clause-unbatched : goal.reserve-requires-clause-unbatched
reserve-requires-clause-unbatched c on = c.requires.calm.unbatched
