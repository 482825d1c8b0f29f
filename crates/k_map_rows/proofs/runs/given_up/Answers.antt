use Rattle.std.proofs.lemmas.Bool.{both_ways}
use Rattle.k_map_rows.proofs.CalmLaws.{calm-all}
use Rattle.k_map_rows.proofs.runs.given_up.Goals as goal

pub give_up_all-requires-clause-awake : goal.give_up_all-requires-clause-awake
give_up_all-requires-clause-awake c lost = absurd (both_ways c.args.k.now.lost c.requires.on lost)

pub give_up_all-requires-clause-single : goal.give_up_all-requires-clause-single
give_up_all-requires-clause-single c on x is i has = c.requires.single i

pub returns : goal.returns
returns c =
    calm-all c.args.staging.now c.give_up_all.new.self c.args.k.now c.give_up_all.new.k c.give_up_all.result c.requires c.give_up_all.ensures.answer c.give_up_all.ensures.agrees

pub give_up_all-requires-clause-unbatched : goal.give_up_all-requires-clause-unbatched
give_up_all-requires-clause-unbatched c on = c.requires.unbatched
