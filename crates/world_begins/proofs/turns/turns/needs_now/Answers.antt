use Rattle.std.proofs.Common.{subst, sym, ◌<◌, ◌^◌, List}
use Rattle.world_parts.specs.in_flight.live_model.Standing.{JobOut}
use Rattle.world_begins.specs.Turns.{needs_by}
use Rattle.world_begins.proofs.Turning.{few_needs, lines_there}
use Rattle.world_begins.proofs.turns.turns.needs_now.Goals as goal

pub needs_out-requires-clause-lines : goal.needs_out-requires-clause-lines
needs_out-requires-clause-lines c = lines_there c.args.p.now c.args.who c.args.call.now c.requires c.kept_numbers_are_those_of_the_state.ensures.lines

pub needs_out-requires-clause-small : goal.needs_out-requires-clause-small
needs_out-requires-clause-small c =
    subst (λ (jobs : List JobOut). needs_by c.args.p.now.mode c.args.p.now.tables.tables c.args.p.now.files jobs < 2 ^ 64) (sym c.deref.ensures.value)
    (few_needs c.args.p.now c.args.who c.args.call.now c.requires c.jobs_need_what_their_calls_do.ensures c.kept_numbers_are_those_of_the_state.ensures.room)
