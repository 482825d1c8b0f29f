use Rattle.write_begin.proofs.JobNeeds.{jobs_need}
use Rattle.write_begin.proofs.begins.jobs_need_what_their_calls_do.Goals as goal

pub returns : goal.returns
returns c = jobs_need c.numbers_are_those_of_the_state.ensures.starts c.numbers_are_those_of_the_state.ensures.needs c.kept_numbers_are_those_of_the_state.ensures.sizes
