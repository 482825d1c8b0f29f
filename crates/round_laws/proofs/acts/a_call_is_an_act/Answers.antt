use Rattle.round_laws.proofs.Acting.{finish_acts, give_up_acts, job_acts, lose_acts, lost_call_acts, lost_end_acts, lost_finish_acts, nothing_acts, returns_act, round_end_acts}
use Rattle.round_laws.proofs.acts.a_call_is_an_act.Goals as goal

pub returns-clause-returns : goal.returns-clause-returns
returns-clause-returns c = returns_act

pub returns-clause-job : goal.returns-clause-job
returns-clause-job c = job_acts

pub returns-clause-round_end : goal.returns-clause-round_end
returns-clause-round_end c = round_end_acts

pub returns-clause-lost_call : goal.returns-clause-lost_call
returns-clause-lost_call c = lost_call_acts

pub returns-clause-lost_end : goal.returns-clause-lost_end
returns-clause-lost_end c = lost_end_acts

pub returns-clause-nothing : goal.returns-clause-nothing
returns-clause-nothing c = nothing_acts

pub returns-clause-finish : goal.returns-clause-finish
returns-clause-finish c = finish_acts

pub returns-clause-lost_finish : goal.returns-clause-lost_finish
returns-clause-lost_finish c = lost_finish_acts

pub returns-clause-give_up : goal.returns-clause-give_up
returns-clause-give_up c = give_up_acts

pub returns-clause-lose : goal.returns-clause-lose
returns-clause-lose c = lose_acts
