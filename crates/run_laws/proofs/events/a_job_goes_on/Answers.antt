use Rattle.run_laws.proofs.Finishes.{filled_is_here, finish_loses, job_finishes, job_given_up, persisted_is_here}
use Rattle.run_laws.proofs.Works.{claimed_is_free, entry_persisted, entry_stored, fill_loses, job_claims, job_fills, persist_loses, store_loses, stored_is_there}
use Rattle.run_laws.proofs.events.a_job_goes_on.Goals as goal

pub returns-clause-filled : goal.returns-clause-filled
returns-clause-filled c = job_fills

pub returns-clause-fill_lost : goal.returns-clause-fill_lost
returns-clause-fill_lost c = fill_loses

pub returns-clause-claimed : goal.returns-clause-claimed
returns-clause-claimed c = job_claims

pub returns-clause-here : goal.returns-clause-here
returns-clause-here c = filled_is_here

pub returns-clause-given_up : goal.returns-clause-given_up
returns-clause-given_up c = job_given_up

pub returns-clause-free : goal.returns-clause-free
returns-clause-free c = claimed_is_free

pub returns-clause-stored : goal.returns-clause-stored
returns-clause-stored c = entry_stored

pub returns-clause-store_lost : goal.returns-clause-store_lost
returns-clause-store_lost c = store_loses

pub returns-clause-there : goal.returns-clause-there
returns-clause-there c = stored_is_there

pub returns-clause-persisted : goal.returns-clause-persisted
returns-clause-persisted c = entry_persisted

pub returns-clause-persist_lost : goal.returns-clause-persist_lost
returns-clause-persist_lost c = persist_loses

pub returns-clause-ready : goal.returns-clause-ready
returns-clause-ready c = persisted_is_here

pub returns-clause-finished : goal.returns-clause-finished
returns-clause-finished c = job_finishes

pub returns-clause-finish_lost : goal.returns-clause-finish_lost
returns-clause-finish_lost c = finish_loses
