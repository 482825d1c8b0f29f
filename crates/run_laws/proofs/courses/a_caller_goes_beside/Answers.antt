use Rattle.run_laws.proofs.Beside.{claims_beside, fills_beside, logs_beside, persists_beside, returns_beside, stores_beside}
use Rattle.run_laws.proofs.Rounds.{finds_full_beside, finishes_beside}
use Rattle.run_laws.proofs.courses.a_caller_goes_beside.Goals as goal

pub returns-clause-returns : goal.returns-clause-returns
returns-clause-returns c = returns_beside

pub returns-clause-logs : goal.returns-clause-logs
returns-clause-logs c = logs_beside

pub returns-clause-fills : goal.returns-clause-fills
returns-clause-fills c = fills_beside

pub returns-clause-claims : goal.returns-clause-claims
returns-clause-claims c = claims_beside

pub returns-clause-full : goal.returns-clause-full
returns-clause-full c = finds_full_beside

pub returns-clause-stores : goal.returns-clause-stores
returns-clause-stores c = stores_beside

pub returns-clause-persists : goal.returns-clause-persists
returns-clause-persists c = persists_beside

pub returns-clause-finishes : goal.returns-clause-finishes
returns-clause-finishes c = finishes_beside
