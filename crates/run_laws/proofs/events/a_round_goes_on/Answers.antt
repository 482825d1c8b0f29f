use Rattle.run_laws.proofs.Checks.{begins_round, check_loses, crashes_between, may_check, round_checked}
use Rattle.run_laws.proofs.events.a_round_goes_on.Goals as goal

pub returns-clause-begins : goal.returns-clause-begins
returns-clause-begins c = begins_round

pub returns-clause-may : goal.returns-clause-may
returns-clause-may c = may_check

pub returns-clause-done : goal.returns-clause-done
returns-clause-done c = round_checked

pub returns-clause-lost : goal.returns-clause-lost
returns-clause-lost c = check_loses

pub returns-clause-crashes : goal.returns-clause-crashes
returns-clause-crashes c = crashes_between
