use Rattle.round_log.proofs.Holding.{changes_taken, claims_slot, holds_none, lines_hold, takes_slot}
use Rattle.round_log.proofs.laws.a_round_holds_its_claims.Goals as goal

pub returns-clause-none : goal.returns-clause-none
returns-clause-none c = holds_none

pub returns-clause-takes : goal.returns-clause-takes
returns-clause-takes c = takes_slot

pub returns-clause-changes : goal.returns-clause-changes
returns-clause-changes c = changes_taken

pub returns-clause-claims : goal.returns-clause-claims
returns-clause-claims c = claims_slot

pub returns-clause-lines : goal.returns-clause-lines
returns-clause-lines c = lines_hold
