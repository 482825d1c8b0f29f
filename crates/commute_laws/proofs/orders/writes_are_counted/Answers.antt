use Rattle.commute_laws.specs.Counted.{counted-needs, fits_beside-all, never_fits, outcome-put, write-above}
use Rattle.commute_laws.proofs.orders.writes_are_counted.Goals as goal

pub returns-clause-counted : goal.returns-clause-counted
returns-clause-counted c = counted-needs

pub returns-clause-replied : goal.returns-clause-replied
returns-clause-replied c = outcome-put

pub returns-clause-together : goal.returns-clause-together
returns-clause-together c = fits_beside-all

pub returns-clause-never : goal.returns-clause-never
returns-clause-never c = never_fits

pub returns-clause-full : goal.returns-clause-full
returns-clause-full c = write-above
