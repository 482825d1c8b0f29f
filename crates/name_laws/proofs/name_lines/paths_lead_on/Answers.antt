-- the laws of the definitions
use Rattle.name_laws.specs.WalkLaws.{walk-kept, walk-taken, walk-stays, walk-gone}
use Rattle.name_laws.proofs.name_lines.paths_lead_on.Goals as goal

pub returns-clause-still : goal.returns-clause-still
returns-clause-still c = walk-kept

pub returns-clause-new : goal.returns-clause-new
returns-clause-new c = walk-taken

pub returns-clause-elsewhere : goal.returns-clause-elsewhere
returns-clause-elsewhere c = walk-stays

pub returns-clause-gone : goal.returns-clause-gone
returns-clause-gone c = walk-gone
