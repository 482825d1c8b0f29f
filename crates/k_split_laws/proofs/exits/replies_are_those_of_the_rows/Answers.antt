use Rattle.k_split_laws.specs.DeviceSteps.{done_by_row, refused_by_row}
use Rattle.k_split_laws.proofs.exits.replies_are_those_of_the_rows.Goals as goal

pub returns-clause-refused : goal.returns-clause-refused
returns-clause-refused c = refused_by_row

pub returns-clause-answered : goal.returns-clause-answered
returns-clause-answered c = done_by_row
