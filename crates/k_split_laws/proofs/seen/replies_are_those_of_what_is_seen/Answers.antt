use Rattle.k_split_laws.specs.Ends.{done_by_row_seen, refused_by_row_seen}
use Rattle.k_split_laws.proofs.seen.replies_are_those_of_what_is_seen.Goals as goal

pub returns-clause-refused : goal.returns-clause-refused
returns-clause-refused c = refused_by_row_seen

pub returns-clause-answered : goal.returns-clause-answered
returns-clause-answered c = done_by_row_seen
