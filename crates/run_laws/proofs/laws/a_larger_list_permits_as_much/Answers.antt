use Rattle.run_laws.proofs.Acted.{permits_as_much}
use Rattle.run_laws.proofs.laws.a_larger_list_permits_as_much.Goals as goal

pub returns : goal.returns
returns c = permits_as_much
