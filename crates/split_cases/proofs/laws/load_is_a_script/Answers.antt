use Rattle.split_cases.proofs.Loads.{loads-are}
use Rattle.split_cases.proofs.laws.load_is_a_script.Goals as goal

pub returns : goal.returns
returns c = loads-are c.scripts_are_read_back.ensures
