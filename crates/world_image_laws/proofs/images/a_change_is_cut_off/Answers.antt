use Rattle.world_image_laws.specs.Running.{promise_between, promise_in_change, promise_of_call}
use Rattle.world_image_laws.proofs.images.a_change_is_cut_off.Goals as goal

pub returns-clause-trees : goal.returns-clause-trees
returns-clause-trees c = promise_in_change

pub returns-clause-call : goal.returns-clause-call
returns-clause-call c = promise_of_call

pub returns-clause-between : goal.returns-clause-between
returns-clause-between c = promise_between
