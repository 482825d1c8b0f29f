use Rattle.batch_laws.specs.JoinsLaws.{loss_leaves, make_loses, rmdir_loses}
use Rattle.batch_laws.proofs.a_change_loses_its_power.Goals as goal

pub returns : goal.returns
returns c = record { made = make_loses; removed = rmdir_loses; left = loss_leaves }
