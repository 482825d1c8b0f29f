use Rattle.batch_laws.specs.JoinsLaws.{commit_is_found, found_goes_on, make_joins, rmdir_joins}
use Rattle.batch_laws.proofs.a_change_joins.Goals as goal

pub returns : goal.returns
returns c = record { found = found_goes_on; committed = commit_is_found; made = make_joins; removed = rmdir_joins }
