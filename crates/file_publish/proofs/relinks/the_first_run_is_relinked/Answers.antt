use Rattle.file_publish.proofs.Kept.{keeps-relinked, keeps-relinked-home}
use Rattle.file_publish.proofs.RelinksStanding.{stands-relinked}
use Rattle.file_publish.proofs.relinks.the_first_run_is_relinked.Goals as goal

pub returns-clause-done : goal.returns-clause-done
returns-clause-done c = stands-relinked

pub returns-clause-cut : goal.returns-clause-cut
returns-clause-cut c = keeps-relinked

pub returns-clause-home : goal.returns-clause-home
returns-clause-home c = keeps-relinked-home
