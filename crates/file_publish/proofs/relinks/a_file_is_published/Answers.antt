use Rattle.file_publish.proofs.Cutting.{keeps-published, keeps-published-home}
use Rattle.file_publish.proofs.RelinksPublishing.{stands-published}
use Rattle.file_publish.proofs.relinks.a_file_is_published.Goals as goal

pub returns-clause-done : goal.returns-clause-done
returns-clause-done c = stands-published

pub returns-clause-cut : goal.returns-clause-cut
returns-clause-cut c = keeps-published

pub returns-clause-home : goal.returns-clause-home
returns-clause-home c = keeps-published-home
