use Rattle.file_publish.proofs.Lapping.{keeps-lapped, stands-lapped}
use Rattle.file_publish.proofs.laps.the_next_lap_begins.Goals as goal

pub returns-clause-done : goal.returns-clause-done
returns-clause-done c = stands-lapped

pub returns-clause-cut : goal.returns-clause-cut
returns-clause-cut c = keeps-lapped
