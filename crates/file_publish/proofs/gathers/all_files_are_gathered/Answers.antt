use Rattle.file_publish.proofs.GathersGathering.{keeps-gathered, stands-gathered}
use Rattle.file_publish.proofs.gathers.all_files_are_gathered.Goals as goal

pub returns-clause-done : goal.returns-clause-done
returns-clause-done c = stands-gathered c.what_stands_may_be_published.ensures c.a_file_is_published.ensures.done c.the_next_lap_begins.ensures.done

pub returns-clause-cut : goal.returns-clause-cut
returns-clause-cut c =
    keeps-gathered c.what_stands_may_be_published.ensures c.a_file_is_published.ensures.done c.a_file_is_published.ensures.home c.the_next_lap_begins.ensures.cut
