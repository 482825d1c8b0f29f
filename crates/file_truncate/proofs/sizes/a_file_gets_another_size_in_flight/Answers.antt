use Rattle.file_truncate.proofs.Cut.{keeps_sized}
use Rattle.file_truncate.proofs.Sized.{stands_sized}
use Rattle.file_truncate.proofs.Zeros.{cleans_behind}
use Rattle.file_truncate.proofs.sizes.a_file_gets_another_size_in_flight.Goals as goal

pub returns-clause-clean : goal.returns-clause-clean
returns-clause-clean c = cleans_behind

pub returns-clause-done : goal.returns-clause-done
returns-clause-done c = stands_sized

pub returns-clause-cut : goal.returns-clause-cut
returns-clause-cut c = keeps_sized
