use Rattle.in_place.proofs.Cleaned.{keeps_cleaned, stands_cleaned}
use Rattle.in_place.proofs.tails.cleans.the_end_of_a_file_is_cleaned_in_flight.Goals as goal

pub returns-clause-done : goal.returns-clause-done
returns-clause-done c = stands_cleaned

pub returns-clause-cut : goal.returns-clause-cut
returns-clause-cut c = keeps_cleaned
