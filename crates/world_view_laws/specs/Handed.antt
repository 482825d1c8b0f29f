-- The loans of all jobs that a crash is given, and loans of which no two are of one block.
use Rattle.std.specs.Prelude.{◌≢◌, List, [], ◌∷◌, ◌++◌}
use Rattle.file_calls.specs.eof_laws.pm_model.Parts.{Part}
use Rattle.file_calls.specs.eof_laws.list_laws.Members.{In}
use Rattle.in_flight.specs.write_jobs.Jobs.{FilledView, JobView}

abbrev pub loans_out : List JobView → List Part
loans_out [] = []
loans_out (job ∷ jobs) = job.loans ++ loans_out jobs

abbrev pub loans_filled : List FilledView → List Part
loans_filled [] = []
loans_filled (job ∷ jobs) = job.loans ++ loans_filled jobs

abbrev pub handed : List JobView → List FilledView → List Part
handed out filled = loans_out out ++ loans_filled filled

-- no loan of the one list has the place of one of the other
abbrev pub HaveOtherPlaces : List Part → List Part → Type 0
HaveOtherPlaces loans others = (loan other : Part) → In loan loans → In other others → loan.place ≢ other.place

-- no two of them have one place
abbrev pub AreOneEach : List Part → Type 0
AreOneEach [] = Unit {0}
AreOneEach (loan ∷ loans) = ((other : Part) → In other loans → loan.place ≢ other.place) × AreOneEach loans
