use Rattle.posix_mode_laws.specs.ClaimsLaws.{keeps_claims}
use Rattle.posix_mode_laws.proofs.claims_are_told_otherwise.Goals as goal

pub returns : goal.returns
returns c = keeps_claims
