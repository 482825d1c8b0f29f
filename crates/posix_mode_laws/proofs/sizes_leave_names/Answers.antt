use Rattle.posix_mode_laws.specs.ClaimsLaws.{sized_again, sized_kinds, space_sized}
use Rattle.posix_mode_laws.proofs.sizes_leave_names.Goals as goal

pub returns-clause-again : goal.returns-clause-again
returns-clause-again c = sized_again

pub returns-clause-kinds : goal.returns-clause-kinds
returns-clause-kinds c = sized_kinds

pub returns-clause-space : goal.returns-clause-space
returns-clause-space c = space_sized
