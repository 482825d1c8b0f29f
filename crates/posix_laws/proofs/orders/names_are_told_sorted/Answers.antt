use Rattle.posix_laws.specs.Listed.{names-sorted}
use Rattle.posix_laws.proofs.orders.names_are_told_sorted.Goals as goal

pub returns : goal.returns
returns c = names-sorted
