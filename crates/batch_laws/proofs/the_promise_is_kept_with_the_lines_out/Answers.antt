use Rattle.batch_laws.specs.BacksLaws.{loss_keeps_back, posix_keeps_back, ready_keeps_back}
use Rattle.batch_laws.proofs.the_promise_is_kept_with_the_lines_out.Goals as goal

pub returns : goal.returns
returns c = record { between = ready_keeps_back; together = posix_keeps_back; lost = loss_keeps_back }
