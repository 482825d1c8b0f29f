use Rattle.posix_types.specs.declared.call.Who.{Who}
use Rattle.split_threads.proofs.closes.has_calls_left.Goals as goal

pub returns-then-not-is_at_end-2-clause-some : goal.returns-then-not-is_at_end-2-clause-some
returns-then-not-is_at_end-2-clause-some c left = (Who.Thread c.loop-number.number, c.is_at_end-in-loop-number.ensures.no c.if-not-is_at_end-2.true)
