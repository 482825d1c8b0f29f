use Rattle.split_threads.proofs.Showing.{HasLookedOn}
use Rattle.split_threads.proofs.set_up.wait_for_set_up.Given as goal

-- the pass only looked
abbrev pub invariant-loop : goal.invariant-loop
invariant-loop g l = HasLookedOn l.turn l.initial.pass l.pass
