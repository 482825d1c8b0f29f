use Rattle.k_map_tests.specs.Calls.{IsFresh}
use Rattle.k_layer_tests.proofs.draws.make_next.Given as goal

abbrev pub invariant-loop : goal.invariant-loop
invariant-loop l = IsFresh l.k
