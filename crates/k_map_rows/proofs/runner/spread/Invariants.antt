use Rattle.k_map_tests.specs.Calls.{IsFresh}
use Rattle.k_map_rows.proofs.runner.spread.Given as goal

abbrev pub invariant-loop-place : goal.invariant-loop-place
invariant-loop-place l = IsFresh l.k
