use Rattle.k_map_rows.specs.Calm.{IsCalm}
use Rattle.k_map_rows.proofs.runs.answer_all.Given as goal

abbrev pub invariant-loop-line : goal.invariant-loop-line
invariant-loop-line l = IsCalm l.staging l.k
