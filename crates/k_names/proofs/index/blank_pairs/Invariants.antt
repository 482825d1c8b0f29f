use Rattle.k_names.specs.Indexes.{AreBlank}
use Rattle.k_names.proofs.index.blank_pairs.Given as goal

abbrev pub invariant-loop-line : goal.invariant-loop-line
invariant-loop-line l = AreBlank l.pairs.items l.line
