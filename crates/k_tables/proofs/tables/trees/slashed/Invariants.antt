use Rattle.std.proofs.Common.{◌≡◌, ◌++◌, ◌∷◌, drop}
use Rattle.std.specs.Prelude.{flat_map}
use Rattle.k_tables.proofs.tables.trees.slashed.Given as goal

abbrev pub invariant-loop-name : goal.invariant-loop-name
invariant-loop-name l =
    l.text.items ++ flat_map (λ name. 47 ∷ name) (drop l.name-index l.names) ≡ flat_map (λ name. 47 ∷ name) l.names
