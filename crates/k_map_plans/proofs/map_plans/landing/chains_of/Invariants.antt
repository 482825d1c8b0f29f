use Rattle.std.proofs.Common.{◌≡◌, ◌++◌, drop}
use Rattle.std.specs.List.{flat_map}
use Rattle.k_plans.specs.image_model.Volume.{chain}
use Rattle.k_map_plans.proofs.map_plans.landing.chains_of.Given as goal

abbrev pub invariant-loop-staging : goal.invariant-loop-staging
invariant-loop-staging l =
    l.all.items ++ flat_map (chain l.tables.volume) (drop l.staging-index l.touched) ≡ flat_map (chain l.tables.volume) l.touched
