use Rattle.std.proofs.Common.{◌≡◌, ◌++◌, drop}
use Rattle.k_plans.specs.LandingsPlans.{blocks_of}
use Rattle.k_map_plans.proofs.map_plans.landing.blocks_with.Given as goal

abbrev pub invariant-loop-new : goal.invariant-loop-new
invariant-loop-new l = l.all.items ++ blocks_of (drop l.new-index l.news) ≡ l.first ++ blocks_of l.news
