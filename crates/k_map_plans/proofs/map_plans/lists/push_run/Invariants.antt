use Rattle.std.proofs.Common.{◌≡◌, ◌+◌, ℕ}
use Rattle.k_relink.specs.extent_model.Counts.{one_if}
use Rattle.k_relink.specs.extent_model.Extents.{is_between}
use Rattle.k_plans.specs.volume_laws.Uses.{in_chain}
use Rattle.k_map_plans.proofs.map_plans.lists.push_run.Given as goal

abbrev pub invariant-loop-block : goal.invariant-loop-block
invariant-loop-block l = (b : ℕ) → in_chain l.blocks.items b ≡ in_chain l.initial.blocks.items b + one_if (is_between l.first l.block b)
