use Rattle.std.proofs.Common.{◌≡◌, ◌+◌, ℕ, take}
use Rattle.k_plans.specs.volume_laws.Uses.{in_chain, in_map}
use Rattle.k_map_plans.proofs.map_plans.lists.push_extents.Given as goal

abbrev pub invariant-loop-extent : goal.invariant-loop-extent
invariant-loop-extent l =
    (b : ℕ) → in_chain l.blocks.items b ≡ in_chain l.initial.blocks.items b + in_map (take l.extent-index l.extents) b
