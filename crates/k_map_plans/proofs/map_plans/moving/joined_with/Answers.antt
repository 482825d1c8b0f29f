use Rattle.std.proofs.Common.{◌∙◌, ◌+◌, ◌++◌, ℕ, List, ap}
use Rattle.k_plans.specs.volume_laws.Uses.{in_chain, in_map}
use Rattle.k_map_plans.proofs.map_plans.moving.joined_with.Goals as goal

pub returns : goal.returns
returns c b =
    c.in_ok-push_extents.ensures b
    ∙ ap (λ (bs : List ℕ). in_chain bs b + in_map c.args.displaced.now b)
    (c.in_ok-extend_from_slice.ensures.items ∙ ap (λ (bs : List ℕ). bs ++ c.args.second.now) c.in_ok-all.ensures.items)
