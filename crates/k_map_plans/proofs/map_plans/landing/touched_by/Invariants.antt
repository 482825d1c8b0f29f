use Rattle.std.proofs.Common.{◌≡◌, ◌+◌, map}
use Rattle.std.specs.Prelude.{◌==◌, filter}
use Rattle.std.specs.List.{list_any, range_with_len}
use Rattle.k_plans.specs.k_split_model.declared.map_changes.moves.MoveRun.{MoveRun}
use Rattle.k_map_plans.proofs.map_plans.landing.touched_by.Given as goal

abbrev pub invariant-loop-place : goal.invariant-loop-place
invariant-loop-place l =
    l.found.items ≡ filter (λ x. list_any (λ (r : MoveRun). r.staging == x) l.runs) (map (λ k. k + 1) (range_with_len 0 l.place))
