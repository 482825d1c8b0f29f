use Rattle.std.proofs.Common.{◌∷◌, ◌+◌, [], ap, arith, length, length-append, sym}
use Rattle.std.specs.Prelude.{is_none}
use Rattle.k_plans.specs.k_split_model.MapChangesChanges.{holes}
use Rattle.k_plans.specs.volume_change_laws.Holes.{holes-more, holes-same}
use Rattle.k_map_plans.proofs.map_plans.filling.hole_count.Goals as goal
use Rattle.k_map_plans.proofs.map_plans.filling.hole_count.Goals.{in-None, in-Some}

pub loop-place-preserved : goal.loop-place-preserved
loop-place-preserved c =
    let es = c.args.map.now in
    let first = c.args.first in
    let n = c.loop-place.place in
    elim c.match-lookup.branch [
      | in-None w ↦ record {
        most = omega arith;
        count = omega (
          arith,
          ap length (holes-more es first n (sym w.in-None.ensures.disk)),
          length-append (holes es first n) ((first + n) ∷ []),
        );
      }
      | in-Some w ↦ record {
        most = omega arith;
        count = omega (arith, ap length (holes-same es first n (ap is_none (sym w.in-Some.ensures.disk))));
      }
    ]
