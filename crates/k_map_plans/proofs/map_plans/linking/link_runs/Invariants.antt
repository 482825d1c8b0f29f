use Rattle.k_map_plans.specs.Linking.{KeepsLeft}
use Rattle.k_map_plans.proofs.Links.{AreToGo}
use Rattle.k_map_plans.proofs.map_plans.linking.link_runs.Given as goal

abbrev pub invariant-loop-run : goal.invariant-loop-run
invariant-loop-run l =
    record {
      keeps : KeepsLeft l.tables.volume l.asked.ino l.asked.runs l.lefts.items l.linked l.displaced.items;
      to_go : AreToGo l.tables.volume l.asked.ino l.asked.runs l.run-index l.lefts.items l.linked l.displaced.items;
    }
