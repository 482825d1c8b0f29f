use Rattle.std.proofs.Common.{◌≡◌, ◌<◌, ◌≤◌, [], ℕ, List, length, ◌+◌}
use Rattle.k_plans.specs.image_model.Volume.{Volume}
use Rattle.k_plans.specs.LandingsPlans.{NewChain, Turns}
use Rattle.k_plans.specs.Free.{AreAsideOnce, AreKeptBack, is_free_block}
use Rattle.k_plans.specs.Whole.{IsWhole}
use Rattle.k_map_plans.specs.Steps.{ComeFrom, MayStepAll, after_steps}
use Rattle.k_map_plans.proofs.map_plans.steps.switch_all.Given as goal

abbrev pub invariant-loop-steps : goal.invariant-loop-steps
invariant-loop-steps l =
    record {
      once : AreAsideOnce l.tables;
      may : MayStepAll l.tables.volume l.tables.aside l.steps.items;
      after : after_steps l.steps.items l.tables.volume ≡ after_steps l.initial.steps.items l.initial.tables.volume;
      geometry : l.tables.volume.geometry ≡ l.initial.tables.volume.geometry;
      waiting : l.tables.waiting ≡ l.initial.tables.waiting;
      free : (b : ℕ) → is_free_block l.tables b ≡ is_free_block l.initial.tables b;
      turns : (news : List NewChain) (v : Volume) → ComeFrom news l.initial.steps.items
          → Turns l.initial.tables.volume.geometry news v l.initial.tables.volume []
          → ComeFrom news l.steps.items × Turns l.initial.tables.volume.geometry news v l.tables.volume l.batch;
      lines : length l.batch + length l.steps.items ≤ length l.initial.steps.items;
      some : length l.steps.items < length l.initial.steps.items → 0 < length l.batch;
      whole : length l.steps.items < length l.initial.steps.items → IsWhole l.tables.volume;
      back : length l.steps.items < length l.initial.steps.items → AreKeptBack l.tables;
    }

abbrev pub decreases-loop-steps : goal.decreases-loop-steps
decreases-loop-steps l = length l.steps.items
