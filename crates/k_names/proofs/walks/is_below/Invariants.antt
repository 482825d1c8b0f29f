use Rattle.k_names.proofs.Climbs.{Climbs}
use Rattle.k_names.proofs.walks.is_below.Given as goal

abbrev pub invariant-loop-step : goal.invariant-loop-step
invariant-loop-step l = Climbs l.rows l.ino l.ancestor l._step l.at
