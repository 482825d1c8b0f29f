use Rattle.std.proofs.Common.{◌≤◌, length}
use Rattle.k_map_tests.specs.pm_model.Cells.{AllHome}
use Rattle.k_layer_tests.proofs.layers.fences.Given as goal

abbrev pub invariant-loop : goal.invariant-loop
invariant-loop l = record {
  size : 512 ≤ length l.pm;
  home : AllHome l.pm;
}
