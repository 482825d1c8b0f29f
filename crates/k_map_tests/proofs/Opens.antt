-- A device that is opened.
use Rattle.std.proofs.Common.{false, List, subst, sym}
use Rattle.k_check.specs.pm_model.declared.Cell.{Cell}
use Rattle.k_check.specs.pm_model.CellLaws.{single-home}
use Rattle.k_check.specs.pm_model.Cells.{AllHome, AllSingle, cell}
use Rattle.k_check.specs.image_model.Volume.{Volume}
use Rattle.k_split.specs.k_split_model.View.{View}
use Rattle.k_split.specs.Order.{IsOpened}
use Rattle.k_map_tests.specs.Calls.{IsFresh}

pub opened-fresh : (d : List Cell) (v : Volume) (k : View) → AllSingle d → IsOpened d v false k → IsFresh k
opened-fresh d v k single opened = record {
  on = opened.on;
  unbatched = opened.batched_is;
  order = opened.order;
  single = subst AllSingle (sym opened.cells_are) single;
  home = subst AllHome (sym opened.cells_are) (λ i. single-home (cell d i) (single i));
}
