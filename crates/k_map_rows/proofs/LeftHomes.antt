-- A call on maps leaves no word lent.
use Rattle.std.specs.Prelude.{Result, Ok, Err, OnOk}
use Rattle.k_map_tests.specs.pm_model.Cells.{AllHome}
use Rattle.k_map_tests.specs.k_split_model.View.{View}
use Rattle.k_map_tests.specs.declared.kinds.Reply.{Reply}
use Rattle.k_map_tests.specs.Calls.{IsLeft}
use Rattle.test_kit.specs.declared.faults.RowError.{RowError}

pub left-home : (k : View) (r : Result Reply RowError) → IsLeft k r → OnOk r (AllHome k.cells)
left-home k (Ok Reply.Done) left = left.home
left-home k (Ok (Reply.Room room)) left = left.home
left-home k (Ok Reply.Unfit) left = left.home
left-home k (Ok Reply.Lost) left = left
left-home k (Err fault) left = tt
