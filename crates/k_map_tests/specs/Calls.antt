-- A K-Split on which a call may be made, and what a call leaves of one.
use Rattle.std.specs.Prelude.{◌≡◌, false, Result, Ok, Err}
use Rattle.k_check.specs.pm_model.Cells.{AllHome, AllSingle}
use Rattle.k_split.specs.k_split_model.View.{View}
use Rattle.k_split.specs.Order.{IsInOrder}
use Rattle.k_split.specs.declared.faults.KFault.{KFault}
use Rattle.k_map_tests.specs.declared.kinds.Reply.{Reply}
use Rattle.test_kit.specs.declared.faults.RowError.{RowError}

-- It has its power and is in order, and each word of its device has one candidate: so it is once it is opened.
pub record IsFresh (k : View) : Type 0 where
  pub on : k.lost ≡ false
  pub unbatched : k.batched ≡ false
  pub order : IsInOrder k
  pub single : AllSingle k.cells
  pub home : AllHome k.cells

-- what a call leaves of a fresh one, by its reply: after an error nothing more is done
abbrev pub IsLeft : View → Result Reply RowError → Type 0
IsLeft k (Ok Reply.Done) = IsFresh k
IsLeft k (Ok (Reply.Room room)) = IsFresh k
IsLeft k (Ok Reply.Unfit) = IsFresh k
IsLeft k (Ok Reply.Lost) = AllHome k.cells
IsLeft k (Err fault) = Unit {0}

-- likewise by the answer of K-Split
abbrev pub IsLeftBy : View → Result (Unit {0}) KFault → Type 0
IsLeftBy k (Ok done) = IsFresh k
IsLeftBy k (Err (KFault.Room room)) = IsFresh k
IsLeftBy k (Err KFault.PowerLost) = AllHome k.cells
IsLeftBy k (Err (KFault.Refused errno)) = Unit {0}
IsLeftBy k (Err KFault.NoMemory) = Unit {0}
