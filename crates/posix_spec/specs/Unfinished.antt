-- Calls that have begun and have not returned.
use Rattle.std.specs.Prelude.{◌≡◌, false, List, Some, All, AllPairs}
use Rattle.posix_types.specs.declared.item.Item.{Item}
use Rattle.posix_types.specs.Scripts.{Scripts}
use Rattle.posix_tables.specs.Open.{same_who}
use Rattle.posix_spec.specs.Run.{Unfinished}
use Rattle.posix_spec.specs.Scripted.{IsSetUp, next_call}

-- a call is the next of its caller's script after a history, and no thread's before the set-up is done
pub record IsNextCall (scripts : Scripts) (history : List Item) (c : Unfinished) : Type 0 where
  pub call : next_call scripts history c.0 ≡ Some c.1
  pub set_up : IsSetUp scripts history c.0

abbrev pub HaveTwoCallers : Unfinished → Unfinished → Type 0
HaveTwoCallers c d = same_who c.0 d.0 ≡ false

-- The unfinished calls of a history, in any order: at most one of each caller, each the next of its script. `Scheduled` gives
-- that of their beginning.
pub record AreUnfinished (scripts : Scripts) (history : List Item) (unfinished : List Unfinished) : Type 0 where
  pub next : All (IsNextCall scripts history) unfinished
  pub one_each : AllPairs HaveTwoCallers unfinished
