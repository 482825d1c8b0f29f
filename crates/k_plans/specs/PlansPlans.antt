-- What a change of the tables leaves: a plan of lines for the change, or nothing.
use Rattle.std.specs.Prelude.{◌≡◌, ◌<◌, ◌≤◌, ℕ, List, [], length, Option, None, Some}
use Rattle.k_tables.specs.image_model.Volume.{Volume, extents}
use Rattle.k_journal.specs.declared.batches.Record.{Record}
use Rattle.k_plans.specs.LandingsPlans.{Turns}
use Rattle.posix_types.specs.declared.item.Outcome.{Outcome}
use Rattle.posix_types.specs.declared.reply.Errno.{Errno}
use Rattle.posix_types.specs.declared.reply.Reply.{Reply}
use Rattle.k_tables.specs.posix_tables.Outcomes.{answer}
use Rattle.k_plans.specs.Free.{SetsFreedAside}
use Rattle.k_plans.specs.View.{TablesView}
use Rattle.k_plans.specs.Whole.{IsWhole}
use Rattle.k_plans.specs.declared.plans.faults.PlanFault.{PlanFault}

-- the maps of the staging files, inodes 1 to 4, are as before
abbrev pub KeepsStaged : Volume → Volume → Type 0
KeepsStaged v w = (ino : ℕ) → 1 ≤ ino → ino ≤ 4 → extents w ino ≡ extents v ino

-- The batch is a plan for the change: its lines, one to four, turn the old volume into the new one, which is whole again.
-- The blocks that came free in the change are set aside, no other ones wait than before, and staging files have the same maps.
pub record IsPlan (old new : TablesView) (b : List Record) : Type 0 where
  pub turns : Turns old.volume.geometry [] old.volume new.volume b
  pub some : 0 < length b
  pub most : length b ≤ 4
  pub aside : SetsFreedAside old new
  pub waiting : new.waiting ≡ old.waiting
  pub staged : KeepsStaged old.volume new.volume
  pub whole : IsWhole new.volume

-- The fault is the outcome that the rows of a call give. Memory is asked for where no row fits, so that a refusal comes
-- exactly where the rows say.
abbrev pub IsFaultOf : PlanFault → Option Outcome → Type 0
IsFaultOf (PlanFault.Refused errno) o = o ≡ Some (answer (Reply.Error errno))
IsFaultOf (PlanFault.Room room) o = o ≡ Some (record { reply = Reply.Error Errno.ENOSPC; room = Some room })
IsFaultOf PlanFault.NoMemory o = o ≡ None

-- A change that is not made: the tables are as before, and nothing is planned.
pub record IsNotMade (fault : PlanFault) (o : Option Outcome) (old new : TablesView) (b : List Record) : Type 0 where
  pub fault_is : IsFaultOf fault o
  pub same : new ≡ old
  pub no_lines : b ≡ []
