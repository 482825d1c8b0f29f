-- The fault of a change that was not planned.
use Rattle.k_map_plans.specs.k_plans.declared.plans.faults.PlanFault.{PlanFault}
use Rattle.k_split.specs.declared.faults.KFault.{KFault}

abbrev pub fault_of : PlanFault → KFault
fault_of (PlanFault.Refused errno) = KFault.Refused errno
fault_of (PlanFault.Room room) = KFault.Room room
fault_of PlanFault.NoMemory = KFault.NoMemory
