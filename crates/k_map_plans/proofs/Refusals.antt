-- A plan that is refused: the fault that is handed on.
use Rattle.std.proofs.Common.{◌≡◌, ◌∙◌, Result, Ok, Err, sym, ap}
use Rattle.k_map_plans.specs.declared.map_plans.faults.MapFault.{MapFault}

-- the fault of a result
abbrev fault_in : {T : Type 0} → Result T MapFault → MapFault
fault_in (Ok x) = MapFault.NoMemory
fault_in (Err fault) = fault

-- a fault that is handed on is the one of the call
pub handed-on : {T U : Type 0} (r : Result T MapFault) (q : Result U MapFault) (fault : MapFault)
    → ((e : MapFault) × (r ≡ Err e) × (e ≡ fault)) → q ≡ Err fault → r ≡ Err MapFault.Few → q ≡ Err MapFault.Few
handed-on r q fault p was few = was ∙ ap Err (sym p.2 ∙ (ap fault_in (sym p.1) ∙ ap fault_in few))
