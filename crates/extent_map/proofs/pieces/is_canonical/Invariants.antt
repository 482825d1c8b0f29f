use Rattle.std.proofs.Common.{take}
use Rattle.extent_model.specs.Extents.{IsCanonical}
use Rattle.extent_map.proofs.pieces.is_canonical.Given as goal

-- the extents so far are the one spelling of a map
abbrev pub invariant-loop-i : goal.invariant-loop-i
invariant-loop-i l = IsCanonical (take l.i l.extents)
