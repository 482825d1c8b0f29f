use Rattle.std.specs.Prelude.{take}
use Rattle.schedule.specs.Picking.{IsLowestFrom}
use Rattle.schedule.proofs.picks.lowest_from.Given as goal

-- the lowest so far
abbrev pub invariant-loop-n : goal.invariant-loop-n
invariant-loop-n l = IsLowestFrom (take l.n-index l.numbers) l.from l.found
