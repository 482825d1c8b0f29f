use Rattle.std.proofs.Common.{take}
use Rattle.extent_map.specs.Pieces.{AppendsBetween}
use Rattle.extent_map.proofs.pieces.append_between.Given as goal

-- the parts of the extents so far are taken
abbrev pub invariant-loop-extent : goal.invariant-loop-extent
invariant-loop-extent l = AppendsBetween l.from l.to (take l.extent-index l.source) l.initial.extents.items l.extents.items
