use Rattle.std.proofs.Common.{ℕ, ◌+◌, take}
use Rattle.check_image.specs.Marks.{AreMarks, map_uses}
use Rattle.check_image.proofs.blocks.mark_maps.Given as goal

-- what is counted so far
abbrev pub invariant-loop-map : goal.invariant-loop-map
invariant-loop-map l = (x : ℕ → ℕ) → AreMarks l.initial.marks x → AreMarks l.marks (λ i. x i + map_uses (take l.map-index l.maps) (l.first + i))
