use Rattle.std.proofs.Common.{◌≡◌, ℕ, None, cond}
use Rattle.std.specs.Ordering.{nat_cmp}
use Rattle.std.specs.BTreeMap.{get}
use Rattle.extent_map.specs.extent_model.Extents.{is_within}
use Rattle.map_collection.proofs.collection.Collection.forget.Given as goal

-- the regions so far are gone
abbrev pub invariant-loop-i : goal.invariant-loop-i
invariant-loop-i l = (q : ℕ) → get nat_cmp l.self-inside.regions q ≡ cond (is_within l.first l.i q) None (get nat_cmp l.initial.self-inside.regions q)
