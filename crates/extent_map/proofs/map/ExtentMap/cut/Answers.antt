use Rattle.std.proofs.Common.{rules}
use Rattle.extent_map.proofs.Whole.{cut_sum, cut_part}
use Rattle.extent_map.proofs.map.ExtentMap.cut.Goals as goal

pub returns-clause-displaced : goal.returns-clause-displaced
returns-clause-displaced c =
    rw (← c.self.view_is, ← c.deref.ensures.value) (cut_part c.args.from _ _ (rw c.deref.ensures.value c.self.invariant) c.in_ok-displaced.ensures.part)

pub returns-clause-count : goal.returns-clause-count
returns-clause-count c =
    let sum = cut_sum c.args.from c.self.inside.extents.items c.self.invariant.each in
    rw (c.in_ok-self-inside.ensures.count, c.in_ok-displaced.ensures.count, c.deref.ensures.value, c.deref-2.ensures.value, ← c.self.view_is) sum

pub returns-clause-map : goal.returns-clause-map
returns-clause-map c = search rules
