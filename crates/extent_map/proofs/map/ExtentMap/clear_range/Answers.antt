use Rattle.std.proofs.Common.{◌+◌, arith}
use Rattle.extent_map.proofs.Whole.{shared_sum}
use Rattle.extent_map.proofs.map.ExtentMap.clear_range.Goals as goal

pub returns-clause-count : goal.returns-clause-count
returns-clause-count c =
    let sum = shared_sum c.args.file (c.args.file + c.args.count) c.self.inside.extents.items (omega arith) c.requires.in_file c.self.invariant.each in
    rw (c.in_ok-self-inside.ensures.count, c.in_ok-displaced.ensures.count, c.deref.ensures.value, c.deref-2.ensures.value, ← c.self.view_is) (omega (arith, sum))
