use Rattle.std.proofs.Common.{◌+◌, arith}
use Rattle.extent_model.specs.Covers.{covers-Replaces}
use Rattle.extent_map.proofs.Whole.{shared_sum}
use Rattle.extent_map.proofs.map.ExtentMap.replace_range.Goals as goal

pub returns-clause-count : goal.returns-clause-count
returns-clause-count c =
    let run = c.args.run in
    let sum = shared_sum run.file (run.file + run.count) c.self.inside.extents.items (omega arith) c.requires.in_file c.self.invariant.each in
    rw (c.in_ok-self-inside.ensures.count, c.in_ok-displaced.ensures.count, c.deref.ensures.value, c.deref-2.ensures.value, ← c.self.view_is) (omega (arith, sum))

pub returns-clause-disk : goal.returns-clause-disk
returns-clause-disk c = rw (← c.self.view_is, ← c.deref-2.ensures.value) (covers-Replaces c.args.run _ _ c.in_ok-self-inside.ensures.map)
