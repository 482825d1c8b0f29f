use Rattle.outside.proofs.KnownBytesMore.{Appends-front, Appends-kept, front-within}
use Rattle.outside.proofs.disk.write_whole.Goals as goal
use Rattle.outside.proofs.disk.write_whole.Goals.{in-Ok, in-Err+else-ne}

pub loop-preserved : goal.loop-preserved
loop-preserved g c =
    elim c.match-write.branch [
      | in-Ok w ↦ rw w.written-is (front-within _ _ _ c.loop.invariant.0 w.in-Ok.ensures.bound, Appends-front _ _ _ _ _ _ c.loop.invariant.1 w.in-Ok.ensures.bytes)
      | in-Err+else-ne w ↦ rw w.written-is (c.loop.invariant.0, Appends-kept _ _ _ _ c.loop.invariant.1 w.in-Err.ensures.bytes)
    ]
