use Rattle.std.proofs.Common.{refl}
use Rattle.k_reading.proofs.ChainLists.{found-more, found-reads}
use Rattle.k_reading.proofs.maps.read_maps.Goals as goal

pub loop-inode-preserved : goal.loop-inode-preserved
loop-inode-preserved c =
    found-more _ _ _ _ _ _ _ _ _ _ _ c.loop-inode.invariant refl c.in_ok-found.ensures c.in_ok-push.ensures.items c.in_ok-push-2.ensures.items

pub returns-clause-reads : goal.returns-clause-reads
returns-clause-reads c = λ g v sized reads same.
    found-reads _ _ _ _ _ _ g v c.loop-inode.invariant c.loop-inode-test.false c.loop-inode.auto.inode-index-end sized reads same
