use Rattle.split_machine.proofs.Parted.{one_parted}
use Rattle.split_machine.proofs.outstanding.parted.Goals as goal

pub loop-held-preserved : goal.loop-held-preserved
loop-held-preserved c =
    one_parted c.loop-held.yielded c.loop-held.began.items c.part.new.began.items c.loop-held.filled.items c.part.new.filled.items c.in-Some.held c.loop-held.invariant
    c.in_ok-part.ensures.began c.in_ok-part.ensures.filled
