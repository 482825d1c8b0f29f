use Rattle.std.proofs.Common.{◌^◌, subst, sym}
use Rattle.log_replay.specs.Quiet.{IsSweepPaid, OnDone}
use Rattle.log_replay.specs.Sweeps.{AreUnstaged}
use Rattle.log_replay.proofs.Giving.{unstaged-device, unstaged-done, unstaged-images, unstaged-paid}
use Rattle.log_replay.proofs.Spending.{spent-steps}
use Rattle.log_replay.proofs.mounting.unstaging.unstage.Goals as goal

pub give_up_all-requires-clause-single : goal.give_up_all-requires-clause-single
give_up_all-requires-clause-single c on x is i has = c.requires.rest.single i

pub returns-clause-spent : goal.returns-clause-spent
returns-clause-spent c = spent-steps (2 ^ 17) c.args.power.now c.give_up_all.new.power c.give_up_all.ensures.steps

pub returns-clause-paid : goal.returns-clause-paid
returns-clause-paid c = subst (IsSweepPaid c.give_up_all.new.power) (sym c.left.ensures) (unstaged-paid c.give_up_all.new.power c.give_up_all.result c.give_up_all.ensures.paid)

pub returns-clause-done : goal.returns-clause-done
returns-clause-done c =
    subst (λ r. OnDone r (AreUnstaged c.args.k.now c.give_up_all.new.k)) (sym c.left.ensures)
    (unstaged-done c.new.result c.give_up_all.new.self c.args.k.now c.give_up_all.new.k c.give_up_all.result c.requires c.give_up_all.ensures.answer)

pub returns-clause-images : goal.returns-clause-images
returns-clause-images c =
    unstaged-images c.new.result c.give_up_all.new.self c.args.k.now c.give_up_all.new.k c.give_up_all.result c.requires c.give_up_all.ensures.answer

pub returns-clause-device : goal.returns-clause-device
returns-clause-device c = unstaged-device c.new.result c.give_up_all.new.self c.args.k.now c.give_up_all.new.k c.give_up_all.result c.give_up_all.ensures.answer

pub give_up_all-requires-clause-unbatched : goal.give_up_all-requires-clause-unbatched
give_up_all-requires-clause-unbatched c on = c.requires.rest.unbatched
