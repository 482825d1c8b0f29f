use Rattle.std.proofs.Common.{Err, subst}
use Rattle.command_line.specs.pm_model.Images.{words_of}
use Rattle.split_machine.specs.Mounts.{IsMountAnswer}
use Rattle.split_top.proofs.Beginnings.{begins-on}
use Rattle.split_top.proofs.Opened.{still-on, unbroken}
use Rattle.split_top.proofs.runs.world_on.Goals as goal

pub mount-requires-clause-limits : goal.mount-requires-clause-limits
mount-requires-clause-limits c = c.requires.limits

pub returns-in-Ok : goal.returns-in-Ok
returns-in-Ok c = begins-on c.args.opened.geometry c.args.opened.pm c.requires.mounts c.args.scripts c.in-Ok.world c.args.mode c.requires.mode c.requires.limits c.in-Ok.ensures.answer.1

pub unreachable-requires : goal.unreachable-requires
unreachable-requires c =
    let pm = c.args.opened.pm in
    let answer = subst (λ fault. IsMountAnswer pm c.always-power.result c.mount.new.power (Err fault)) c.in-Err-Bad.field-0-is c.in-Err-Bad.ensures.answer in
    unbroken pm c.requires.mounts.checked c.in-Err-Bad.field-0-0.rule c.in-Err-Bad.field-0-0.place answer.0

pub unreachable-requires-in-Err-PowerLost : goal.unreachable-requires-in-Err-PowerLost
unreachable-requires-in-Err-PowerLost c =
    let pm = c.args.opened.pm in
    let answer = subst (λ fault. IsMountAnswer pm c.always-power.result c.mount.new.power (Err fault)) c.in-Err-PowerLost.field-0-is c.in-Err-PowerLost.ensures.answer in
    still-on c.always-power.result c.mount.new.power c.always-power.ensures c.in-Err-PowerLost.ensures.spent.given answer.1
