use Rattle.log_replay.proofs.Devices.{device-answer, device-none}
use Rattle.log_replay.proofs.DropImages.{cut-of}
use Rattle.world_image_laws.specs.k_split_model.ChangesChanges.{dropped}
use Rattle.k_split.specs.declared.faults.KFault.{KFault}
use Rattle.k_split.specs.Names.{IsDropAnswer}
use Rattle.std.proofs.Common.{Err, None, ◌≡◌}
use Rattle.log_replay.proofs.settling.nameless.drop_if_nameless.Goals as goal

pub returns-in-Err-PowerLost-clause-lost : goal.returns-in-Err-PowerLost-clause-lost
returns-in-Err-PowerLost-clause-lost c =
    let cut : IsDropAnswer c.args.ino c.args.k.now c.drop_node.new.self (Err KFault.PowerLost) = rw c.in-Err-PowerLost.field-0-is at (c.in-Err-PowerLost.ensures.answer c.requires.rest.unbatched) in
    (c.is_nameless.ensures.0 c.if-not-is_nameless.false, cut-of c.args.ino c.args.k.now c.drop_node.new.self cut)

pub returns-then-not-is_nameless-clause-device : goal.returns-then-not-is_nameless-clause-device
returns-then-not-is_nameless-clause-device c = device-none c.args.k.now.cells

pub returns-in-Ok-clause-device : goal.returns-in-Ok-clause-device
returns-in-Ok-clause-device c =
    device-answer None (λ done w. w ≡ dropped c.args.ino c.args.k.now.volume) c.args.k.now c.drop_node.new.self c.drop_node.result (c.drop_node.ensures.answer c.requires.rest.unbatched)

pub returns-in-Err-PowerLost-clause-device : goal.returns-in-Err-PowerLost-clause-device
returns-in-Err-PowerLost-clause-device c =
    device-answer None (λ done w. w ≡ dropped c.args.ino c.args.k.now.volume) c.args.k.now c.drop_node.new.self c.drop_node.result (c.drop_node.ensures.answer c.requires.rest.unbatched)
