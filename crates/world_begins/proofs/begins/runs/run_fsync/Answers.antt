use Rattle.std.proofs.Common.{◌≡◌, ◌∙◌, true, false, refl, sym}
use Rattle.posix_types.specs.declared.call.Call.{Call}
use Rattle.world_begins.proofs.Calling.{call_answered}
use Rattle.world_begins.proofs.Turning.{may_add}
use Rattle.world_begins.proofs.begins.runs.run_fsync.Goals as goal

pub unreachable-requires : goal.unreachable-requires
unreachable-requires c =
    let ended = c.in-PowerLost.ensures c.args.p.now.k c.args.p.now.files c.args.power.now c.requires.on in
    let never : true ≡ false = sym c.requires.on ∙ ended.2 in
    cc

pub add-requires : goal.add-requires
add-requires c = may_add c.args.p.now c.args.who (Call.Fsync c.args.handle) c.requires.turn c.args.p.now refl

pub returns-clause-kept : goal.returns-clause-kept
returns-clause-kept c =
    let ended = c.in-Answered.ensures c.args.p.now.k c.args.p.now.files c.args.power.now c.requires.on in
    (call_answered c.args.p.now c.args.who (Call.Fsync c.args.handle) c.requires.turn c.args.p.now refl c.in-Answered.outcome tt ended.0 c.args.power.now c.args.power.now (λ on. (refl, λ ends. ends)) ended.2 c.requires.published ended.1 c.add.new.p c.add.ensures).0

pub returns-clause-begun : goal.returns-clause-begun
returns-clause-begun c =
    let ended = c.in-Answered.ensures c.args.p.now.k c.args.p.now.files c.args.power.now c.requires.on in
    (call_answered c.args.p.now c.args.who (Call.Fsync c.args.handle) c.requires.turn c.args.p.now refl c.in-Answered.outcome tt ended.0 c.args.power.now c.args.power.now (λ on. (refl, λ ends. ends)) ended.2 c.requires.published ended.1 c.add.new.p c.add.ensures).1
