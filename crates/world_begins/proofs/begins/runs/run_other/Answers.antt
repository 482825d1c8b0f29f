use Rattle.std.proofs.Common.{◌≡◌, true, refl, subst, sym}
use Rattle.pm_lines.specs.pm_model.Powers.{is_on, Supply}
use Rattle.call_laws.proofs.Running.{runs_in_some}
use Rattle.world_parts.specs.Seen.{seen}
use Rattle.world_begins.proofs.Calling.{call_answered, call_off}
use Rattle.world_begins.proofs.Turning.{may_add, one_act}
use Rattle.world_begins.proofs.begins.runs.run_other.Goals as goal

pub run_call-requires-clause-runs : goal.run_call-requires-clause-runs
run_call-requires-clause-runs c = runs_in_some c.args.p.now.k c.args.p.now.tables.tables c.args.p.now.staging c.args.p.now.files (seen c.args.p.now) c.args.who c.args.call c.requires.turn.calls

pub add-requires : goal.add-requires
add-requires c = may_add c.args.p.now c.args.who c.args.call c.requires.turn (record c.args.p.now { k = c.run_call.new.k; tables = c.run_call.new.tables; files = c.run_call.new.files }) refl

pub lose_call-requires : goal.lose_call-requires
lose_call-requires c = one_act c.args.p.now c.args.who c.args.call c.requires.turn

pub returns-in-Ok-Answered-clause-kept : goal.returns-in-Ok-Answered-clause-kept
returns-in-Ok-Answered-clause-kept c usable =
    let ended = rw c.in-Ok-Answered.field-0-is at c.in-Ok-Answered.ensures.ended in
    (call_answered c.args.p.now c.args.who c.args.call c.requires.turn (record c.args.p.now { k = c.run_call.new.k; tables = c.run_call.new.tables; files = c.run_call.new.files }) refl c.in-Ok-Answered.outcome c.requires.built ended.0 c.args.power.now c.run_call.new.power c.in-Ok-Answered.ensures.ends ended.2
    (c.requires.published _) ended.1 c.add.new.p c.add.ensures).0

pub returns-in-Ok-Answered-clause-begun : goal.returns-in-Ok-Answered-clause-begun
returns-in-Ok-Answered-clause-begun c =
    let ended = rw c.in-Ok-Answered.field-0-is at c.in-Ok-Answered.ensures.ended in
    (call_answered c.args.p.now c.args.who c.args.call c.requires.turn (record c.args.p.now { k = c.run_call.new.k; tables = c.run_call.new.tables; files = c.run_call.new.files }) refl c.in-Ok-Answered.outcome c.requires.built ended.0 c.args.power.now c.run_call.new.power c.in-Ok-Answered.ensures.ends ended.2
    (c.requires.published _) ended.1 c.add.new.p c.add.ensures).1

pub returns-in-Ok-PowerLost-clause-kept : goal.returns-in-Ok-PowerLost-clause-kept
returns-in-Ok-PowerLost-clause-kept c usable =
    let ended = rw c.in-Ok-PowerLost.field-0-is at c.in-Ok-PowerLost.ensures.ended in
    (call_off c.args.p.now c.args.who c.args.call c.requires.turn (record c.args.p.now { k = c.run_call.new.k; tables = c.run_call.new.tables; files = c.run_call.new.files }) refl ended.0 ended.1 c.lose_call.new.p c.lose_call.ensures c.run_call.new.power ended.2).0

pub returns-in-Ok-PowerLost-clause-begun : goal.returns-in-Ok-PowerLost-clause-begun
returns-in-Ok-PowerLost-clause-begun c =
    let ended = rw c.in-Ok-PowerLost.field-0-is at c.in-Ok-PowerLost.ensures.ended in
    (call_off c.args.p.now c.args.who c.args.call c.requires.turn (record c.args.p.now { k = c.run_call.new.k; tables = c.run_call.new.tables; files = c.run_call.new.files }) refl ended.0 ended.1 c.lose_call.new.p c.lose_call.ensures c.run_call.new.power ended.2).1

pub returns-in-Err-clause-begun : goal.returns-in-Err-clause-begun
returns-in-Err-clause-begun c =
    let ended = c.in-Err.ensures.ended in
    record { awake = c.requires.turn.calls.begins.awake; on = subst (λ (s : Supply). is_on s ≡ true) (sym ended.3) c.requires.on; new_is = refl }
