use Rattle.std.proofs.Common.{refl}
use Rattle.posix_types.specs.declared.call.Call.{Call}
use Rattle.call_laws.proofs.Running.{runs_in_some}
use Rattle.call_laws.proofs.Staying.{going_now}
use Rattle.world_parts.specs.Seen.{seen}
use Rattle.world_begins.proofs.Calling.{truncate_answered, truncate_fits, truncate_off}
use Rattle.world_begins.proofs.Turning.{may_add, one_act}
use Rattle.world_begins.proofs.begins.runs.run_truncate.Goals as goal

pub truncate_file-requires-clause-runs : goal.truncate_file-requires-clause-runs
truncate_file-requires-clause-runs c = runs_in_some c.args.p.now.k c.args.p.now.tables.tables c.args.p.now.staging c.args.p.now.files (seen c.args.p.now) c.args.who (Call.Truncate c.args.handle c.args.size) c.requires.turn.calls

pub truncate_file-requires-clause-ends : goal.truncate_file-requires-clause-ends
truncate_file-requires-clause-ends c = (going_now c.args.p.now.k c.args.p.now.tables.tables c.args.p.now.staging c.args.p.now.files (seen c.args.p.now) c.args.who (Call.Truncate c.args.handle c.args.size) c.requires.turn.calls).ends

pub add-requires : goal.add-requires
add-requires c = may_add c.args.p.now c.args.who (Call.Truncate c.args.handle c.args.size) c.requires.turn (record c.args.p.now { k = c.truncate_file.new.k; files = c.truncate_file.new.files }) refl

pub unreachable-requires : goal.unreachable-requires
unreachable-requires c =
    let ended = rw c.in-Ok-RoundOver.field-0-is at c.in-Ok-RoundOver.ensures.ended in
    truncate_fits c.args.p.now c.args.who c.args.handle c.args.size c.requires.turn c.jobs_need_what_their_calls_do.ensures c.needs_now-needs.result c.needs_now-needs.ensures c.truncate_file.new.k c.truncate_file.new.files c.requires.enough _ _ ended.0

pub lose_call-requires : goal.lose_call-requires
lose_call-requires c = one_act c.args.p.now c.args.who (Call.Truncate c.args.handle c.args.size) c.requires.turn

pub returns-in-Ok-Answered-clause-kept : goal.returns-in-Ok-Answered-clause-kept
returns-in-Ok-Answered-clause-kept c usable =
    let ended = rw c.in-Ok-Answered.field-0-is at c.in-Ok-Answered.ensures.ended in
    (truncate_answered c.args.p.now c.args.who c.args.handle c.args.size c.requires.turn c.jobs_need_what_their_calls_do.ensures c.needs_now-needs.result c.needs_now-needs.ensures c.truncate_file.new.k c.truncate_file.new.files c.in-Ok-Answered.outcome ended.0 c.args.power.now c.truncate_file.new.power c.in-Ok-Answered.ensures.ends ended.1 ended.2 c.add.new.p c.add.ensures).0

pub returns-in-Ok-Answered-clause-begun : goal.returns-in-Ok-Answered-clause-begun
returns-in-Ok-Answered-clause-begun c =
    let ended = rw c.in-Ok-Answered.field-0-is at c.in-Ok-Answered.ensures.ended in
    (truncate_answered c.args.p.now c.args.who c.args.handle c.args.size c.requires.turn c.jobs_need_what_their_calls_do.ensures c.needs_now-needs.result c.needs_now-needs.ensures c.truncate_file.new.k c.truncate_file.new.files c.in-Ok-Answered.outcome ended.0 c.args.power.now c.truncate_file.new.power c.in-Ok-Answered.ensures.ends ended.1 ended.2 c.add.new.p c.add.ensures).1

pub returns-in-Ok-PowerLost-clause-kept : goal.returns-in-Ok-PowerLost-clause-kept
returns-in-Ok-PowerLost-clause-kept c usable =
    let ended = rw c.in-Ok-PowerLost.field-0-is at c.in-Ok-PowerLost.ensures.ended in
    (truncate_off c.args.p.now c.args.who c.args.handle c.args.size c.requires.turn c.jobs_need_what_their_calls_do.ensures c.needs_now-needs.result c.needs_now-needs.ensures c.truncate_file.new.k c.truncate_file.new.files ended.1 ended.0 c.lose_call.new.p c.lose_call.ensures c.truncate_file.new.power ended.2).0

pub returns-in-Ok-PowerLost-clause-begun : goal.returns-in-Ok-PowerLost-clause-begun
returns-in-Ok-PowerLost-clause-begun c =
    let ended = rw c.in-Ok-PowerLost.field-0-is at c.in-Ok-PowerLost.ensures.ended in
    (truncate_off c.args.p.now c.args.who c.args.handle c.args.size c.requires.turn c.jobs_need_what_their_calls_do.ensures c.needs_now-needs.result c.needs_now-needs.ensures c.truncate_file.new.k c.truncate_file.new.files ended.1 ended.0 c.lose_call.new.p c.lose_call.ensures c.truncate_file.new.power ended.2).1

pub returns-in-Err-clause-begun : goal.returns-in-Err-clause-begun
returns-in-Err-clause-begun c = record { awake = c.requires.turn.calls.begins.awake; on = c.in-Err.ensures.ended.2; new_is = refl }
