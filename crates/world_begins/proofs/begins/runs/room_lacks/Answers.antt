use Rattle.std.proofs.Common.{sym, subst}
use Rattle.posix_types.specs.declared.call.Call.{Call}
use Rattle.world_begins.specs.Runs.{IsRoomAsked}
use Rattle.call_laws.proofs.Running.{runs_in_some}
use Rattle.world_begins.specs.Turns.{IsTurn}
use Rattle.world_parts.specs.Seen.{seen}
use Rattle.world_begins.proofs.Calling.{truncate_asked}
use Rattle.world_begins.proofs.Composing.{needs_none}
use Rattle.world_begins.proofs.begins.runs.room_lacks.Goals as goal

pub returns-in_default : goal.returns-in_default
returns-in_default c = needs_none (seen c.args.p.now) c.args.who c.args.call.now c.requires.plain c.in_default.not-Truncate

pub lacks_room-requires : goal.lacks_room-requires
lacks_room-requires c = record { runs = runs_in_some c.args.p.now.k c.args.p.now.tables.tables c.args.p.now.staging c.args.p.now.files (seen c.args.p.now) c.args.who c.args.call.now c.requires.turn.calls }

pub returns : goal.returns
returns c =
    subst (λ (call : Call). IsRoomAsked (seen c.args.p.now) c.args.who call c.lacks_room.result) (sym c.in-Truncate.is)
    (truncate_asked c.args.p.now c.args.who c.in-Truncate.handle c.in-Truncate.size (subst (IsTurn c.args.p.now c.args.who) c.in-Truncate.is c.requires.turn) c.jobs_need_what_their_calls_do.ensures c.needs_now-needs.result
    (c.needs_now-needs.ensures) c.args.p.now.k c.args.p.now.files c.lacks_room.result c.lacks_room.ensures)
