use Rattle.std.proofs.Common.{◌/◌, length, refl, None}
use Rattle.write_plan.specs.eof_laws.block_io.Overwrites.{blocks_reached}
use Rattle.write_begin.specs.Goes.{reached_run}
use Rattle.write_begin.proofs.Plans.{some_run}
use Rattle.write_begin.proofs.Maps.{maps_then}
use Rattle.write_begin.proofs.Spared.{line_there, maps_spared, room_spared, spared, SparesOthers}
use Rattle.write_begin.proofs.Steps.{goes_then, through}
use Rattle.write_begin.proofs.begins.rooms.begin_staged.Goals as goal

pub returns-in-Err-clause-gone : goal.returns-in-Err-clause-gone
returns-in-Err-clause-gone c =
    let spares : SparesOthers c.args.target.ino c.args.files.now c.reserve.new.self = record { runs = c.in-Err.ensures.runs; sizes = c.in-Err.ensures.sizes; spares = c.in-Err.ensures.spares } in
    record { runs = refl; stands = λ goes. (spared c.args.mode c.args.k.now c.args.staging.now c.args.files.now c.reserve.new.self c.args.who c.args.target c.args.bytes.now spares goes).now }

pub returns-in-Err-clause-keeps : goal.returns-in-Err-clause-keeps
returns-in-Err-clause-keeps c = λ on.
    let spares : SparesOthers c.args.target.ino c.args.files.now c.reserve.new.self = record { runs = c.in-Err.ensures.runs; sizes = c.in-Err.ensures.sizes; spares = c.in-Err.ensures.spares } in
    maps_spared c.args.target.ino c.args.k.now.volume c.args.files.now c.reserve.new.self spares

pub begin_reserved-requires-clause-goes : goal.begin_reserved-requires-clause-goes
begin_reserved-requires-clause-goes c =
    let spares : SparesOthers c.args.target.ino c.args.files.now c.reserve.new.self = record { runs = c.in-Ok.ensures.runs; sizes = c.in-Ok.ensures.sizes; spares = c.in-Ok.ensures.spares } in
    goes_then c.args.mode c.args.k.now c.args.k.now c.args.staging.now c.args.staging.now c.args.files.now c.reserve.new.self c.args.who c.args.target c.args.bytes.now c.requires.goes (spared c.args.mode c.args.k.now c.args.staging.now c.args.files.now c.reserve.new.self c.args.who c.args.target c.args.bytes.now spares c.requires.goes)

pub begin_reserved-requires-clause-room : goal.begin_reserved-requires-clause-room
begin_reserved-requires-clause-room c =
    let spares : SparesOthers c.args.target.ino c.args.files.now c.reserve.new.self = record { runs = c.in-Ok.ensures.runs; sizes = c.in-Ok.ensures.sizes; spares = c.in-Ok.ensures.spares } in
    room_spared c.args.mode c.args.k.now.volume c.args.files.now c.reserve.new.self c.args.target (length c.args.bytes.now) spares c.requires.room

pub returns-in-Ok-clause-keeps : goal.returns-in-Ok-clause-keeps
returns-in-Ok-clause-keeps c = λ on.
    let spares : SparesOthers c.args.target.ino c.args.files.now c.reserve.new.self = record { runs = c.in-Ok.ensures.runs; sizes = c.in-Ok.ensures.sizes; spares = c.in-Ok.ensures.spares } in
    maps_then c.args.k.now.volume c.args.k.now.volume c.begin_reserved.new.k.volume c.args.files.now c.reserve.new.self c.reserve.new.self None (maps_spared c.args.target.ino c.args.k.now.volume c.args.files.now c.reserve.new.self spares) (c.begin_reserved.ensures.keeps on)

pub returns-in-Ok-clause-gone : goal.returns-in-Ok-clause-gone
returns-in-Ok-clause-gone c =
    let spares : SparesOthers c.args.target.ino c.args.files.now c.reserve.new.self = record { runs = c.in-Ok.ensures.runs; sizes = c.in-Ok.ensures.sizes; spares = c.in-Ok.ensures.spares } in
    through c.args.mode c.args.k.now c.begin_reserved.new.k c.args.staging.now c.begin_reserved.new.staging c.args.files.now c.reserve.new.self c.reserve.new.self c.args.who c.args.target c.args.bytes.now (reached_run c.args.target (length c.args.bytes.now)) (some_run (c.args.target.start / 4096, blocks_reached c.args.target.start (length c.args.bytes.now)))
    (spared c.args.mode c.args.k.now c.args.staging.now c.args.files.now c.reserve.new.self c.args.who c.args.target c.args.bytes.now spares) c.begin_reserved.result c.begin_reserved.ensures.gone

pub reserve-requires : goal.reserve-requires
reserve-requires c = line_there c.args.mode c.args.k.now c.args.staging.now c.args.files.now c.args.who c.args.target c.args.bytes.now c.requires.goes
