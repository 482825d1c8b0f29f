use Rattle.std.proofs.Common.{◌≡◌, ◌∙◌, ℕ, length, None, ap, arith, false, refl, subst, sym, true}
use Rattle.data_route.specs.declared.writes.WritePlan.{WritePlan}
use Rattle.data_route.specs.Writes.{plan_of}
use Rattle.write_plan.specs.eof_laws.block_io.Overwrites.{blocks_reached}
use Rattle.write_plan.specs.file_table.Files.{size_in}
use Rattle.write_plan.specs.image_model.Volume.{Volume}
use Rattle.write_plan.specs.k_split_model.View.{View}
use Rattle.live_step_laws.specs.staging_files.Reserves.{AreSame}
use Rattle.write_begin.specs.Goes.{KeepsMaps, LacksRun, reached_run}
use Rattle.write_begin.proofs.Spared.{line_there}
use Rattle.write_begin.proofs.Cleared.{gone_ok, paid_ok, same_volume}
use Rattle.write_begin.proofs.Maps.{same_maps}
use Rattle.write_begin.proofs.Plans.{plan_cleans}
use Rattle.write_begin.proofs.Losses.{first_fits, goes_same, lacks_run, late_of, loses_run}
use Rattle.write_begin.proofs.Runs.{has_file, keeps_maps, loses_gap, ready_of, run_out}
use Rattle.write_begin.proofs.begins.rooms.begin_reserved.Goals as goal

pub count_of-count-requires-clause-plan : goal.count_of-count-requires-clause-plan
count_of-count-requires-clause-plan c =
    ap (λ (p : WritePlan). p.staged) (c.plan_write-plan.ensures ∙ ap (λ (n : ℕ). plan_of c.args.mode c.size-size.result c.args.target.start n) c.len-len.ensures)
    ∙ (ap (λ n. (plan_of c.args.mode n c.args.target.start (length c.args.bytes.now)).staged) (c.size-size.ensures.size ∙ sym c.requires.target.size) ∙ c.requires.staged ∙ ap (λ (n : ℕ). reached_run c.args.target n) (sym c.len-len.ensures))

pub clear_gap-requires-clause-plan : goal.clear_gap-requires-clause-plan
clear_gap-requires-clause-plan c =
    ap (λ (p : WritePlan). p.clean_tail) (c.plan_write-plan.ensures ∙ ap (λ (n : ℕ). plan_of c.args.mode c.size-size.result c.args.target.start n) c.len-len.ensures)
    ∙ (ap (λ n. (plan_of c.args.mode n c.args.target.start (length c.args.bytes.now)).clean_tail) c.size-size.ensures.size
    ∙ plan_cleans c.args.mode (size_in c.args.files.now c.args.target.ino) c.args.target.start (length c.args.bytes.now) c.requires.target.some)

pub clear_gap-requires-clause-has : goal.clear_gap-requires-clause-has
clear_gap-requires-clause-has c =
    has_file c.args.mode c.args.k.now c.reserve.new.k c.args.staging.now c.reserve.new.self c.args.files.now c.args.who c.args.target c.args.bytes.now c.count_of-count.result c.in-Ok.run' c.a_run_is_reserved_in_flight.ensures.done
    c.count_of-count.ensures.least c.count_of-count.ensures.most c.in-Ok.ensures.answer c.requires.goes

pub clear_gap-requires-clause-ends : goal.clear_gap-requires-clause-ends
clear_gap-requires-clause-ends c =
    (keeps_maps c.args.mode c.args.k.now c.reserve.new.k c.args.staging.now c.reserve.new.self c.args.files.now c.args.who c.args.target c.args.bytes.now c.count_of-count.result c.in-Ok.run' c.a_run_is_reserved_in_flight.ensures.done
    c.count_of-count.ensures.least c.count_of-count.ensures.most c.in-Ok.ensures.answer c.requires.goes).ends c.requires.room.ends

pub returns-in-PowerLost-clause-gone : goal.returns-in-PowerLost-clause-gone
returns-in-PowerLost-clause-gone c =
    loses_gap c.args.mode c.args.k.now c.reserve.new.k c.args.staging.now c.reserve.new.self c.args.files.now c.args.who c.args.target c.args.bytes.now c.count_of-count.result c.in-Ok.run' c.a_run_is_reserved_in_flight.ensures.done
    c.count_of-count.ensures.least c.count_of-count.ensures.most c.in-Ok.ensures.answer c.clear_gap.new.k c.in-PowerLost.ensures.answer

pub begin_job-requires-clause-ready : goal.begin_job-requires-clause-ready
begin_job-requires-clause-ready c =
    ready_of c.args.mode c.args.k.now c.reserve.new.k c.args.staging.now c.reserve.new.self c.args.files.now c.args.who c.args.target c.args.bytes.now c.count_of-count.result c.in-Ok.run' c.a_run_is_reserved_in_flight.ensures.done
    c.count_of-count.ensures.least c.count_of-count.ensures.most c.in-Ok.ensures.answer c.clear_gap.new.k c.in-Done.ensures.answer c.requires.target (omega (arith, c.size-size.ensures.size, c.size-size.ensures.small, c.requires.target.size))
    (c.count_of-count.ensures.count ∙ ap (λ (n : ℕ). blocks_reached c.args.target.start n) c.len-len.ensures) c.requires.spare c.requires.goes

pub begin_job-requires-clause-out : goal.begin_job-requires-clause-out
begin_job-requires-clause-out c =
    run_out c.args.mode c.args.k.now c.reserve.new.k c.args.staging.now c.reserve.new.self c.args.files.now c.args.who c.args.target c.args.bytes.now c.count_of-count.result c.in-Ok.run' c.a_run_is_reserved_in_flight.ensures.done
    c.count_of-count.ensures.least c.count_of-count.ensures.most c.in-Ok.ensures.answer

pub returns-in-Done-clause-keeps : goal.returns-in-Done-clause-keeps
returns-in-Done-clause-keeps c = λ on.
    subst (λ (w : Volume). KeepsMaps c.args.k.now.volume w c.args.files.now c.args.files.now None)
    (sym (same_volume c.clear_gap.new.k c.begin_job.new.k c.reserve.new.self c.begin_job.new.staging c.args.files.now c.args.who c.args.target c.args.bytes.now c.in-Ok.run' c.begin_job.result c.begin_job.ensures
    ∙ ap (λ (y : View). y.volume) c.in-Done.ensures.answer.same))
    (keeps_maps c.args.mode c.args.k.now c.reserve.new.k c.args.staging.now c.reserve.new.self c.args.files.now c.args.who c.args.target c.args.bytes.now c.count_of-count.result c.in-Ok.run' c.a_run_is_reserved_in_flight.ensures.done
    c.count_of-count.ensures.least c.count_of-count.ensures.most c.in-Ok.ensures.answer c.requires.goes)

pub returns-in-Done-clause-gone : goal.returns-in-Done-clause-gone
returns-in-Done-clause-gone c =
    gone_ok c.args.mode c.args.k.now c.reserve.new.k c.clear_gap.new.k c.begin_job.new.k c.args.staging.now c.reserve.new.self c.begin_job.new.staging c.args.files.now c.args.who c.args.target c.args.bytes.now c.count_of-count.result c.in-Ok.run'
    c.a_run_is_reserved_in_flight.ensures.done c.count_of-count.ensures.least c.count_of-count.ensures.most c.in-Ok.ensures.answer c.in-Done.ensures.answer c.requires.target
    (omega (arith, c.size-size.ensures.size, c.size-size.ensures.small, c.requires.target.size)) (c.count_of-count.ensures.count ∙ ap (λ (n : ℕ). blocks_reached c.args.target.start n) c.len-len.ensures) c.requires.spare c.requires.goes c.begin_job.result c.begin_job.ensures

pub returns-in-Err-PowerLost-clause-gone : goal.returns-in-Err-PowerLost-clause-gone
returns-in-Err-PowerLost-clause-gone c =
    loses_run c.args.mode c.args.k.now c.reserve.new.k c.args.staging.now c.reserve.new.self c.args.files.now c.args.who c.args.target c.args.bytes.now c.count_of-count.result c.a_run_is_reserved_in_flight.ensures.cut
    c.count_of-count.ensures.least c.count_of-count.ensures.most (rw c.in-Err-PowerLost.field-0-is at c.in-Err-PowerLost.ensures.answer)

pub size-size-requires : goal.size-size-requires
size-size-requires c = line_there c.args.mode c.args.k.now c.args.staging.now c.args.files.now c.args.who c.args.target c.args.bytes.now c.requires.goes

pub unreachable-requires : goal.unreachable-requires
unreachable-requires c =
    let answer = rw c.in-Err-NoRoom.field-0-is at c.in-Err-NoRoom.ensures.answer in
    first_fits c.args.mode c.args.k.now c.args.staging.now c.args.files.now c.args.who c.args.target c.args.bytes.now c.count_of-count.result c.in-Err-NoRoom.need c.in-Err-NoRoom.room c.the_first_write_finds_its_blocks.ensures c.requires.goes c.requires.room
    c.requires.staged (c.count_of-count.ensures.count ∙ ap (λ (n : ℕ). blocks_reached c.args.target.start n) c.len-len.ensures) (sym answer.1.staging ∙ c.if-is_fresh.ensures.0 refl) answer.0

pub returns-else-is_fresh-clause-keeps : goal.returns-else-is_fresh-clause-keeps
returns-else-is_fresh-clause-keeps c = λ on.
    let answer = rw c.in-Err-NoRoom.field-0-is at c.in-Err-NoRoom.ensures.answer in
    subst (λ (y : View). KeepsMaps c.args.k.now.volume y.volume c.args.files.now c.args.files.now None) (sym answer.1.volume) (same_maps c.args.k.now.volume c.args.files.now)

pub returns-else-is_fresh-clause-gone : goal.returns-else-is_fresh-clause-gone
returns-else-is_fresh-clause-gone c =
    let answer = rw c.in-Err-NoRoom.field-0-is at c.in-Err-NoRoom.ensures.answer in
    subst (λ (n : ℕ). LacksRun c.args.mode c.args.k.now c.reserve.new.k c.args.staging.now c.reserve.new.self c.args.files.now c.args.files.now c.args.who c.args.target c.args.bytes.now (reached_run c.args.target (length c.args.bytes.now)) n c.from-in-Err-NoRoom.result) (sym (c.from.ensures ∙ c.in-Err-NoRoom.need-is))
    (subst (λ (m : ℕ). LacksRun c.args.mode c.args.k.now c.reserve.new.k c.args.staging.now c.reserve.new.self c.args.files.now c.args.files.now c.args.who c.args.target c.args.bytes.now (reached_run c.args.target (length c.args.bytes.now)) c.in-Err-NoRoom.need m) (sym (c.from-in-Err-NoRoom.ensures ∙ c.in-Err-NoRoom.room-is))
    (lacks_run c.args.mode c.args.k.now c.reserve.new.k c.args.staging.now c.reserve.new.self c.args.files.now c.args.who c.args.target c.args.bytes.now c.count_of-count.result c.in-Err-NoRoom.need c.in-Err-NoRoom.room (c.count_of-count.ensures.count ∙ ap (λ (n : ℕ). blocks_reached c.args.target.start n) c.len-len.ensures)
    (late_of c.args.staging.now c.reserve.new.self answer.1.staging c.requires.bare (λ fresh. (let never : false ≡ true = c.if-is_fresh.ensures.1 fresh in cc))) answer.0 answer.1))

pub reserve-requires-clause-unbatched : goal.reserve-requires-clause-unbatched
reserve-requires-clause-unbatched c on = c.requires.goes.stands.unbatched

pub returns-in-Done-clause-paid : goal.returns-in-Done-clause-paid
returns-in-Done-clause-paid c =
    paid_ok c.clear_gap.new.k c.begin_job.new.k c.reserve.new.self c.begin_job.new.staging c.args.files.now c.args.who c.args.target c.args.bytes.now c.in-Ok.run' c.clear_gap.new.power
    c.in-Done.ensures.paid c.begin_job.result c.begin_job.ensures

pub returns-in-Err-NoMemory-clause-keeps : goal.returns-in-Err-NoMemory-clause-keeps
returns-in-Err-NoMemory-clause-keeps c on =
    let same : AreSame c.args.staging.now c.reserve.new.self c.args.k.now c.reserve.new.k = rw c.in-Err-NoMemory.field-0-is at c.in-Err-NoMemory.ensures.answer in
    subst (λ (y : View). KeepsMaps c.args.k.now.volume y.volume c.args.files.now c.args.files.now None) (sym same.volume) (same_maps c.args.k.now.volume c.args.files.now)

pub returns-in-Err-NoMemory-clause-gone : goal.returns-in-Err-NoMemory-clause-gone
returns-in-Err-NoMemory-clause-gone c =
    let same : AreSame c.args.staging.now c.reserve.new.self c.args.k.now c.reserve.new.k = rw c.in-Err-NoMemory.field-0-is at c.in-Err-NoMemory.ensures.answer in
    goes_same c.args.mode c.args.k.now c.reserve.new.k c.args.staging.now c.reserve.new.self c.args.files.now c.args.who c.args.target c.args.bytes.now same
