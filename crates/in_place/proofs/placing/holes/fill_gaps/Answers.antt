use Rattle.std.proofs.Common.{◌+◌, ◌<◌, ◌≤◌, List, arith, subst, sym}
use Rattle.std.specs.Prelude.{◌≡◌, Err}
use Rattle.write_plan.specs.file_overlay.declared.runs.Run.{Run}
use Rattle.live_step_laws.specs.pm_model.Powers.{Steps}
use Rattle.live_step_laws.specs.k_split.Answers.{IsPaid}
use Rattle.live_step_laws.specs.k_split.declared.faults.KFault.{KFault}
use Rattle.live_step_laws.specs.k_split.Filling.{fill_row, IsFillAnswer}
use Rattle.in_place.specs.Holes.{FillsSome, IsUnstaged}
use Rattle.in_place.proofs.Entries.{blocks_fit, line_there}
use Rattle.in_place.proofs.Filling.{below_inodes, file, filled_none, gap_fits, IsFilledTo, off, on, steps_to}
use Rattle.in_place.proofs.Filled.{fills_on, has_room, loses_on, off_on, range_filled, some_filled, steps_all, steps_at_end, steps_start}
use Rattle.in_place.proofs.placing.holes.fill_gaps.Goals as goal

pub overlay-requires : goal.overlay-requires
overlay-requires c = line_there c.args.k.now c.args.staging.now c.args.files.now c.args.ino c.requires.has

pub loop-block-init : goal.loop-block-init
loop-block-init c = record {
  to = filled_none c.args.k.now c.args.staging.now c.args.files.now c.args.ino c.args.first c.args.count;
  on = c.requires.on;
  steps = steps_start c.args.k.now c.args.files.now c.args.ino c.args.first c.args.count c.args.power.now;
}

pub fill_holes-requires : goal.fill_holes-requires
fill_holes-requires c =
    let k = c.args.k.now in
    let l = c.loop-block.k in
    let staging = c.args.staging.now in
    let files = c.args.files.now in
    let block = c.loop-block.block in
    let bare = c.unstaged_from-bare.result in
    let below : block < c.args.first + c.args.count = omega arith in
    let unstaged = subst (λ (runs : List Run). IsUnstaged runs block (c.args.first + c.args.count) bare) c.overlay.ensures c.unstaged_from-bare.ensures in
    let fits : c.args.first + c.args.count ≤ 4096 = (let all = blocks_fit k staging files c.args.ino c.requires.has in let range = c.requires.range in omega (arith, all, range)) in
    record {
      awake = λ lost. absurd (off_on l.lost (on k l staging files c.args.ino c.args.first c.args.count block bare c.requires.has c.loop-block.invariant.to below unstaged fits) lost);
      file = λ lives. record { below = below_inodes k l staging files c.args.ino c.args.first c.args.count block bare c.requires.has c.loop-block.invariant.to below unstaged fits; file = file k l staging files c.args.ino c.args.first c.args.count block bare c.requires.has c.loop-block.invariant.to below unstaged fits };
      range = gap_fits k l staging files c.args.ino c.args.first c.args.count block bare c.requires.has c.loop-block.invariant.to below unstaged fits;
    }

pub unreachable-requires-in-Err-Room : goal.unreachable-requires-in-Err-Room
unreachable-requires-in-Err-Room c =
    let k = c.args.k.now in
    let l = c.loop-block.k in
    let staging = c.args.staging.now in
    let files = c.args.files.now in
    let block = c.loop-block.block in
    let bare = c.unstaged_from-bare.result in
    let below : block < c.args.first + c.args.count = omega arith in
    let unstaged = subst (λ (runs : List Run). IsUnstaged runs block (c.args.first + c.args.count) bare) c.overlay.ensures c.unstaged_from-bare.ensures in
    let fits : c.args.first + c.args.count ≤ 4096 = (let all = blocks_fit k staging files c.args.ino c.requires.has in let range = c.requires.range in omega (arith, all, range)) in
    let unbatched = off k l staging files c.args.ino c.args.first c.args.count block bare c.requires.has c.loop-block.invariant.to below unstaged fits in
    let answer = subst (λ (fault : KFault). IsFillAnswer c.args.ino block bare l c.fill_holes.new.self (Err fault)) c.in-Err-Room.field-0-is (c.in-Err-Room.ensures.answer unbatched) in
    has_room k l c.fill_holes.new.self staging files c.args.ino c.args.first c.args.count block bare c.requires.has c.loop-block.invariant.to below unstaged c.requires.range c.requires.few c.requires.room _ answer.0

pub unreachable-requires : goal.unreachable-requires
unreachable-requires c =
    let k = c.args.k.now in
    let l = c.loop-block.k in
    let staging = c.args.staging.now in
    let files = c.args.files.now in
    let block = c.loop-block.block in
    let bare = c.unstaged_from-bare.result in
    let below : block < c.args.first + c.args.count = omega arith in
    let unstaged = subst (λ (runs : List Run). IsUnstaged runs block (c.args.first + c.args.count) bare) c.overlay.ensures c.unstaged_from-bare.ensures in
    let fits : c.args.first + c.args.count ≤ 4096 = (let all = blocks_fit k staging files c.args.ino c.requires.has in let range = c.requires.range in omega (arith, all, range)) in
    let unbatched = off k l staging files c.args.ino c.args.first c.args.count block bare c.requires.has c.loop-block.invariant.to below unstaged fits in
    subst (λ (fault : KFault). IsFillAnswer c.args.ino c.loop-block.block c.unstaged_from-bare.result c.loop-block.k c.fill_holes.new.self (Err fault)) c.in-Err-Refused.field-0-is (c.in-Err-Refused.ensures.answer unbatched)

pub loop-block-preserved : goal.loop-block-preserved
loop-block-preserved c =
    let k = c.args.k.now in
    let l = c.loop-block.k in
    let staging = c.args.staging.now in
    let files = c.args.files.now in
    let block = c.loop-block.block in
    let bare = c.unstaged_from-bare.result in
    let below : block < c.args.first + c.args.count = omega arith in
    let unstaged = subst (λ (runs : List Run). IsUnstaged runs block (c.args.first + c.args.count) bare) c.overlay.ensures c.unstaged_from-bare.ensures in
    let fits : c.args.first + c.args.count ≤ 4096 = (let all = blocks_fit k staging files c.args.ino c.requires.has in let range = c.requires.range in omega (arith, all, range)) in
    let unbatched = off k l staging files c.args.ino c.args.first c.args.count block bare c.requires.has c.loop-block.invariant.to below unstaged fits in
    let next = fills_on k l c.fill_holes.new.self staging files c.args.ino c.args.first c.args.count block bare c.requires.has c.loop-block.invariant.to below unstaged c.requires.range c.requires.few c.requires.room c.holes_are_filled_in_flight.ensures.done c.holes_are_filled_as_asked.ensures c.args.power.now c.loop-block.power c.fill_holes.new.power c.loop-block.invariant.steps (c.in-Ok.ensures.steps unbatched)
    (c.in-Ok.ensures.paid unbatched) (c.in-Ok.ensures.answer unbatched) in
    let sum : block + bare + 1 ≡ block + (bare + 1) = omega arith in
    record {
      to = subst (λ b. IsFilledTo k c.fill_holes.new.self staging files c.args.ino c.args.first c.args.count b) sum next.0;
      on = (c.in-Ok.ensures.paid unbatched).0;
      steps = subst (λ b. Steps (steps_to k files c.args.ino c.args.first c.args.count b) c.args.power.now c.fill_holes.new.power) sum next.1;
    }

pub returns-in-Err-PowerLost-clause-answer : goal.returns-in-Err-PowerLost-clause-answer
returns-in-Err-PowerLost-clause-answer c =
    let k = c.args.k.now in
    let l = c.loop-block.k in
    let staging = c.args.staging.now in
    let files = c.args.files.now in
    let block = c.loop-block.block in
    let bare = c.unstaged_from-bare.result in
    let below : block < c.args.first + c.args.count = omega arith in
    let unstaged = subst (λ (runs : List Run). IsUnstaged runs block (c.args.first + c.args.count) bare) c.overlay.ensures c.unstaged_from-bare.ensures in
    let fits : c.args.first + c.args.count ≤ 4096 = (let all = blocks_fit k staging files c.args.ino c.requires.has in let range = c.requires.range in omega (arith, all, range)) in
    let unbatched = off k l staging files c.args.ino c.args.first c.args.count block bare c.requires.has c.loop-block.invariant.to below unstaged fits in
    loses_on k l c.fill_holes.new.self staging files c.args.ino c.args.first c.args.count block bare c.requires.has c.loop-block.invariant.to below unstaged c.requires.range c.requires.few c.requires.room c.holes_are_filled_in_flight.ensures.cut c.holes_are_filled_as_asked.ensures
    (subst (λ (fault : KFault). IsFillAnswer c.args.ino block bare l c.fill_holes.new.self (Err fault)) c.in-Err-PowerLost.field-0-is (c.in-Err-PowerLost.ensures.answer unbatched))

pub returns-in-Err-PowerLost-clause-paid : goal.returns-in-Err-PowerLost-clause-paid
returns-in-Err-PowerLost-clause-paid c =
    let k = c.args.k.now in
    let l = c.loop-block.k in
    let staging = c.args.staging.now in
    let files = c.args.files.now in
    let block = c.loop-block.block in
    let bare = c.unstaged_from-bare.result in
    let below : block < c.args.first + c.args.count = omega arith in
    let unstaged = subst (λ (runs : List Run). IsUnstaged runs block (c.args.first + c.args.count) bare) c.overlay.ensures c.unstaged_from-bare.ensures in
    let fits : c.args.first + c.args.count ≤ 4096 = (let all = blocks_fit k staging files c.args.ino c.requires.has in let range = c.requires.range in omega (arith, all, range)) in
    let unbatched = off k l staging files c.args.ino c.args.first c.args.count block bare c.requires.has c.loop-block.invariant.to below unstaged fits in
    subst (λ (fault : KFault). IsPaid {T = Unit {0}} (fill_row c.args.ino c.loop-block.block c.unstaged_from-bare.result c.loop-block.k) c.loop-block.power c.fill_holes.new.power (Err fault)) c.in-Err-PowerLost.field-0-is (c.in-Err-PowerLost.ensures.paid unbatched)

pub returns-in-Err-PowerLost-clause-steps : goal.returns-in-Err-PowerLost-clause-steps
returns-in-Err-PowerLost-clause-steps c =
    let k = c.args.k.now in
    let l = c.loop-block.k in
    let staging = c.args.staging.now in
    let files = c.args.files.now in
    let block = c.loop-block.block in
    let bare = c.unstaged_from-bare.result in
    let below : block < c.args.first + c.args.count = omega arith in
    let unstaged = subst (λ (runs : List Run). IsUnstaged runs block (c.args.first + c.args.count) bare) c.overlay.ensures c.unstaged_from-bare.ensures in
    let fits : c.args.first + c.args.count ≤ 4096 = (let all = blocks_fit k staging files c.args.ino c.requires.has in let range = c.requires.range in omega (arith, all, range)) in
    let unbatched = off k l staging files c.args.ino c.args.first c.args.count block bare c.requires.has c.loop-block.invariant.to below unstaged fits in
    steps_at_end k l c.fill_holes.new.self staging files c.args.ino c.args.first c.args.count block bare c.requires.has c.loop-block.invariant.to below unstaged c.requires.range c.requires.few c.requires.room c.args.power.now c.loop-block.power c.fill_holes.new.power c.loop-block.invariant.steps (c.in-Err-PowerLost.ensures.steps unbatched)

pub returns-in-Err-NoMemory-clause-answer : goal.returns-in-Err-NoMemory-clause-answer
returns-in-Err-NoMemory-clause-answer c =
    let k = c.args.k.now in
    let l = c.loop-block.k in
    let staging = c.args.staging.now in
    let files = c.args.files.now in
    let block = c.loop-block.block in
    let bare = c.unstaged_from-bare.result in
    let below : block < c.args.first + c.args.count = omega arith in
    let unstaged = subst (λ (runs : List Run). IsUnstaged runs block (c.args.first + c.args.count) bare) c.overlay.ensures c.unstaged_from-bare.ensures in
    let fits : c.args.first + c.args.count ≤ 4096 = (let all = blocks_fit k staging files c.args.ino c.requires.has in let range = c.requires.range in omega (arith, all, range)) in
    let unbatched = off k l staging files c.args.ino c.args.first c.args.count block bare c.requires.has c.loop-block.invariant.to below unstaged fits in
    let answer = subst (λ (fault : KFault). IsFillAnswer c.args.ino c.loop-block.block c.unstaged_from-bare.result c.loop-block.k c.fill_holes.new.self (Err fault)) c.in-Err-NoMemory.field-0-is (c.in-Err-NoMemory.ensures.answer unbatched) in
    subst (λ y. FillsSome c.args.k.now y c.args.staging.now c.args.files.now c.args.ino c.args.first c.args.count) (sym answer.1)
    (some_filled c.args.k.now c.loop-block.k c.args.staging.now c.args.files.now c.args.ino c.args.first c.args.count c.loop-block.block c.loop-block.invariant.to c.requires.few)

pub returns-in-Err-NoMemory-clause-paid : goal.returns-in-Err-NoMemory-clause-paid
returns-in-Err-NoMemory-clause-paid c =
    let k = c.args.k.now in
    let l = c.loop-block.k in
    let staging = c.args.staging.now in
    let files = c.args.files.now in
    let block = c.loop-block.block in
    let bare = c.unstaged_from-bare.result in
    let below : block < c.args.first + c.args.count = omega arith in
    let unstaged = subst (λ (runs : List Run). IsUnstaged runs block (c.args.first + c.args.count) bare) c.overlay.ensures c.unstaged_from-bare.ensures in
    let fits : c.args.first + c.args.count ≤ 4096 = (let all = blocks_fit k staging files c.args.ino c.requires.has in let range = c.requires.range in omega (arith, all, range)) in
    let unbatched = off k l staging files c.args.ino c.args.first c.args.count block bare c.requires.has c.loop-block.invariant.to below unstaged fits in
    (subst (λ (fault : KFault). IsPaid {T = Unit {0}} (fill_row c.args.ino c.loop-block.block c.unstaged_from-bare.result c.loop-block.k) c.loop-block.power c.fill_holes.new.power (Err fault)) c.in-Err-NoMemory.field-0-is (c.in-Err-NoMemory.ensures.paid unbatched)).1

pub returns-in-Err-NoMemory-clause-steps : goal.returns-in-Err-NoMemory-clause-steps
returns-in-Err-NoMemory-clause-steps c =
    let k = c.args.k.now in
    let l = c.loop-block.k in
    let staging = c.args.staging.now in
    let files = c.args.files.now in
    let block = c.loop-block.block in
    let bare = c.unstaged_from-bare.result in
    let below : block < c.args.first + c.args.count = omega arith in
    let unstaged = subst (λ (runs : List Run). IsUnstaged runs block (c.args.first + c.args.count) bare) c.overlay.ensures c.unstaged_from-bare.ensures in
    let fits : c.args.first + c.args.count ≤ 4096 = (let all = blocks_fit k staging files c.args.ino c.requires.has in let range = c.requires.range in omega (arith, all, range)) in
    let unbatched = off k l staging files c.args.ino c.args.first c.args.count block bare c.requires.has c.loop-block.invariant.to below unstaged fits in
    steps_at_end k l c.fill_holes.new.self staging files c.args.ino c.args.first c.args.count block bare c.requires.has c.loop-block.invariant.to below unstaged c.requires.range c.requires.few c.requires.room c.args.power.now c.loop-block.power c.fill_holes.new.power c.loop-block.invariant.steps (c.in-Err-NoMemory.ensures.steps unbatched)

pub returns-clause-steps : goal.returns-clause-steps
returns-clause-steps c =
    steps_all c.args.k.now c.loop-block.k c.args.staging.now c.args.files.now c.args.ino c.args.first c.args.count c.loop-block.block c.loop-block.invariant.to c.requires.few c.args.power.now c.loop-block.power c.loop-block.invariant.steps

pub returns-clause-paid : goal.returns-clause-paid
returns-clause-paid c = c.loop-block.invariant.on

pub returns-clause-answer : goal.returns-clause-answer
returns-clause-answer c =
    range_filled c.args.k.now c.loop-block.k c.args.staging.now c.args.files.now c.args.ino c.args.first c.args.count c.loop-block.block c.loop-block.invariant.to c.requires.few c.requires.some (omega arith)

pub overflow_add-first : goal.overflow_add-first
overflow_add-first c = let all = blocks_fit c.args.k.now c.args.staging.now c.args.files.now c.args.ino c.requires.has in let range = c.requires.range in omega (arith, all, range)

pub overflow_add-first-in-loop-block : goal.overflow_add-first-in-loop-block
overflow_add-first-in-loop-block c = let all = blocks_fit c.args.k.now c.args.staging.now c.args.files.now c.args.ino c.requires.has in let range = c.requires.range in omega (arith, all, range)

pub overflow_add-block-in-Ok : goal.overflow_add-block-in-Ok
overflow_add-block-in-Ok c =
    let all = blocks_fit c.args.k.now c.args.staging.now c.args.files.now c.args.ino c.requires.has in
    let range = c.requires.range in
    omega (arith, all, range, c.unstaged_from-bare.ensures.within)
