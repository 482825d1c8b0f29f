use Rattle.std.proofs.Common.{◌≡◌, ◌-◌, ◌∙◌, ap, arith}
use Rattle.in_place.specs.Holes.{is_absent}
use Rattle.in_place.proofs.Absent.{count_on, lacks_is}
use Rattle.in_place.proofs.Counting.{count_at_most, one_if}
use Rattle.in_place.proofs.placing.holes.count_absent.Goals as goal
use Rattle.in_place.proofs.placing.holes.count_absent.Goals.{else-lacks, then-lacks}

pub overflow_add-absent : goal.overflow_add-absent
overflow_add-absent c = let most = count_at_most (is_absent c.args.k.now.volume c.args.files.now c.args.ino) c.args.first (c.loop-block.block - c.args.first) in omega (arith, most)

pub loop-block-preserved : goal.loop-block-preserved
loop-block-preserved c =
    let here = lacks_is c.args.k.now.volume c.args.files.now c.args.ino c.loop-block.block c.in-Some.map.now c.overlay-overlay.result.now.runs c.lacks.result c.in-Some.ensures.map c.overlay-overlay.ensures c.lacks.ensures in
    elim c.if-lacks.branch [
      | then-lacks w ↦ (
          let one : one_if (is_absent c.args.k.now.volume c.args.files.now c.args.ino c.loop-block.block) ≡ 1 = here ∙ ap one_if w.if-lacks.true in
          let next = count_on c.args.k.now.volume c.args.files.now c.args.ino c.args.first c.loop-block.block c.loop-block.absent 1 (omega arith) c.loop-block.invariant one in
          omega (arith, next, w.absent-is))
      | else-lacks w ↦ (
          let none : one_if (is_absent c.args.k.now.volume c.args.files.now c.args.ino c.loop-block.block) ≡ 0 = here ∙ ap one_if w.if-lacks.false in
          let next = count_on c.args.k.now.volume c.args.files.now c.args.ino c.args.first c.loop-block.block c.loop-block.absent 0 (omega arith) c.loop-block.invariant none in
          omega (arith, next, w.absent-is))
    ]
