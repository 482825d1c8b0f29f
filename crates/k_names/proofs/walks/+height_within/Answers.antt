-- Each line either leads to a longer path or adds nothing.
use Rattle.std.proofs.Common.{arith, ◌≡◌, ◌-◌, ◌∙◌, sym, None}
use Rattle.std.proofs.lemmas.List.{get_or_read}
use Rattle.layout_model.specs.Names.{row}
use Rattle.k_names.proofs.HeightLaws.{height_of_none, height_start, height_skip, height_take, height_end}
use Rattle.k_names.proofs.walks.+height_within.Goals as goal
use Rattle.k_names.proofs.walks.+height_within.Goals.{in-Some, in_default}

pub returns-then-most-eq0-clause-height : goal.returns-then-most-eq0-clause-height
returns-then-most-eq0-clause-height t c = height_of_none c.args.rows.now c.args.most c.args.ino (omega arith)

pub loop-row-init : goal.loop-row-init
loop-row-init t c = (height_start c.args.rows.now (c.args.most - 1) c.args.ino, omega arith)

pub loop-row-preserved : goal.loop-row-preserved
loop-row-preserved t c =
    let rows = c.args.rows.now in
    let n = c.loop-row.row-index in
    let item = c.row-item.result in
    let is : row rows n ≡ item = sym (get_or_read rows n item c.loop-row-test.true c.row-item.is None) in
    let most = c.args.most - 1 in
    elim c.match-child_below.branch [
      | in-Some w ↦ (
        height_take rows most c.args.ino n c.loop-row.height w.in-Some.child w.height_within.result c.match-child_below.height item
            c.requires c.loop-row-test.true is (sym c.child_below.ensures ∙ w.in-Some.is) w.height_within.ensures.height c.loop-row.invariant.0 (omega arith),
        omega arith,
      )
      | in_default w ↦ (
        rw w.height-is (height_skip rows most c.args.ino n c.loop-row.height item is (sym c.child_below.ensures ∙ w.in_default.is) c.loop-row.invariant.0),
        omega arith,
      )
    ]

pub returns-clause-height : goal.returns-clause-height
returns-clause-height t c =
    height_end c.args.rows.now (c.args.most - 1) c.args.most c.args.ino c.loop-row.row-index c.loop-row.height c.loop-row-test.false (omega arith) c.loop-row.invariant.0
