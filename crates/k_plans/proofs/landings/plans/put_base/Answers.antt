-- the line of the log base
use Rattle.std.proofs.Common.{length, ◌≡◌, ◌^◌, ◌<◌, true, arith, sym, subst}
use Rattle.k_inodes.specs.layout_model.PlaceLaws.{journaled-state}
use Rattle.k_inodes.specs.layout_model.Places.{state_line, is_journaled_line}
use Rattle.k_plans.specs.PlanLaws.{SetsOneMore, length-with_line_set, turns-base}
use Rattle.k_plans.proofs.landings.plans.put_base.Goals as goal

pub returns-clause-turns : goal.returns-clause-turns
returns-clause-turns c news v w turns =
    let g = c.args.geometry.now in
    let batch = c.args.batch.now in
    let new = c.put_line.new.self in
    let small : c.args.base < 2 ^ 64 = omega (arith, c.ranges.base.fits) in
    turns-base g news v w batch new c.args.base small
    (subst (λ bytes. SetsOneMore batch state_line bytes new) c.state_bytes-bytes.ensures
    (subst (λ line. SetsOneMore batch line c.state_bytes-bytes.result new) c.state_line.ensures c.put_line.ensures.meaning))
    (c.put_line.ensures.lines (is_journaled_line g)
    (subst (λ line. is_journaled_line g line ≡ true) (sym c.state_line.ensures) (journaled-state g)) turns.lines)
    turns

pub returns-clause-some : goal.returns-clause-some
returns-clause-some c = subst (λ b. 0 < length b) (sym c.put_line.ensures.entries) (length-with_line_set c.args.batch.now _ _)
