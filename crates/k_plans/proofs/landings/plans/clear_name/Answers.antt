-- one name line of zeros
use Rattle.std.proofs.Common.{length, ◌<◌, ◌≡◌, true, None, refl, sym, subst}
use Rattle.k_inodes.specs.layout_model.Lines.{FreeName, decode_name}
use Rattle.k_inodes.specs.layout_model.Fields.{zeros}
use Rattle.k_inodes.specs.layout_model.PlaceLaws.{journaled-name}
use Rattle.k_inodes.specs.layout_model.Places.{is_journaled_line}
use Rattle.k_plans.specs.PlanLaws.{SetsOneMore, length-with_line_set, turns-row}
use Rattle.k_plans.proofs.landings.plans.clear_name.Goals as goal

zeros_free : decode_name (zeros 64) ≡ FreeName
unfolding decode_name
zeros_free = refl

pub returns-clause-turns : goal.returns-clause-turns
returns-clause-turns c news v w turns =
    let g = c.args.geometry.now in
    let batch = c.args.batch.now in
    let new = c.put_line.new.self in
    turns-row g news v w batch new c.args.line None (zeros 64) c.requires.line
    (record { size = c.put_line.ensures.size; small = c.put_line.ensures.small })
    zeros_free
    (subst (λ line. SetsOneMore batch line (zeros 64) new) c.name_line.ensures c.put_line.ensures.meaning)
    (c.put_line.ensures.lines (is_journaled_line g)
    (subst (λ line. is_journaled_line g line ≡ true) (sym c.name_line.ensures) (journaled-name g c.args.line c.requires.line)) turns.lines)
    turns

pub returns-clause-some : goal.returns-clause-some
returns-clause-some c = subst (λ b. 0 < length b) (sym c.put_line.ensures.entries) (length-with_line_set c.args.batch.now _ _)
