-- one more name line
use Rattle.std.proofs.Common.{length, ◌<◌, ◌≡◌, true, Some, sym, subst}
use Rattle.k_inodes.specs.layout_model.PlaceLaws.{journaled-name}
use Rattle.k_inodes.specs.layout_model.Places.{is_journaled_line}
use Rattle.k_plans.specs.PlanLaws.{SetsOneMore, length-with_line_set, turns-row}
use Rattle.k_plans.proofs.landings.plans.put_name.Goals as goal

pub returns-clause-turns : goal.returns-clause-turns
returns-clause-turns c news v w turns =
    let g = c.args.geometry.now in
    let batch = c.args.batch.now in
    let bytes = c.encode_name-bytes.result in
    let new = c.put_line.new.self in
    turns-row g news v w batch new c.args.line (Some c.args.name.now) bytes c.requires.line
    (record { size = c.encode_name-bytes.ensures.size; small = c.encode_name-bytes.ensures.small })
    (c.encode_name-bytes.ensures.read c.requires.fields)
    (subst (λ line. SetsOneMore batch line bytes new) c.name_line.ensures c.put_line.ensures.meaning)
    (c.put_line.ensures.lines (is_journaled_line g)
    (subst (λ line. is_journaled_line g line ≡ true) (sym c.name_line.ensures) (journaled-name g c.args.line c.requires.line)) turns.lines)
    turns

pub returns-clause-some : goal.returns-clause-some
returns-clause-some c = subst (λ b. 0 < length b) (sym c.put_line.ensures.entries) (length-with_line_set c.args.batch.now _ _)
