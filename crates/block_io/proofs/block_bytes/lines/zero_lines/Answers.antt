use Rattle.std.proofs.Common.{◌∙◌, inl, refl, sym}
use Rattle.pm_lines.specs.pm_model.Cells.{cell}
use Rattle.pm_lines.specs.pm_model.Images.{Follows-same}
use Rattle.pm_lines.specs.pm_model.Powers.{is_on}
use Rattle.block_io.specs.Overwrites.{SameBesideLines}
use Rattle.block_io.proofs.Cells.{fence_done, settled}
use Rattle.block_io.proofs.ZeroCells.{going_fence}
use Rattle.block_io.proofs.LinesZeroed.{kept_lines, zeroed_lines, zeroing_lines}
use Rattle.block_io.proofs.block_bytes.lines.zero_lines.Goals as goal

pub returns-then-not-on-clause-each_image : goal.returns-then-not-on-clause-each_image
returns-then-not-on-clause-each_image c = Follows-same (SameBesideLines c.args.first c.args.count) c.args.pm.now (λ f i out. refl)

pub returns-clause-each_image : goal.returns-clause-each_image
returns-clause-each_image c =
    zeroing_lines c.args.first c.args.count c.args.pm.now c.fence.new.self (c.requires.ready (sym c.on.ensures ∙ c.if-not-on.false))
    (λ i out. settled (is_on c.clear_lines.new.power) (cell c.args.pm.now i) (cell c.clear_lines.new.pm i) (cell c.fence.new.self i) (c.clear_lines.ensures.others i out) (c.fence.ensures.fence.words i))

pub returns-clause-others : goal.returns-clause-others
returns-clause-others c i out =
    settled (is_on c.clear_lines.new.power) (cell c.args.pm.now i) (cell c.clear_lines.new.pm i) (cell c.fence.new.self i) (c.clear_lines.ensures.others i out) (c.fence.ensures.fence.words i)

pub returns-clause-durable : goal.returns-clause-durable
returns-clause-durable c on =
    zeroed_lines c.args.first c.args.count c.args.pm.now c.fence.new.self (c.requires.ready (sym c.on.ensures ∙ c.if-not-on.false))
    (λ i out. settled (is_on c.clear_lines.new.power) (cell c.args.pm.now i) (cell c.clear_lines.new.pm i) (cell c.fence.new.self i) (c.clear_lines.ensures.others i out) (c.fence.ensures.fence.words i))
    (λ i here.
    let before = c.fence.ensures.steps.on_before on in
    fence_done (is_on c.clear_lines.new.power) 0 (cell c.clear_lines.new.pm i) (cell c.fence.new.self i) before (c.fence.ensures.fence.words i) (c.clear_lines.ensures.done before i here))

pub returns-clause-keeps : goal.returns-clause-keeps
returns-clause-keeps c on =
    kept_lines c.args.first c.args.count c.args.pm.now c.fence.new.self (c.requires.ready (sym c.on.ensures ∙ c.if-not-on.false))
    (λ i out. settled (is_on c.clear_lines.new.power) (cell c.args.pm.now i) (cell c.clear_lines.new.pm i) (cell c.fence.new.self i) (c.clear_lines.ensures.others i out) (c.fence.ensures.fence.words i))
    (λ i here.
    let before = c.fence.ensures.steps.on_before on in
    fence_done (is_on c.clear_lines.new.power) 0 (cell c.clear_lines.new.pm i) (cell c.fence.new.self i) before (c.fence.ensures.fence.words i) (c.clear_lines.ensures.done before i here))

pub returns-then-not-on-clause-words : goal.returns-then-not-on-clause-words
returns-then-not-on-clause-words c = inl (λ i here. inl refl)

pub returns-clause-words : goal.returns-clause-words
returns-clause-words c =
    going_fence (is_on c.clear_lines.new.power) c.args.first c.args.count c.args.pm.now c.clear_lines.new.pm c.fence.new.self c.clear_lines.ensures.going c.clear_lines.ensures.done
    c.fence.ensures.fence.words
