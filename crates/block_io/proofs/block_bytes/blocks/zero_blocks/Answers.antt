use Rattle.std.proofs.Common.{◌∙◌, refl, sym}
use Rattle.pm_lines.specs.pm_model.Cells.{cell}
use Rattle.pm_lines.specs.pm_model.Images.{Follows-same}
use Rattle.pm_lines.specs.pm_model.Powers.{is_on}
use Rattle.block_io.specs.Overwrites.{SameBeside}
use Rattle.block_io.proofs.Cells.{fence_done, settled}
use Rattle.block_io.proofs.Zeroing.{kept, zeroed, zeroing}
use Rattle.block_io.proofs.block_bytes.blocks.zero_blocks.Goals as goal

pub returns-then-not-on-clause-each_image : goal.returns-then-not-on-clause-each_image
returns-then-not-on-clause-each_image c = Follows-same (SameBeside c.args.blocks.now) c.args.pm.now (λ f i out. refl)

pub returns-clause-each_image : goal.returns-clause-each_image
returns-clause-each_image c =
    zeroing c.args.blocks.now c.args.pm.now c.fence.new.self (c.requires.ready (sym c.on.ensures ∙ c.if-not-on.false)).single
    (λ i out. settled (is_on c.clear_all.new.power) (cell c.args.pm.now i) (cell c.clear_all.new.pm i) (cell c.fence.new.self i) (c.clear_all.ensures.others i out) (c.fence.ensures.fence.words i))

pub returns-clause-others : goal.returns-clause-others
returns-clause-others c i out =
    settled (is_on c.clear_all.new.power) (cell c.args.pm.now i) (cell c.clear_all.new.pm i) (cell c.fence.new.self i) (c.clear_all.ensures.others i out) (c.fence.ensures.fence.words i)

pub returns-clause-durable : goal.returns-clause-durable
returns-clause-durable c on =
    zeroed c.args.blocks.now c.args.pm.now c.fence.new.self (c.requires.ready (sym c.on.ensures ∙ c.if-not-on.false)).single
    (λ i out. settled (is_on c.clear_all.new.power) (cell c.args.pm.now i) (cell c.clear_all.new.pm i) (cell c.fence.new.self i) (c.clear_all.ensures.others i out) (c.fence.ensures.fence.words i))
    (λ k i below at.
    let before = c.fence.ensures.steps.on_before on in
    fence_done (is_on c.clear_all.new.power) 0 (cell c.clear_all.new.pm i) (cell c.fence.new.self i) before (c.fence.ensures.fence.words i) (c.clear_all.ensures.done before k i below at))

pub returns-clause-keeps : goal.returns-clause-keeps
returns-clause-keeps c on =
    kept c.args.blocks.now c.args.pm.now c.fence.new.self (c.requires.ready (sym c.on.ensures ∙ c.if-not-on.false)).single
    (λ i out. settled (is_on c.clear_all.new.power) (cell c.args.pm.now i) (cell c.clear_all.new.pm i) (cell c.fence.new.self i) (c.clear_all.ensures.others i out) (c.fence.ensures.fence.words i))
    (λ k i below at.
    let before = c.fence.ensures.steps.on_before on in
    fence_done (is_on c.clear_all.new.power) 0 (cell c.clear_all.new.pm i) (cell c.fence.new.self i) before (c.fence.ensures.fence.words i) (c.clear_all.ensures.done before k i below at))
