use Rattle.std.proofs.Common.{◌≡◌, true, refl, arith, rules}
use Rattle.pm_lines.specs.pm_model.Images.{Follows-same}
use Rattle.pm_lines.specs.pm_model.Powers.{is_on}
use Rattle.volume_laws.specs.image_model.Standing.{FitHalves}
use Rattle.map_chain.specs.Writes.{MayWrite, SameOutside}
use Rattle.map_chain.proofs.Frames.{follows, keeps, written}
use Rattle.map_chain.proofs.writing.write.Goals as goal

pub returns-then-not-on-clause-each_image : goal.returns-then-not-on-clause-each_image
returns-then-not-on-clause-each_image c = Follows-same (SameOutside c.args.blocks.now) c.args.pm.now (λ f i out. refl)

pub returns-clause-each_image : goal.returns-clause-each_image
returns-clause-each_image c =
    let on : is_on c.args.power.now ≡ true = search rules in
    follows c.args.blocks.now c.args.pm.now c.write_blocks.new.pm (c.requires.ready on).single c.write_blocks.ensures.others

pub returns-clause-durable : goal.returns-clause-durable
returns-clause-durable c on =
    let may : MayWrite c.args.map.now c.args.blocks.now c.args.pm.now = c.requires.ready (c.write_blocks.ensures.steps.on_before on) in
    let small : FitHalves c.args.blocks.now = λ k. omega (arith, c.type_inv.blocks k) in
    written c.args.blocks.now c.args.map.now c.args.pm.now c.write_blocks.new.pm may small c.extents.ensures.canonical c.write_blocks.ensures.others
    (rw c.extents.ensures.all at (c.write_blocks.ensures.done on))

pub returns-clause-keeps : goal.returns-clause-keeps
returns-clause-keeps c on =
    keeps c.args.blocks.now c.extents.result.now c.args.pm.now c.write_blocks.new.pm (c.write_blocks.ensures.done on) c.write_blocks.ensures.others
