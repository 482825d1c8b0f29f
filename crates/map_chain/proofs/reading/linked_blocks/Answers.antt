use Rattle.std.proofs.Common.{◌∙◌, sym, length, arith}
use Rattle.std.proofs.lemmas.Grind.{common_steps}
use Rattle.pm_lines.specs.pm_model.Images.{words_of}
use Rattle.map_chain.proofs.Links.{linked_more, linked_all, linked_at, in_device_more}
use Rattle.map_chain.proofs.reading.linked_blocks.Goals as goal

pub returns-then-from-device_blocks-clause-none : goal.returns-then-from-device_blocks-clause-none
returns-then-from-device_blocks-clause-none c in_device =
    let here = linked_at (words_of c.args.pm.now) c.args.root c.args.count c.loop-place.block c.loop-place._place c.loop-place.blocks.items c.loop-place-test.true
    c.loop-place.invariant.count c.loop-place.invariant.linked in
    absurd (omega (arith, in_device c.loop-place._place here.0, here.1))

pub next_block-block-requires-clause-home : goal.next_block-block-requires-clause-home
next_block-block-requires-clause-home c i at =
    let here = linked_at (words_of c.args.pm.now) c.args.root c.args.count c.loop-place.block c.loop-place._place c.loop-place.blocks.items c.loop-place-test.true
    c.loop-place.invariant.count c.loop-place.invariant.linked in
    c.requires.home c.loop-place._place here.0 i (at ∙ sym here.1)

pub loop-place-preserved : goal.loop-place-preserved
loop-place-preserved c =
    let w = words_of c.args.pm.now in
    record {
      count = grind (arith, common_steps);
      linked = rw (c.in_ok-push.ensures.items, c.next_block-block.ensures)
          (linked_more w c.args.root c.args.count c.loop-place.block c.loop-place._place c.loop-place.blocks.items c.loop-place-test.true c.loop-place.invariant.linked);
      in_device = rw (c.in_ok-push.ensures.items)
          (in_device_more (length c.args.pm.now) c.loop-place.block c.loop-place.blocks.items c.loop-place.invariant.in_device (omega arith));
    }

pub returns-clause-linked : goal.returns-clause-linked
returns-clause-linked c =
    linked_all (words_of c.args.pm.now) c.args.root c.args.count c.loop-place.block c.loop-place._place c.loop-place.blocks.items c.loop-place-test.false c.loop-place.invariant.linked
