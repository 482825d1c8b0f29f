use Rattle.std.proofs.Common.{length, arith, rules}
use Rattle.std.proofs.lemmas.Bool.{both_ways}
use Rattle.k_reading.specs.image_model.Standing.{IsChain}
use Rattle.k_journal.specs.pm_model.Images.{words_of}
use Rattle.check_image.proofs.ChainFacts.{IsInRegion, good-of, none-of, outside-of}
use Rattle.check_image.proofs.chains.good_chain.Goals as goal
use Rattle.check_image.proofs.chains.good_chain.Goals.{else-are_data_blocks-via-then-are_data_blocks+else-are_in_data, else-are_data_blocks-via-else-are_data_blocks}

pub returns-in_default-clause-bad : goal.returns-in_default-clause-bad
returns-in_default-clause-bad c =
    none-of c.args.geometry.now (words_of c.args.pm.now) c.args.node.now (length c.args.pm.now) c.requires.size c.requires.sound
    (search rules)

pub returns-then-are_in_data-clause-good : goal.returns-then-are_in_data-clause-good
returns-then-are_in_data-clause-good c =
    let f = words_of c.args.pm.now in
    let stands : IsChain f (length c.args.pm.now) c.args.node.now.root c.args.node.now.extents c.in-Some.chain.blocks.items c.in-Some.chain.map = search rules in
    let blocks = c.are_data_blocks.ensures.0 c.if-are_data_blocks.true in
    let extents = c.are_in_data.ensures.0 c.if-are_in_data.true in
    good-of c.args.geometry.now f c.args.node.now (length c.args.pm.now) c.in-Some.chain.blocks.items c.in-Some.chain.map (omega arith) stands
    (record { sound = c.requires.sound; blocks_in = rw c.deref.ensures.value at blocks; extents_in = rw (c.extents.ensures.all, c.file_blocks_of-limit.ensures) at extents })

pub returns-else-are_data_blocks-clause-bad : goal.returns-else-are_data_blocks-clause-bad
returns-else-are_data_blocks-clause-bad c =
    let f = words_of c.args.pm.now in
    let stands : IsChain f (length c.args.pm.now) c.args.node.now.root c.args.node.now.extents c.in-Some.chain.blocks.items c.in-Some.chain.map = search rules in
    outside-of c.args.geometry.now f c.args.node.now (length c.args.pm.now) c.in-Some.chain.blocks.items c.in-Some.chain.map
    c.requires.size c.requires.sound (omega arith) stands (λ (inside : IsInRegion c.args.geometry.now f c.args.node.now c.in-Some.chain.blocks.items c.in-Some.chain.map).
    elim c.else-are_data_blocks.branch [
      | else-are_data_blocks-via-then-are_data_blocks+else-are_in_data w ↦
          let never = w.are_in_data.ensures.1 (rw (w.extents.ensures.all, c.file_blocks_of-limit.ensures) inside.extents_in) in
          both_ways w.are_in_data.result w.if-are_in_data.false never
      | else-are_data_blocks-via-else-are_data_blocks w ↦
          let never = c.are_data_blocks.ensures.1 (rw c.deref.ensures.value inside.blocks_in) in
          both_ways c.are_data_blocks.result w.if-are_data_blocks.false never
    ])
