use Rattle.std.proofs.Common.{length, arith, rules}
use Rattle.extent_map.specs.extent_model.Counts.{length-le}
use Rattle.pm_lines.specs.pm_model.Images.{words_of}
use Rattle.volume_laws.specs.ChainLaws.{chain-map, chain-distinct, has_one_chain}
use Rattle.volume_laws.specs.image_model.Standing.{IsChain}
use Rattle.map_chain.proofs.reading.read.Goals as goal

pub returns-then-extents-gt-FILE_BLOCKS-clause-none : goal.returns-then-extents-gt-FILE_BLOCKS-clause-none
returns-then-extents-gt-FILE_BLOCKS-clause-none c blocks es chain = absurd (omega (arith, chain.map.counted, length-le es chain.map.canonical))

pub returns-clause-map : goal.returns-clause-map
returns-clause-map c =
    let chain : IsChain (words_of c.args.pm.now) (length c.args.pm.now) c.args.root c.args.extents c.in-Some.blocks.items c.in-Some-2.map = search rules in
    chain-map (words_of c.args.pm.now) (length c.args.pm.now) c.args.root c.args.extents c.in-Some.blocks.items c.in-Some-2.map (omega arith) chain

pub returns-clause-distinct : goal.returns-clause-distinct
returns-clause-distinct c =
    let chain : IsChain (words_of c.args.pm.now) (length c.args.pm.now) c.args.root c.args.extents c.in-Some.blocks.items c.in-Some-2.map = search rules in
    chain-distinct (words_of c.args.pm.now) (length c.args.pm.now) c.args.root c.args.extents c.in-Some.blocks.items c.in-Some-2.map chain

pub returns-then-extents-gt-FILE_BLOCKS-clause-found : goal.returns-then-extents-gt-FILE_BLOCKS-clause-found
returns-then-extents-gt-FILE_BLOCKS-clause-found c blocks es chain = absurd (omega (arith, chain.map.counted, length-le es chain.map.canonical))

pub returns-clause-found : goal.returns-clause-found
returns-clause-found c blocks es other =
    let chain : IsChain (words_of c.args.pm.now) (length c.args.pm.now) c.args.root c.args.extents c.in-Some.blocks.items c.in-Some-2.map = search rules in
    has_one_chain (words_of c.args.pm.now) (length c.args.pm.now) c.args.root c.args.extents blocks c.in-Some.blocks.items es c.in-Some-2.map (omega arith) other chain
