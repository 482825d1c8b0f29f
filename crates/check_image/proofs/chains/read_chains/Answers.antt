use Rattle.std.proofs.Common.{arith, sym, refl, []}
use Rattle.k_reading.specs.volume_laws.RuleLaws.{volume-of_words}
use Rattle.k_journal.specs.layout_model.Journal.{journaled}
use Rattle.k_reading.specs.image_model.Rules.{HasChain}
use Rattle.k_reading.specs.image_model.Volume.{volume}
use Rattle.k_journal.specs.pm_model.Images.{words_of}
use Rattle.k_reading.specs.volume_laws.ReadingLaws.{volume-geometry}
use Rattle.check_image.proofs.LineFacts.{count-chains, count-maps, inode-of, index-below, index-count}
use Rattle.check_image.proofs.Fronts.{front-more, front-all, front-holds, front-fails}
use Rattle.check_image.proofs.chains.read_chains.Goals as goal

pub returns-in-None-clause-bad : goal.returns-in-None-clause-bad
returns-in-None-clause-bad c =
    let g = c.args.geometry.now in
    let j = journaled (words_of c.args.pm.now) in
    let v = volume g j in
    let below = index-below g j c.args.inodes.now c.loop-ino.ino c.requires.inodes c.loop-ino-test.true in
    let bad = rw c.in-None.is at c.in_ok-found.ensures.bad in
    front-fails [] (HasChain v j) c.loop-ino.chains.items v.chains 7 c.loop-ino.ino g.inodes c.loop-ino.invariant.0 below
    (bad v c.loop-ino.ino (volume-geometry g j) (volume-of_words g j c.loop-ino.ino below) (inode-of g j c.args.inodes.now c.loop-ino.ino _ c.requires.inodes refl))

pub loop-ino-preserved : goal.loop-ino-preserved
loop-ino-preserved c =
    let g = c.args.geometry.now in
    let j = journaled (words_of c.args.pm.now) in
    let v = volume g j in
    let below = index-below g j c.args.inodes.now c.loop-ino.ino c.requires.inodes c.loop-ino-test.true in
    let found = rw c.in-Some.is at c.in_ok-found.ensures.good in
    let good = found v c.loop-ino.ino (volume-geometry g j) (volume-of_words g j c.loop-ino.ino below) (inode-of g j c.args.inodes.now c.loop-ino.ino _ c.requires.inodes refl) in (
      front-more [] (HasChain v j) c.loop-ino.chains.items v.chains _ c.loop-ino.ino c.in-Some.found.blocks.items c.loop-ino.invariant.0 (sym good.0) good.2 c.in_ok-push-in-Some.ensures.items,
      front-more [] (HasChain v j) c.loop-ino.maps.items v.maps _ c.loop-ino.ino c.in-Some.found.map c.loop-ino.invariant.1 (sym good.1) good.2 c.in_ok-push-in-Some-2.ensures.items,
    )

pub returns-clause-chains : goal.returns-clause-chains
returns-clause-chains c =
    let g = c.args.geometry.now in
    let j = journaled (words_of c.args.pm.now) in
    let v = volume g j in
    let all = index-count g j c.args.inodes.now c.requires.inodes in
    front-all [] (HasChain v j) c.loop-ino.chains.items v.chains c.loop-ino.ino c.loop-ino.invariant.0
    (omega (arith, all, count-chains g j, c.loop-ino-test.false)) (omega (arith, all, count-chains g j, c.loop-ino.auto.ino-end))

pub returns-clause-maps : goal.returns-clause-maps
returns-clause-maps c =
    let g = c.args.geometry.now in
    let j = journaled (words_of c.args.pm.now) in
    let v = volume g j in
    let all = index-count g j c.args.inodes.now c.requires.inodes in
    front-all [] (HasChain v j) c.loop-ino.maps.items v.maps c.loop-ino.ino c.loop-ino.invariant.1
    (omega (arith, all, count-maps g j, c.loop-ino-test.false)) (omega (arith, all, count-maps g j, c.loop-ino.auto.ino-end))

pub returns-clause-ok : goal.returns-clause-ok
returns-clause-ok c =
    let g = c.args.geometry.now in
    let j = journaled (words_of c.args.pm.now) in
    let v = volume g j in
    front-holds [] (HasChain v j) c.loop-ino.chains.items v.chains 7 c.loop-ino.ino g.inodes c.loop-ino.invariant.0
    (omega (arith, index-count g j c.args.inodes.now c.requires.inodes, c.loop-ino-test.false))
