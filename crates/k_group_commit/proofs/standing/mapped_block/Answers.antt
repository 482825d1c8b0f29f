use Rattle.std.proofs.Common.{arith, length, sym}
use Rattle.pm_lines.specs.pm_model.Images.{words_of}
use Rattle.k_group_commit.specs.StandingLaws.{at-home, at-in_device, disk-fits, walk-begins, walk-ends, walk-finds, walk-goes, walk-misses}
use Rattle.k_group_commit.proofs.standing.mapped_block.Goals as goal

pub loop-k-init : goal.loop-k-init
loop-k-init c = walk-begins (words_of c.args.pm.now) (length c.args.pm.now) c.args.root c.args.count c.args.block

pub listed_extent-extent-requires-clause-in_device : goal.listed_extent-extent-requires-clause-in_device
listed_extent-extent-requires-clause-in_device c =
    let ch = c.requires.chain in at-in_device (words_of c.args.pm.now) (length c.args.pm.now) c.args.root c.args.count c.args.block c.loop-k.k c.loop-k.at c.loop-k.invariant c.loop-k-test.true ch.0 ch.1 ch.2

pub listed_extent-extent-requires-clause-home : goal.listed_extent-extent-requires-clause-home
listed_extent-extent-requires-clause-home c =
    let ch = c.requires.chain in at-home (words_of c.args.pm.now) (length c.args.pm.now) c.args.root c.args.count c.args.block c.loop-k.k c.loop-k.at c.loop-k.invariant c.loop-k-test.true ch.0 ch.1 ch.2 c.args.pm.now ch.3

pub disk_of-requires : goal.disk_of-requires
disk_of-requires c =
    let ch = c.requires.chain in record { fits = disk-fits (words_of c.args.pm.now) (length c.args.pm.now) c.args.root c.args.count c.args.block c.loop-k.k c.loop-k.at c.loop-k.invariant c.loop-k-test.true ch.0 ch.1 ch.2 c.listed_extent-extent.result c.listed_extent-extent.ensures.file c.listed_extent-extent.ensures.disk c.listed_extent-extent.ensures.count }

pub returns-in-Some : goal.returns-in-Some
returns-in-Some c blocks es chain =
    walk-finds (words_of c.args.pm.now) (length c.args.pm.now) c.args.root c.args.count c.args.block c.loop-k.k c.loop-k.at c.loop-k.invariant c.loop-k-test.true blocks es chain c.listed_extent-extent.result c.listed_extent-extent.ensures.file c.listed_extent-extent.ensures.disk c.listed_extent-extent.ensures.count c.disk_of.result c.in-Some.disk c.disk_of.ensures.some c.disk_of.ensures.none c.in-Some.is

pub block_of_next-at-requires-clause-in_device : goal.block_of_next-at-requires-clause-in_device
block_of_next-at-requires-clause-in_device c =
    let ch = c.requires.chain in at-in_device (words_of c.args.pm.now) (length c.args.pm.now) c.args.root c.args.count c.args.block c.loop-k.k c.loop-k.at c.loop-k.invariant c.loop-k-test.true ch.0 ch.1 ch.2

pub block_of_next-at-requires-clause-home : goal.block_of_next-at-requires-clause-home
block_of_next-at-requires-clause-home c =
    let ch = c.requires.chain in at-home (words_of c.args.pm.now) (length c.args.pm.now) c.args.root c.args.count c.args.block c.loop-k.k c.loop-k.at c.loop-k.invariant c.loop-k-test.true ch.0 ch.1 ch.2 c.args.pm.now ch.3

pub loop-k-preserved : goal.loop-k-preserved
loop-k-preserved c =
    walk-goes (words_of c.args.pm.now) (length c.args.pm.now) c.args.root c.args.count c.args.block c.loop-k.k c.loop-k.at c.loop-k.invariant c.loop-k-test.true c.block_of_next-at.result c.block_of_next-at.ensures.moves c.block_of_next-at.ensures.stays
    (λ blocks es chain. walk-misses (words_of c.args.pm.now) (length c.args.pm.now) c.args.root c.args.count c.args.block c.loop-k.k c.loop-k.at c.loop-k.invariant c.loop-k-test.true blocks es chain c.listed_extent-extent.result c.listed_extent-extent.ensures.file c.listed_extent-extent.ensures.disk c.listed_extent-extent.ensures.count c.disk_of.result c.disk_of.ensures.some c.in-None.is)

pub returns : goal.returns
returns c blocks es chain =
    sym (walk-ends (words_of c.args.pm.now) (length c.args.pm.now) c.args.root c.args.count c.args.block c.loop-k.k c.loop-k.at blocks es c.loop-k.invariant (omega arith) chain)
