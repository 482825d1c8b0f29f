use Rattle.std.proofs.Common.{◌<◌, ap, arith}
use Rattle.k_journal.specs.layout_model.Journal.{journaled}
use Rattle.k_journal.specs.layout_model.Places.{Geometry}
use Rattle.k_reading.specs.image_model.Rules.{HasInode}
use Rattle.k_reading.specs.image_model.Volume.{volume, free_inode}
use Rattle.k_journal.specs.pm_model.Images.{words_of}
use Rattle.check_image.proofs.LineFacts.{count-inodes, inode-read}
use Rattle.check_image.proofs.Fronts.{front-more, front-all}
use Rattle.check_image.proofs.lines.read_inodes.Goals as goal

pub loop-ino-preserved : goal.loop-ino-preserved
loop-ino-preserved c =
    let g = c.args.geometry.now in
    let j = journaled (words_of c.args.pm.now) in
    let below : c.loop-ino.ino < g.inodes = omega (arith, c.loop-ino-test.true, ap (λ (a : Geometry). a.inodes) c.geometry.view_is) in
    front-more free_inode (HasInode j) c.loop-ino.inodes.items (volume g j).inodes _ c.loop-ino.ino c.in-Some.inode c.loop-ino.invariant
    (inode-read g j c.loop-ino.ino c.in-Some.inode below c.in-Some.ensures.good.0) c.in-Some.ensures.good.1 c.in_ok-push-in-Some.ensures.items

pub returns-clause-inodes : goal.returns-clause-inodes
returns-clause-inodes c =
    let g = c.args.geometry.now in
    let j = journaled (words_of c.args.pm.now) in
    let inodes = ap (λ (a : Geometry). a.inodes) c.geometry.view_is in
    front-all free_inode (HasInode j) c.loop-ino.inodes.items (volume g j).inodes c.loop-ino.ino c.loop-ino.invariant
    (omega (arith, count-inodes g j, inodes, c.loop-ino-test.false)) (omega (arith, count-inodes g j, inodes, c.loop-ino.auto.ino-end))
