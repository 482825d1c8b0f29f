use Rattle.std.proofs.Common.{sym, ◌∙◌, ◌∷◌, [], ◌++◌, arith}
use Rattle.std.proofs.lemmas.List.FromFn.{map-range_with_len_more}
use Rattle.k_inodes.specs.image_layout.pm_model.Images.{words_of}
use Rattle.map_chain.specs.image_model.Volume.{inode_or_free}
use Rattle.k_reading.proofs.lines.read_inodes.Goals as goal

pub loop-ino-preserved : goal.loop-ino-preserved
loop-ino-preserved c =
    let read = inode_or_free (words_of c.args.pm.now) in
    c.in_ok-push.ensures.items
    ∙ (λ i. c.loop-ino.invariant i ++ c.read_inode.ensures i ∷ [])
    ∙ sym (map-range_with_len_more read 0 c.loop-ino.ino c.loop-ino.ino (omega arith))
