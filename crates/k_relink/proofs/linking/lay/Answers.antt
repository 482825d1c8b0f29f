use Rattle.k_relink.proofs.Laid.{one_more}
use Rattle.k_relink.proofs.linking.lay.Goals as goal

pub loop-piece-preserved : goal.loop-piece-preserved
loop-piece-preserved c =
    let piece = c.requires.within c.loop-piece.piece-index _ c.loop-piece-test.true in
    record {
      canonical = c.in_ok-replace_range.ensures.canonical;
      blocks = one_more _ _ c.args.pieces.now _ _ _ _ _ c.requires.pieces c.loop-piece-test.true piece.low c.loop-piece.invariant.blocks c.in_ok-replace_range.ensures.map;
    }
