use Rattle.extent_map.proofs.Between.{piece_behind, between_piece, between_skip}
use Rattle.extent_map.proofs.pieces.append_between.Goals as goal
use Rattle.extent_map.proofs.pieces.append_between.Goals.{in-Some+in_ok-append, in_default}

pub append-requires-clause-behind : goal.append-requires-clause-behind
append-requires-clause-behind c =
    piece_behind _ _ c.args.source.now _ _ _ _ c.requires.source c.loop-extent-test.true c.requires.behind c.loop-extent.invariant _ c.in-Some.ensures.piece

pub loop-extent-preserved : goal.loop-extent-preserved
loop-extent-preserved c = elim c.match-piece_between.branch [
  | in-Some+in_ok-append w ↦
      rw w.extents-is (between_piece _ _ c.args.source.now _ _ _ _ c.requires.source c.loop-extent-test.true c.requires.behind c.loop-extent.invariant _ _ w.in-Some.ensures.piece w.in_ok-append.ensures)
  | in_default w ↦
      rw w.extents-is (between_skip _ _ c.args.source.now _ _ _ _ c.requires.source c.loop-extent-test.true c.requires.behind c.loop-extent.invariant w.in_default.ensures.none)
]
