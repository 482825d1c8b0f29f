use Rattle.std.proofs.Common.{◌≡◌, ◌+◌, ◌++◌, length, map, take, vec_capacity}
use Rattle.file_overlay.specs.Pieces.{back_of}
use Rattle.file_overlay.proofs.pieces.put_backs.Given as goal

-- the pieces so far
abbrev pub invariant-loop-piece : goal.invariant-loop-piece
invariant-loop-piece l = record {
  items : l.room.items ≡ l.fn.room.items ++ map (back_of l.block) (take l.piece-index l.pieces);
  size : length l.room.items ≡ length l.fn.room.items + l.piece-index;
  capacity : vec_capacity l.room ≡ vec_capacity l.fn.room;
}
