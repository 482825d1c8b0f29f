use Rattle.std.proofs.Common.{◌-◌, arith, length-drop, length-take}
use Rattle.std.specs.Prelude.{drop}
use Rattle.block_io.proofs.block_bytes.ranges.store_block.Goals as goal

pub store_piece-requires-clause-some : goal.store_piece-requires-clause-some
store_piece-requires-clause-some c =
    let from = c.max-from.result - c.args.first in
    omega (
      arith,
      length-take (c.min-to.result - c.args.first - from) (drop from c.args.bytes.now),
      length-drop from c.args.bytes.now,
      c.max-from.ensures,
      c.min-to.ensures,
      c.requires.some,
      c.requires.reached.0,
      c.requires.reached.1,
    )
