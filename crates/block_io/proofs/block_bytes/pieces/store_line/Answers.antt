use Rattle.std.proofs.Common.{arith}
use Rattle.pm_lines.specs.pm_model.Cells.{cell, newest}
use Rattle.pm_lines.specs.pm_model.Images.{words_of}
use Rattle.pm_lines.specs.pm_model.Powers.{is_on}
use Rattle.block_io.specs.Puts.{with_bytes}
use Rattle.block_io.proofs.Cells.{either_after}
use Rattle.block_io.proofs.block_bytes.pieces.store_line.Goals as goal

pub returns-clause-each : goal.returns-clause-each
returns-clause-each c i at =
    either_after (newest (cell c.args.pm.now i)) (with_bytes c.args.place c.args.bytes.now (words_of c.args.pm.now) i) (is_on c.loop-k.power) (cell c.loop-k.pm i) (cell c.flush.new.self i)
    (c.flush.ensures.flush.words i at) (c.loop-k.invariant.each i at (omega arith))
