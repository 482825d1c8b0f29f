use Rattle.std.proofs.Common.{arith}
use Rattle.k_journal.proofs.Laid.{laid_more, laid_none, room_for_next}
use Rattle.k_journal.proofs.batches.Batch.put_entries.Goals as goal

pub loop-entry-init : goal.loop-entry-init
loop-entry-init c = laid_none _

-- a line that is new finds room
pub unreachable-requires : goal.unreachable-requires
unreachable-requires c =
    let full = c.in-Err.ensures.full in
    omega (arith, full.1, room_for_next c.args.self.now c.args.entries.now c.loop-entry.self c.loop-entry.entry-index c.requires.distinct c.loop-entry-test.true c.loop-entry.invariant full.2 c.requires.room)

pub loop-entry-preserved : goal.loop-entry-preserved
loop-entry-preserved c =
    laid_more c.args.self.now c.args.entries.now c.loop-entry.self c.put.new.self c.loop-entry.entry-index c.requires.distinct c.loop-entry-test.true c.loop-entry.invariant
    c.in-Ok.ensures.entries (λ test passes all. c.put.ensures.lines test passes all) c.in-Ok.ensures.meaning
