use Rattle.std.proofs.Common.{sym, arith}
use Rattle.pm_lines.specs.pm_model.Images.{words_of}
use Rattle.k_journal.proofs.Replays.{keeps_view}
use Rattle.k_journal.proofs.recoveries.recover.Goals as goal

pub returns-clause-each_image : goal.returns-clause-each_image
returns-clause-each_image c image is =
    keeps_view c.args.geometry.now c.read_word-count.result (words_of c.args.pm.now) image (sym c.read_word-count.ensures) (omega arith)
    c.in_default.ensures (c.recover_records.ensures.each_image image is)
