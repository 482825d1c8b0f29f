use Rattle.std.proofs.Common.{◌∙◌}
use Rattle.k_journal.specs.pm_model.Images.{words_of}
use Rattle.k_journal.specs.layout_model.Journal.{journaled}
use Rattle.check_image.proofs.Views.{line_bytes-moved}
use Rattle.check_image.proofs.view.view_line.Goals as goal

pub returns : goal.returns
returns c =
    c.read_line.ensures.bytes
    ∙ line_bytes-moved (words_of c.args.pm.now) (journaled (words_of c.args.pm.now)) c.args.line c.source_of.result
    (λ i at. c.source_of.ensures.words i at (c.requires.apart i at))
