use Rattle.std.proofs.Common.{◌*◌, length}
use Rattle.k_journal.specs.pm_model.Images.{words_of}
use Rattle.check_image.proofs.Heads.{head-kept}
use Rattle.check_image.proofs.head.check_head.Goals as goal

pub returns-clause-ok : goal.returns-clause-ok
returns-clause-ok c =
    head-kept (8 * length c.args.pm.now) (words_of c.args.pm.now) (rw c.words-words.ensures at (c.has_whole_blocks.ensures.0 c.if-not-has_whole_blocks.false))
    c.in_ok-geometry.ensures.magic c.in_ok-geometry.ensures.version c.in_ok-geometry.ensures.numbers
    (rw c.in_ok-geometry.ensures.geometry at c.in_ok-check_journal.ensures.ok)
