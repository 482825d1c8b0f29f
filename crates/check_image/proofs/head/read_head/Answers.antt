use Rattle.std.proofs.Common.{◌*◌, length, subst, refl, rules}
use Rattle.k_journal.specs.pm_model.Images.{words_of}
use Rattle.check_image.specs.Heads.{IsSuperKept}
use Rattle.check_image.proofs.Heads.{super-kept, super-numbers}
use Rattle.check_image.proofs.head.read_head.Goals as goal

pub returns-in-Ok-clause-ok : goal.returns-in-Ok-clause-ok
returns-in-Ok-clause-ok c =
    subst IsSuperKept c.read_line.ensures.bytes (super-kept c.read_line.result (c.in-Ok.ensures.ok.0 refl))

pub returns-in-Err-Numbers-clause-bad : goal.returns-in-Err-Numbers-clause-bad
returns-in-Err-Numbers-clause-bad c =
    super-numbers (8 * length c.args.pm.now) (words_of c.args.pm.now) c.read_line.result c.read_line.ensures.bytes
    (c.in-Err-Numbers.ensures.numbers.0 (search rules))
