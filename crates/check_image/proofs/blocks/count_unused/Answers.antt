use Rattle.std.proofs.Common.{◌∙◌}
use Rattle.check_image.proofs.UseFacts.{marks-unused}
use Rattle.check_image.proofs.blocks.count_unused.Goals as goal

pub returns : goal.returns
returns c v are = c.count_free.ensures ∙ marks-unused v c.args.marks.now are
