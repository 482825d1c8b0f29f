use Rattle.std.proofs.Common.{sym, ◌∙◌}
use Rattle.pm_model.specs.Bytes.{word_at-bytes}
use Rattle.pm_lines.proofs.images.word_in.Goals as goal

pub returns : goal.returns
returns c = c.from_le_bytes.ensures ∙ sym (word_at-bytes c.args.bytes.now c.args.index)
