use Rattle.std.proofs.Common.{sym, ◌∙◌}
use Rattle.oplog_entry.specs.pm_model.Bytes.{word_at-bytes}
use Rattle.k_check.proofs.crashes.word_in.Goals as goal

pub returns : goal.returns
returns c = c.from_le_bytes.ensures ∙ sym (word_at-bytes c.args.bytes.now c.args.index)
