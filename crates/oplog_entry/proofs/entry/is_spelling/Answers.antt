use Rattle.std.proofs.Common.{◌∙◌, ap}
use Rattle.layout_model.specs.Fields.{is_same}
use Rattle.oplog_entry.proofs.entry.is_spelling.Goals as goal

pub returns : goal.returns
returns c = c.eq.ensures ∙ ap (is_same c.args.bytes.now) c.encode.ensures
