use Rattle.std.proofs.Common.{append_assoc, rules}
use Rattle.std.proofs.lemmas.Result.{IfOk-equal}
use Rattle.report_text.specs.Texts.{data_text}
use Rattle.report_text.proofs.data.put_data.Goals as goal

pub returns : goal.returns
unfolding data_text
returns c = search (rules, IfOk-equal, append_assoc)
