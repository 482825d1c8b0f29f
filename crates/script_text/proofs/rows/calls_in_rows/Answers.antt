use Rattle.std.proofs.Common.{refl}
use Rattle.report_text.specs.Texts.{flags_text}
use Rattle.script_text.specs.Calls.{call_in}
use Rattle.script_text.specs.Lines.{first_word, words_from}
use Rattle.script_text.specs.Words.{flags_in, handle_in, number_in, parts_by, path_in, signed_in, whence_in}
use Rattle.script_text.proofs.rows.calls_in_rows.Goals as goal

pub returns : goal.returns
unfolding words_from first_word call_in path_in parts_by handle_in flags_in flags_text whence_in signed_in number_in
returns c = (refl, refl, refl, refl, refl, refl, refl, refl)
