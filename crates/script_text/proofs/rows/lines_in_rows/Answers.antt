use Rattle.std.proofs.Common.{refl}
use Rattle.report_text.specs.Texts.{flags_text}
use Rattle.script_text.specs.Calls.{call_in}
use Rattle.script_text.specs.Lines.{first_word, lines_of, without_return, words_from}
use Rattle.script_text.specs.Scripts.{bad_line, begins_with_call, calls_before, first_bad, scripts_in, set_up_of, text_kind, threads_of}
use Rattle.script_text.specs.Words.{flags_in, handle_in, parts_by, path_in}
use Rattle.script_text.proofs.rows.lines_in_rows.Goals as goal

pub returns : goal.returns
unfolding bad_line first_bad lines_of without_return text_kind words_from first_word call_in path_in parts_by handle_in flags_in flags_text begins_with_call scripts_in set_up_of threads_of calls_before
returns c = (refl, refl, refl, refl, refl, refl, refl, refl, refl, refl, refl, refl, refl, refl, refl)
