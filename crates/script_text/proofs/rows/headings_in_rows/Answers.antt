use Rattle.std.proofs.Common.{refl}
use Rattle.script_text.specs.Scripts.{begins_with_call, calls_before, first_bad, scripts_in, set_up_of, threads_of}
use Rattle.script_text.proofs.rows.headings_in_rows.Goals as goal

pub returns : goal.returns
unfolding first_bad begins_with_call scripts_in set_up_of threads_of calls_before
returns c = (refl, refl, refl, refl, refl, refl, refl, refl, refl, refl)
