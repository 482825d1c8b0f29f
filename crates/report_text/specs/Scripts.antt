-- What scripts are printed as: `setup` and the calls of the set-up, then for each thread `thread` and its calls, each on a line of its own.
use Rattle.std.specs.Prelude.{ℕ, List, ◌++◌, codes, flat_map}
use Rattle.posix_types.specs.declared.call.Call.{Call}
use Rattle.posix_types.specs.Scripts.{Scripts}
use Rattle.report_text.specs.Texts.{call_text}

abbrev pub call_line : Call → List ℕ
call_line call = call_text call ++ codes "\n"

abbrev pub calls_text : List Call → List ℕ
calls_text calls = flat_map call_line calls

abbrev pub thread_text : List Call → List ℕ
thread_text calls = codes "thread\n" ++ calls_text calls

unfoldable pub scripts_text : Scripts → List ℕ
scripts_text scripts = codes "setup\n" ++ calls_text scripts.setup ++ flat_map thread_text scripts.threads
