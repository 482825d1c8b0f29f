use Rattle.std.proofs.Common.{◌≡◌, ◌++◌, drop, flat_map}
use Rattle.report_text.specs.Scripts.{thread_text}
use Rattle.report_text.proofs.scripts.put_threads.Given as goal

-- the text so far, and the scripts that are left
abbrev pub invariant-loop-calls : goal.invariant-loop-calls
invariant-loop-calls l = l.text.items ++ flat_map thread_text (drop l.calls-index l.threads) ≡ l.fn.text.items ++ flat_map thread_text l.threads
