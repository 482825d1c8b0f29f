use Rattle.std.proofs.Common.{◌≡◌, ◌++◌, drop, flat_map}
use Rattle.report_text.specs.Scripts.{call_line}
use Rattle.report_text.proofs.scripts.put_calls.Given as goal

-- the text so far, and the lines that are left
abbrev pub invariant-loop-call : goal.invariant-loop-call
invariant-loop-call l = l.text.items ++ flat_map call_line (drop l.call-index l.calls) ≡ l.fn.text.items ++ flat_map call_line l.calls
