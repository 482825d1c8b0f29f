use Rattle.std.proofs.Common.{◌≡◌, ◌++◌, drop, flat_map}
use Rattle.report_text.specs.Texts.{entry_text}
use Rattle.report_text.proofs.lines.entry_lines.Given as goal

-- the text so far, and the lines that are left
abbrev pub invariant-loop-entry : goal.invariant-loop-entry
invariant-loop-entry l = l.text.items ++ flat_map entry_text (drop l.entry-index l.entries) ≡ flat_map entry_text l.entries
