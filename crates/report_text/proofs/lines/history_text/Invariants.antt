use Rattle.std.proofs.Common.{◌≡◌, ◌++◌, drop, flat_map}
use Rattle.report_text.specs.Texts.{item_text}
use Rattle.report_text.proofs.lines.history_text.Given as goal

-- the text so far, and the lines that are left
abbrev pub invariant-loop-item : goal.invariant-loop-item
invariant-loop-item l = l.text.items ++ flat_map item_text (drop l.item-index l.history) ≡ flat_map item_text l.history
