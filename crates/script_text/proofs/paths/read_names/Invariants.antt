use Rattle.std.proofs.Common.{◌≡◌, ◌++◌, true, length}
use Rattle.std.specs.List.{list_all}
use Rattle.layout_model.specs.Spelling.{is_spelled}
use Rattle.script_text.specs.Words.{parts_by}
use Rattle.script_text.proofs.paths.read_names.Given as goal

-- the names so far are the first parts, and spelled
abbrev pub invariant-loop-rest : goal.invariant-loop-rest
invariant-loop-rest l =
    record { parts : parts_by 47 l.text ≡ l.names.items ++ parts_by 47 l.rest; spelled : list_all is_spelled l.names.items ≡ true }

abbrev pub decreases-loop-rest : goal.decreases-loop-rest
decreases-loop-rest l = length l.rest
