-- What a fault says of a script.
use Rattle.std.specs.Prelude.{◌≡◌, ℕ, List, Some}
use Rattle.script_text.specs.declared.faults.ScriptFault.{ScriptFault}
use Rattle.script_text.specs.declared.faults.ScriptFault.TheVariants.{Bad, NoMemory}
use Rattle.script_text.specs.Scripts.{bad_line}

-- the line is the first bad one; out of memory may come at any time
abbrev pub IsFault : List ℕ → ScriptFault → Type 0
IsFault bytes (Bad line) = bad_line bytes ≡ Some line
IsFault bytes NoMemory = Unit {0}
