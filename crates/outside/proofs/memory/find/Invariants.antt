use Rattle.std.proofs.Common.{◌≡◌, drop}
use Rattle.outside.specs.Outside.{bytes_named}
use Rattle.outside.specs.Memory.{shown}
use Rattle.outside.proofs.memory.find.Given as goal

-- the name is not among the files passed
abbrev pub invariant-loop-file : goal.invariant-loop-file
invariant-loop-file l = bytes_named (shown (drop l.file-index l.files)) l.name ≡ bytes_named (shown l.files) l.name
