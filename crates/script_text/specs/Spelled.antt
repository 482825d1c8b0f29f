-- Calls whose paths are spelled as paths are.
use Rattle.std.specs.Prelude.{All}
use Rattle.layout_model.specs.Spelling.{AreSpelled}
use Rattle.posix_types.specs.declared.call.Call.{Call}
use Rattle.posix_types.specs.Scripts.{Scripts}

-- each path of the call is spelled
abbrev pub IsSpelledCall : Call → Type 0
IsSpelledCall (Call.Mkdir path) = AreSpelled path
IsSpelledCall (Call.Rmdir path) = AreSpelled path
IsSpelledCall (Call.Unlink path) = AreSpelled path
IsSpelledCall (Call.Rename from to) = AreSpelled from × AreSpelled to
IsSpelledCall (Call.Open handle path flags) = AreSpelled path
IsSpelledCall (Call.Close handle) = Unit {0}
IsSpelledCall (Call.Dup old new) = Unit {0}
IsSpelledCall (Call.Read handle count) = Unit {0}
IsSpelledCall (Call.Pread handle offset count) = Unit {0}
IsSpelledCall (Call.Write handle bytes) = Unit {0}
IsSpelledCall (Call.Pwrite handle offset bytes) = Unit {0}
IsSpelledCall (Call.Seek handle whence by) = Unit {0}
IsSpelledCall (Call.Truncate handle length) = Unit {0}
IsSpelledCall (Call.Fsync handle) = Unit {0}
IsSpelledCall (Call.Stat path) = AreSpelled path
IsSpelledCall (Call.List path) = AreSpelled path

-- all calls of the set-up and of the threads
pub record AreSpelledCalls (scripts : Scripts) : Type 0 where
  pub setup : All IsSpelledCall scripts.setup
  pub threads : All (λ calls. All IsSpelledCall calls) scripts.threads
