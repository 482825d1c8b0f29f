-- What holds of every script by the table of the words that the program runs.
use Rattle.std.specs.Prelude.{◌≡◌, ℕ, List, codes, All, true}
use Rattle.posix_types.specs.declared.call.Call.{Call}
use Rattle.posix_types.specs.Scripts.{Scripts}
use Rattle.script_text.specs.Calls.{is_known}
use Rattle.script_text.specs.Scripts.{scripts_of}

-- the first word of a call's line
abbrev pub word_of : Call → List ℕ
word_of (Call.Mkdir path) = codes "mkdir"
word_of (Call.Rmdir path) = codes "rmdir"
word_of (Call.Unlink path) = codes "unlink"
word_of (Call.Rename from to) = codes "rename"
word_of (Call.Open handle path flags) = codes "open"
word_of (Call.Close handle) = codes "close"
word_of (Call.Dup old new) = codes "dup"
word_of (Call.Read handle count) = codes "read"
word_of (Call.Pread handle offset count) = codes "pread"
word_of (Call.Write handle bytes) = codes "write"
word_of (Call.Pwrite handle offset bytes) = codes "pwrite"
word_of (Call.Seek handle whence by) = codes "seek"
word_of (Call.Truncate handle length) = codes "truncate"
word_of (Call.Fsync handle) = codes "fsync"
word_of (Call.Stat path) = codes "stat"
word_of (Call.List path) = codes "list"

abbrev pub IsKnownCall : Call → Type 0
IsKnownCall call = is_known (word_of call) ≡ true

-- the word of each call of the set-up and of the threads is in the table
pub record AreKnownCalls (scripts : Scripts) : Type 0 where
  pub setup : All IsKnownCall scripts.setup
  pub threads : All (λ calls. All IsKnownCall calls) scripts.threads

abbrev pub KnownCallsAlone : Type 0
KnownCallsAlone = (bytes : List ℕ) → AreKnownCalls (scripts_of bytes)
