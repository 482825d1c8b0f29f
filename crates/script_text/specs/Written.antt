-- Calls that a script can have, by their parts.
use Rattle.std.specs.Prelude.{◌≡◌, ℕ, ◌-◌, ◌^◌, ◌<◌, ◌≤◌, ℤ, pos, negsuc, suc, List, length, take, replicate, true, Some, None, All, ◌++◌}
use Rattle.layout_model.specs.Spelling.{AreSpelled}
use Rattle.posix_types.specs.declared.call.Call.{Call}
use Rattle.posix_types.specs.declared.handle.Handle.{Handle}
use Rattle.posix_types.specs.Scripts.{Scripts}
use Rattle.report_text.specs.Scripts.{scripts_text}
use Rattle.report_text.specs.Texts.{call_text}
use Rattle.script_text.specs.Calls.{call_in}
use Rattle.script_text.specs.Laws.{IsWithinLimits}
use Rattle.script_text.specs.Lines.{longest_line, words_of}
use Rattle.script_text.specs.Scripts.{bad_line, longest_script, scripts_of}
use Rattle.script_text.specs.Words.{is_handle, may_open, most_data}

-- letters or digits, as many as the handle says, and zeros behind them
pub record IsWrittenHandle (handle : Handle) : Type 0 where
  pub bytes : handle.bytes ≡ take handle.len handle.bytes ++ replicate (8 - handle.len) 0
  pub count : handle.len ≡ length (take handle.len handle.bytes)
  pub letters : is_handle (take handle.len handle.bytes) ≡ true

-- bytes, not more than data may have
pub record IsWrittenData (bytes : List ℕ) : Type 0 where
  pub each : All (λ byte. byte < 256) bytes
  pub few : length bytes ≤ most_data

-- how far from 0
abbrev pub distance : ℤ → ℕ
distance (pos n) = n
distance (negsuc n) = suc n

-- each path is spelled, each handle is one, each number has 18 digits at most, and the flags may open a file
abbrev pub IsWritten : Call → Type 0
IsWritten (Call.Mkdir path) = AreSpelled path
IsWritten (Call.Rmdir path) = AreSpelled path
IsWritten (Call.Unlink path) = AreSpelled path
IsWritten (Call.Rename from to) = AreSpelled from × AreSpelled to
IsWritten (Call.Open handle path flags) = IsWrittenHandle handle × AreSpelled path × (may_open flags ≡ true)
IsWritten (Call.Close handle) = IsWrittenHandle handle
IsWritten (Call.Dup old new) = IsWrittenHandle old × IsWrittenHandle new
IsWritten (Call.Read handle count) = IsWrittenHandle handle × (count < 10 ^ 18)
IsWritten (Call.Pread handle offset count) = IsWrittenHandle handle × (offset < 10 ^ 18) × (count < 10 ^ 18)
IsWritten (Call.Write handle bytes) = IsWrittenHandle handle × IsWrittenData bytes
IsWritten (Call.Pwrite handle offset bytes) = IsWrittenHandle handle × (offset < 10 ^ 18) × IsWrittenData bytes
IsWritten (Call.Seek handle whence by) = IsWrittenHandle handle × (distance by < 10 ^ 18)
IsWritten (Call.Truncate handle length) = IsWrittenHandle handle × (length < 10 ^ 18)
IsWritten (Call.Fsync handle) = IsWrittenHandle handle
IsWritten (Call.Stat path) = AreSpelled path
IsWritten (Call.List path) = AreSpelled path

-- what such a call is printed as is read as that call
abbrev pub CallsAreReadBack : Type 0
CallsAreReadBack = (call : Call) → IsWritten call → call_in (words_of (call_text call)) ≡ Some call

-- ---- scripts that are printed, and read
-- such a call, and its line is not too long
abbrev pub IsWrittenLine : Call → Type 0
IsWrittenLine call = IsWritten call × (length (call_text call) ≤ longest_line)

-- such calls, within the limits
pub record AreWritten (scripts : Scripts) : Type 0 where
  pub setup : All IsWrittenLine scripts.setup
  pub threads : All (λ calls. All IsWrittenLine calls) scripts.threads
  pub limits : IsWithinLimits scripts
  pub short : length (scripts_text scripts) ≤ longest_script

-- what they are printed as is a script without a bad line, and is read as these
pub record IsReadBack (scripts : Scripts) : Type 0 where
  pub same : scripts_of (scripts_text scripts) ≡ scripts
  pub good : bad_line (scripts_text scripts) ≡ None

abbrev pub ScriptsAreReadBack : Type 0
ScriptsAreReadBack = (scripts : Scripts) → AreWritten scripts → IsReadBack scripts
