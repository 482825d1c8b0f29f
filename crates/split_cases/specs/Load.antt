-- THE LOAD: scripts of so many calls for each of some threads, each on a file of its own, by one number. One generator is drawn from once
-- for each call, all calls of a thread before those of the next one.
use Rattle.std.specs.Prelude.{◌≡◌, ◌≤◌, ℕ, ◌+◌, ◌*◌, ◌/◌, ◌%◌, ◌==◌, List, [], ◌∷◌, map, nat_le, replicate, true, false, if◌then◌else◌, None}
use Rattle.std.specs.List.{range_with_len}
use Rattle.posix_types.specs.declared.call.Call.{Call}
use Rattle.posix_types.specs.declared.handle.Flags.{Flags}
use Rattle.posix_types.specs.declared.handle.Handle.{Handle}
use Rattle.posix_types.specs.Scripts.{Scripts}
use Rattle.crash_spec.specs.Orders.{draw}
use Rattle.script_text.specs.Scripts.{bad_line, scripts_of}
use Rattle.report_text.specs.Scripts.{scripts_text}

-- thread t has the handle h with its digit, and the file /f with its digit
abbrev pub load_handle : ℕ → Handle
load_handle t = record { len = 2; bytes = 104 ∷ (48 + t) ∷ replicate 6 0 }

abbrev pub load_path : ℕ → List (List ℕ)
load_path t = (102 ∷ (48 + t) ∷ []) ∷ []

-- rwc
abbrev pub load_flags : Flags
load_flags = record { read = true; write = true; append = false; create = true; exclusive = false; truncate = false }

abbrev pub load_open : ℕ → Call
load_open t = Call.Open (load_handle t) (load_path t) load_flags

-- what a draw says of a call: how many bytes, and where
abbrev pub load_length : ℕ → ℕ
load_length r = 1 + (r / 8) % 2048

abbrev pub load_offset : ℕ → ℕ
load_offset r = (r / 16384) % 65536

-- the letter of the thread, a for thread 0, so often
abbrev pub load_bytes : ℕ → ℕ → List ℕ
load_bytes t r = replicate (load_length r) (97 + t)

-- half of the calls write at the offset of the descriptor, a quarter at a place, an eighth reads there, and an eighth is an fsync
unfoldable pub load_call : ℕ → ℕ → Call
load_call t r =
    if nat_le (r % 8) 3 then Call.Write (load_handle t) (load_bytes t r)
    else if nat_le (r % 8) 5 then Call.Pwrite (load_handle t) (load_offset r) (load_bytes t r)
    else if r % 8 == 6 then Call.Pread (load_handle t) (load_offset r) (load_length r)
    else Call.Fsync (load_handle t)

abbrev pub load_seed : ℕ → ℕ → ℕ
load_seed n threads = 16 * n + threads

-- n calls by the draws from one on
abbrev pub calls_by : ℕ → ℕ → ℕ → ℕ → List Call
calls_by seed from n t = map (λ i. load_call t (draw seed (from + i))) (range_with_len 0 n)

abbrev pub load_calls : ℕ → ℕ → ℕ → List Call
load_calls n threads t = calls_by (load_seed n threads) (n * t) n t

-- THE SCRIPTS: the set-up opens the files
abbrev pub load_scripts : ℕ → ℕ → Scripts
load_scripts n threads = record { setup = map load_open (range_with_len 0 threads); threads = map (load_calls n threads) (range_with_len 0 threads) }

-- THE TEXT of them
abbrev pub load_text : ℕ → ℕ → List ℕ
load_text n threads = scripts_text (load_scripts n threads)

-- it is a script, and is read as these
pub record IsScript (n threads : ℕ) : Type 0 where
  pub same : scripts_of (load_text n threads) ≡ load_scripts n threads
  pub good : bad_line (load_text n threads) ≡ None

abbrev pub LoadsAreScripts : Type 0
LoadsAreScripts = (n threads : ℕ) → n ≤ 500 → threads ≤ 8 → IsScript n threads
