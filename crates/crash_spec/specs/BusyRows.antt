-- Worked rows, one a call: who waits while a write of another caller is out, and which writes are logged.
use Rattle.std.specs.Prelude.{◌≡◌, ℕ, Bool, true, false, [], ◌∷◌, replicate, pos}
use Rattle.posix_laws.specs.posix_types.declared.call.Call.{Call}
use Rattle.posix_laws.specs.posix_types.declared.call.Mode.{Mode}
use Rattle.posix_laws.specs.posix_types.declared.call.Who.{Who}
use Rattle.posix_laws.specs.posix_types.declared.handle.Flags.{Flags}
use Rattle.posix_laws.specs.posix_types.declared.handle.Whence.{Whence}
use Rattle.posix_laws.specs.posix_spec.Run.{after_calls}
use Rattle.posix_laws.specs.posix_spec.State.{State}
use Rattle.posix_laws.specs.posix_spec.Tree.{default_shape, root_alone, start}
use Rattle.crash_spec.specs.Busy.{is_busy, is_logged}
use Rattle.crash_spec.specs.ScheduleRows.{handle, opens, path, writing}

-- The set-up opened x on /x, which has two bytes, and y on /y, which has none.
abbrev pub two_files : Mode → State
two_files mode =
    after_calls (start root_alone default_shape mode)
    ((Who.Setup, opens 120) ∷ (Who.Setup, Call.Write (handle 120) (97 ∷ 97 ∷ [])) ∷ (Who.Setup, opens 121) ∷ [])

-- whether a caller's call waits while a write of thread 0 to /x is out
abbrev pub waits : ℕ → Call → Bool
waits n call = is_busy (two_files Mode.Strict) ((Who.Thread 0, 1) ∷ []) (Who.Thread n, call)

abbrev pub cutting : Flags
cutting = record writing { truncate = true }

pub record WhoWaits : Type 0 where
  pub mkdir : waits 1 (Call.Mkdir (path 120)) ≡ false
  pub rmdir : waits 1 (Call.Rmdir (path 120)) ≡ false
  pub unlink : waits 1 (Call.Unlink (path 120)) ≡ false
  pub rename : waits 1 (Call.Rename (path 120) (path 121)) ≡ false
  pub open_that_keeps : waits 1 (Call.Open (handle 97) (path 120) writing) ≡ false
  pub open_that_cuts : waits 1 (Call.Open (handle 97) (path 120) cutting) ≡ true
  -- also where it would be refused
  pub refused_open_that_cuts : waits 1 (Call.Open (handle 97) (path 120) (record cutting { exclusive = true })) ≡ true
  pub close : waits 1 (Call.Close (handle 120)) ≡ true
  pub dup : waits 1 (Call.Dup (handle 120) (handle 97)) ≡ true
  pub read : waits 1 (Call.Read (handle 120) 1) ≡ true
  pub pread : waits 1 (Call.Pread (handle 120) 0 1) ≡ true
  pub write : waits 1 (Call.Write (handle 120) (97 ∷ [])) ≡ true
  pub pwrite : waits 1 (Call.Pwrite (handle 120) 0 (97 ∷ [])) ≡ true
  pub seek : waits 1 (Call.Seek (handle 120) Whence.Set (pos 0)) ≡ true
  pub truncate : waits 1 (Call.Truncate (handle 120) 0) ≡ true
  pub fsync : waits 1 (Call.Fsync (handle 120)) ≡ true
  pub stat : waits 1 (Call.Stat (path 120)) ≡ true
  pub list : waits 1 (Call.List []) ≡ false
  -- another file, no file, a path that is too long, and the writer itself
  pub other_file : waits 1 (Call.Read (handle 121) 1) ≡ false
  pub other_path : waits 1 (Call.Stat (path 121)) ≡ false
  pub unknown_handle : waits 1 (Call.Read (handle 97) 1) ≡ false
  pub long_path : waits 1 (Call.Stat (replicate 17 (120 ∷ []))) ≡ false
  pub its_own : waits 0 (Call.Read (handle 120) 1) ≡ false

-- whether a call of thread 1 is logged
abbrev pub logged : Mode → Call → Bool
logged mode call = is_logged (two_files mode) (Who.Thread 1, call)

pub record WhatIsLogged : Type 0 where
  pub strict_overwrite : logged Mode.Strict (Call.Pwrite (handle 120) 0 (98 ∷ 98 ∷ [])) ≡ true
  pub strict_append : logged Mode.Strict (Call.Pwrite (handle 120) 1 (98 ∷ 98 ∷ [])) ≡ true
  pub sync_overwrite : logged Mode.Sync (Call.Pwrite (handle 120) 0 (98 ∷ 98 ∷ [])) ≡ false
  pub sync_append : logged Mode.Sync (Call.Pwrite (handle 120) 1 (98 ∷ 98 ∷ [])) ≡ true
  pub posix_append : logged Mode.Posix (Call.Pwrite (handle 120) 1 (98 ∷ 98 ∷ [])) ≡ false
  pub nothing_written : logged Mode.Strict (Call.Pwrite (handle 120) 9 []) ≡ false
  pub refused : logged Mode.Strict (Call.Pwrite (handle 97) 0 (98 ∷ [])) ≡ false
  pub truncate : logged Mode.Strict (Call.Truncate (handle 120) 9) ≡ false
