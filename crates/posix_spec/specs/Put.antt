-- What an accepted write of at least one byte puts into a file.
use Rattle.std.specs.Prelude.{ℕ, List, Option, Some, None}
use Rattle.posix_types.specs.declared.item.Outcome.{Outcome}
use Rattle.posix_types.specs.declared.call.Who.{Who}
use Rattle.posix_types.specs.declared.call.Call.{Call}
use Rattle.posix_types.specs.declared.handle.Handle.{Handle}
use Rattle.posix_spec.specs.State.{State}
use Rattle.posix_tables.specs.Outcomes.{first}
use Rattle.posix_spec.specs.FileRows.{file_number, write_rows, write_start}

-- bytes that stand in the file of a node from a place on
pub record Put : Type 0 where
  pub node : ℕ
  pub place : ℕ
  pub bytes : List ℕ

-- a put, where no row fits
abbrev pub put_unless : Option Outcome → Put → Option Put
put_unless None put = Some put
put_unless (Some outcome) put = None

abbrev pub put_at : State → Who → Handle → ℕ → List ℕ → Option Put
put_at s who h start x = put_unless (first (write_rows s who h start x)) (record { node = file_number s.tables who h; place = start; bytes = x })

-- what a call puts: nothing, unless it is a write of at least one byte that is accepted
unfoldable pub put_by : State → Who → Call → Option Put
put_by s who (Call.Write h x) = put_at s who h (write_start s who h) x
put_by s who (Call.Pwrite h o x) = put_at s who h o x
put_by s who call = None
