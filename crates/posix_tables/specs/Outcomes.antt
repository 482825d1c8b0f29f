-- Outcomes of calls, and lists of rows of which the first that fits gives the outcome.
use Rattle.std.specs.Prelude.{ℕ, Bool, List, [], ◌∷◌, Option, Some, None, if◌then◌else◌}
use Rattle.std.specs.Option.{option_or}
use Rattle.posix_types.specs.declared.item.Outcome.{Outcome}
use Rattle.posix_types.specs.declared.reply.Reply.{Reply}
use Rattle.posix_types.specs.declared.reply.Errno.{Errno}
use Rattle.posix_types.specs.declared.reply.What.{What}

-- a reply without a word on room
abbrev pub answer : Reply → Outcome
answer reply = record { reply = reply; room = None }

-- ENOSPC, with what was used up, what the call needed and what was left
abbrev pub no_space : What → ℕ → ℕ → Outcome
no_space what need room = record { reply = Reply.Error Errno.ENOSPC; room = Some (record { what = what; need = need; room = room }) }

-- A row: where it fits, the call answers this and changes nothing.
abbrev pub row : Bool → Errno → Option Outcome
row fits errno = if fits then Some (answer (Reply.Error errno)) else None

-- the same with a reply that is no error
abbrev pub idle_row : Bool → Reply → Option Outcome
idle_row fits reply = if fits then Some (answer reply) else None

-- the same with ENOSPC
abbrev pub space_row : Bool → What → ℕ → ℕ → Option Outcome
space_row fits what need room = if fits then Some (no_space what need room) else None

-- a row that is left out where the test holds
abbrev pub unless : Bool → Option Outcome → Option Outcome
unless left_out o = if left_out then None else o

-- the first row that fits
abbrev pub first : List (Option Outcome) → Option Outcome
first [] = None
first (o ∷ rows) = option_or o (first rows)
