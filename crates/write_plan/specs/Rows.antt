-- The rows of writes and of `truncate` by numbers.
use Rattle.std.specs.Prelude.{◌≡◌, ◌+◌, ◌==◌, ℕ, not, nat_le, nat_lt, Bool, List, [], ◌∷◌, length, Option}
use Rattle.posix_types.specs.declared.call.Mode.{Mode}
use Rattle.posix_types.specs.declared.call.Who.{Who}
use Rattle.posix_types.specs.declared.handle.Handle.{Handle}
use Rattle.posix_types.specs.declared.item.Outcome.{Outcome}
use Rattle.posix_types.specs.declared.reply.Errno.{Errno}
use Rattle.posix_types.specs.declared.reply.Reply.{Reply}
use Rattle.posix_types.specs.declared.reply.What.{What}
use Rattle.posix_tables.specs.block_counts.declared.TheConstants.{LONGEST_FILE, LONGEST_WRITE}
use Rattle.posix_tables.specs.Open.{may_write}
use Rattle.posix_tables.specs.Outcomes.{first, idle_row, row, space_row, unless}
use Rattle.posix_tables.specs.Room.{growth, write_need}
use Rattle.open_files.specs.posix_spec.FileRows.{content, truncate_rows, write_rows}
use Rattle.open_files.specs.posix_spec.State.{room, State}

-- more blocks are needed than are left
abbrev pub blocks_row_by : ℕ → ℕ → Option Outcome
blocks_row_by need left = space_row (nat_lt left need) What.Blocks need left

-- a write of so many bytes from a start on, to a file of a size
abbrev pub write_row_by : Mode → Bool → ℕ → ℕ → ℕ → ℕ → Option Outcome
write_row_by mode may start len size left =
    first (row (not may) Errno.EBADF ∷ row (nat_lt LONGEST_WRITE len) Errno.EINVAL ∷ idle_row (len == 0) (Reply.Count 0) ∷ row (nat_lt LONGEST_FILE (start + len)) Errno.EFBIG
    ∷ blocks_row_by (write_need mode size start (start + len)) left ∷ [])

-- a `truncate` to so many bytes
abbrev pub truncate_row_by : Bool → ℕ → ℕ → ℕ → Option Outcome
truncate_row_by may len size left =
    first (row (not may) Errno.EBADF ∷ row (nat_lt LONGEST_FILE len) Errno.EFBIG ∷ unless (nat_le len size) (blocks_row_by (growth size len) left) ∷ [])

-- They are the rows of the calls.
abbrev pub WritesByRow : Type 0
WritesByRow =
    (s : State) (who : Who) (h : Handle) (start : ℕ) (x : List ℕ)
    → first (write_rows s who h start x) ≡ write_row_by s.mode (may_write s.tables who h) start (length x) (length (content s who h)) (room s)

abbrev pub TruncatesByRow : Type 0
TruncatesByRow =
    (s : State) (who : Who) (h : Handle) (n : ℕ) → first (truncate_rows s who h n) ≡ truncate_row_by (may_write s.tables who h) n (length (content s who h)) (room s)
