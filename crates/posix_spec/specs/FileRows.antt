-- The rows of the calls that take a handle, in the order in which they are tried.
use Rattle.std.specs.Prelude.{ℕ, ◌+◌, Bool, false, not, ◌==◌, nat_lt, nat_le, List, [], ◌∷◌, length, Option, is_none, ℤ, if◌then◌else◌}
use Rattle.std.specs.Option.{option_map_or}
use Rattle.posix_types.specs.declared.item.Outcome.{Outcome}
use Rattle.posix_types.specs.declared.call.Who.{Who}
use Rattle.posix_types.specs.declared.handle.Handle.{Handle}
use Rattle.posix_types.specs.declared.handle.Whence.{Whence}
use Rattle.posix_types.specs.declared.reply.Reply.{Reply}
use Rattle.posix_types.specs.declared.reply.Errno.{Errno}
use Rattle.posix_types.specs.declared.reply.What.{What}
use Rattle.posix_tables.specs.Room.{growth, write_need}
use Rattle.posix_tables.specs.Open.{is_full, may_read, may_write, opened, Tables}
use Rattle.posix_tables.specs.Nodes.{bytes_of, node_at}
use Rattle.posix_spec.specs.State.{room, State}
use Rattle.posix_tables.specs.Outcomes.{idle_row, row, space_row, unless}
use Rattle.posix_tables.specs.block_counts.declared.TheConstants.{LONGEST_FILE, LONGEST_WRITE}
use Rattle.posix_tables.specs.Bytes.{moved_place}

-- The file that a handle stands for: its number, its bytes, the offset. Of an unknown handle nobody asks.
abbrev pub file_number : Tables → Who → Handle → ℕ
file_number t who handle = option_map_or (λ description. description.node) (opened t who handle) 0

abbrev pub offset_of : Tables → Who → Handle → ℕ
offset_of t who handle = option_map_or (λ description. description.offset) (opened t who handle) 0

abbrev pub appends : Tables → Who → Handle → Bool
appends t who handle = option_map_or (λ description. description.flags.append) (opened t who handle) false

abbrev pub content : State → Who → Handle → List ℕ
content s who handle = bytes_of (node_at s.nodes (file_number s.tables who handle))

-- where a write begins: at the end where the file was opened with `a`, else at the offset
abbrev pub write_start : State → Who → Handle → ℕ
write_start s who handle = if appends s.tables who handle then length (content s who handle) else offset_of s.tables who handle

-- the handle is unknown
abbrev pub unknown_row : Tables → Who → Handle → Option Outcome
unknown_row t who handle = row (is_none (opened t who handle)) Errno.EBADF

-- more blocks are needed than are left
abbrev pub no_blocks : State → ℕ → Option Outcome
no_blocks s need = space_row (nat_lt (room s) need) What.Blocks need (room s)

abbrev pub close_rows : Tables → Who → Handle → List (Option Outcome)
close_rows t who h = unknown_row t who h ∷ []

unfoldable pub dup_rows : Tables → Who → Handle → List (Option Outcome)
dup_rows t who h =
    unknown_row t who h
    ∷ row (is_full t) Errno.EMFILE
    ∷ []

-- of `read` and `pread`
abbrev pub read_rows : Tables → Who → Handle → List (Option Outcome)
read_rows t who h = row (not (may_read t who h)) Errno.EBADF ∷ []

-- of `write` and `pwrite`, which begin at a start
unfoldable pub write_rows : State → Who → Handle → ℕ → List ℕ → List (Option Outcome)
write_rows s who h start x =
    row (not (may_write s.tables who h)) Errno.EBADF
    ∷ row (nat_lt LONGEST_WRITE (length x)) Errno.EINVAL
    ∷ idle_row (length x == 0) (Reply.Count 0)
    ∷ row (nat_lt LONGEST_FILE (start + length x)) Errno.EFBIG
    ∷ no_blocks s (write_need s.mode (length (content s who h)) start (start + length x))
    ∷ []

-- what a seek counts from
abbrev pub seek_base : State → Who → Handle → Whence → ℕ
seek_base s who h Whence.Set = 0
seek_base s who h Whence.Cur = offset_of s.tables who h
seek_base s who h Whence.End = length (content s who h)

-- where a seek leads, if it may lead there
abbrev pub seek_target : State → Who → Handle → Whence → ℤ → Option ℕ
seek_target s who h w i = moved_place (seek_base s who h w) i

unfoldable pub seek_rows : State → Who → Handle → Whence → ℤ → List (Option Outcome)
seek_rows s who h w i =
    unknown_row s.tables who h
    ∷ row (is_none (seek_target s who h w i)) Errno.EINVAL
    ∷ []

unfoldable pub truncate_rows : State → Who → Handle → ℕ → List (Option Outcome)
truncate_rows s who h n =
    row (not (may_write s.tables who h)) Errno.EBADF
    ∷ row (nat_lt LONGEST_FILE n) Errno.EFBIG
    ∷ unless (nat_le n (length (content s who h))) (no_blocks s (growth (length (content s who h)) n))
    ∷ []

abbrev pub fsync_rows : Tables → Who → Handle → List (Option Outcome)
fsync_rows t who h = unknown_row t who h ∷ []
