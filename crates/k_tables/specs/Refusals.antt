-- What a refusal answers, and the rows of the calls on names by the part of the tables that they ask.
use Rattle.std.specs.Prelude.{ℕ, ◌+◌, Bool, false, not, ◌&&◌, ◌==◌, nat_lt, List, [], ◌∷◌, length, Option, Some, None, unwrap_or, Result, Ok, Err}
use Rattle.posix_types.specs.declared.item.Outcome.{Outcome}
use Rattle.posix_types.specs.declared.reply.Reply.{Reply}
use Rattle.posix_types.specs.declared.reply.Errno.{Errno}
use Rattle.posix_tables.specs.NameRows.{no_line, no_node, rename_kind_rows, too_long_row, walk_row}
use Rattle.posix_tables.specs.Names.{Space, exists_at, has_entries, height, is_below, longest_path, number_at}
use Rattle.posix_tables.specs.Outcomes.{answer, first, idle_row, row}
use Rattle.std.specs.Option.{option_map_or}
use Rattle.k_tables.specs.declared.tables.refusals.Refusal.{Refusal}

-- what a refused call answers
abbrev pub outcome_of : Refusal → Outcome
outcome_of (Refusal.Errno errno) = answer (Reply.Error errno)
outcome_of (Refusal.Room room) = record { reply = Reply.Error Errno.ENOSPC; room = Some room }
outcome_of Refusal.Idle = answer Reply.Ok

-- what a call is refused by, if it is
abbrev pub refusal_of : {T : Type 0} → Result T Refusal → Option Outcome
refusal_of (Ok found) = None
refusal_of (Err refusal) = Some (outcome_of refusal)

abbrev pub errno_row : Option Errno → Option Outcome
errno_row None = None
errno_row (Some errno) = Some (answer (Reply.Error errno))

-- the directory of a path is there
abbrev pub directory_rows : Space → List (List ℕ) → List (Option Outcome)
directory_rows space path = too_long_row space path ∷ walk_row space path ∷ []

-- the path leads to a node: its directory is there, and has the name
abbrev pub standing_rows : Space → List (List ℕ) → List (Option Outcome)
standing_rows space path = walk_row space path ∷ row (not (exists_at space path)) Errno.ENOENT ∷ []

abbrev pub entry_rows : Space → List (List ℕ) → List (Option Outcome)
entry_rows space path = too_long_row space path ∷ standing_rows space path

-- an inode and a name line are left; and the name is new
abbrev pub room_rows : Space → List (List ℕ) → List (Option Outcome)
room_rows space path = no_node space ∷ no_line space path ∷ []

abbrev pub new_rows : Space → List (List ℕ) → List (Option Outcome)
new_rows space path = row (exists_at space path) Errno.EEXIST ∷ room_rows space path

-- a node is a directory without entries
abbrev pub removal_rows : Space → ℕ → List (Option Outcome)
removal_rows space node =
    row (not (space.directory node)) Errno.ENOTDIR ∷ row (has_entries space.entries node) Errno.ENOTEMPTY ∷ []

-- what stands at a path, by its node
abbrev pub is_directory_node : Space → Option ℕ → Bool
is_directory_node space node = option_map_or space.directory node false

abbrev pub is_file_node : Space → Option ℕ → Bool
is_file_node space node = option_map_or (λ n. not (space.directory n)) node false

abbrev pub has_entries_node : Space → Option ℕ → Bool
has_entries_node space node = has_entries space.entries (unwrap_or node 0)

-- the paths of a rename lead to a node and to a directory
abbrev pub ends_rows : Space → List (List ℕ) → List (List ℕ) → List (Option Outcome)
ends_rows space p q =
    too_long_row space p
    ∷ too_long_row space q
    ∷ walk_row space p
    ∷ row (not (exists_at space p)) Errno.ENOENT
    ∷ walk_row space q
    ∷ []

-- a directory may go to a path where another node stands, or none; and a file
abbrev pub directory_kind_rows : Space → List (List ℕ) → List (List ℕ) → ℕ → Option ℕ → List (Option Outcome)
directory_kind_rows space p q node target =
    row (is_below q p) Errno.EINVAL
    ∷ row (is_file_node space target) Errno.ENOTDIR
    ∷ row (is_directory_node space target && has_entries_node space target) Errno.ENOTEMPTY
    ∷ row (nat_lt longest_path (length q + height space.entries longest_path node)) Errno.ENAMETOOLONG
    ∷ []

abbrev pub file_kind_rows : Space → Option ℕ → List (Option Outcome)
file_kind_rows space target = row (is_directory_node space target) Errno.EISDIR ∷ []

-- the node at one path is not the node at the other, and may go there
abbrev pub moving_rows : Space → List (List ℕ) → List (List ℕ) → List (Option Outcome)
moving_rows space p q =
    idle_row (exists_at space q && (number_at space p == number_at space q)) Reply.Ok
    ∷ first (rename_kind_rows space p q)
    ∷ []
