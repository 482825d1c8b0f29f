-- The rows of the calls that take a path, in the order in which they are tried. They look at a `Space` alone, so that every
-- file system refuses by the same rows.
use Rattle.std.specs.Prelude.{ℕ, ◌+◌, Bool, not, ◌&&◌, ◌||◌, ◌==◌, nat_lt, List, [], ◌∷◌, length, Option, Some, None, Result, Ok, Err}
use Rattle.posix_types.specs.declared.item.Outcome.{Outcome}
use Rattle.posix_types.specs.declared.reply.Reply.{Reply}
use Rattle.posix_types.specs.declared.reply.Errno.{Errno}
use Rattle.posix_types.specs.declared.reply.What.{What}
use Rattle.posix_types.specs.declared.handle.Flags.{Flags}
use Rattle.posix_tables.specs.Names.{directory_stands, exists_at, file_stands, has_entries, height, is_below, is_root, last_name, lines_taken, longest_path, number_at, Space, too_long, walk}
use Rattle.posix_tables.specs.Outcomes.{answer, first, idle_row, row, space_row, unless}

-- a name that is too long, or too many names
abbrev pub too_long_row : Space → List (List ℕ) → Option Outcome
too_long_row space path = row (too_long space.longest path) Errno.ENAMETOOLONG

-- why the walk of a path leads to no directory
abbrev pub walk_row : Space → List (List ℕ) → Option Outcome
walk_row space path = refusal (walk space path) where
  refusal : Result ℕ Errno → Option Outcome
  refusal (Ok node) = None
  refusal (Err errno) = Some (answer (Reply.Error errno))

-- no node is left
abbrev pub no_node : Space → Option Outcome
no_node space = space_row (space.nodes_left == 0) What.Nodes 1 0

-- fewer name lines are left than the last name of the path takes
abbrev pub no_line : Space → List (List ℕ) → Option Outcome
no_line space path = space_row (nat_lt space.lines_left (lines_taken (last_name path))) What.Names (lines_taken (last_name path)) space.lines_left

unfoldable pub mkdir_rows : Space → List (List ℕ) → List (Option Outcome)
mkdir_rows space p =
    row (is_root p) Errno.EEXIST
    ∷ too_long_row space p
    ∷ walk_row space p
    ∷ row (exists_at space p) Errno.EEXIST
    ∷ no_node space
    ∷ no_line space p
    ∷ []

unfoldable pub rmdir_rows : Space → List (List ℕ) → List (Option Outcome)
rmdir_rows space p =
    row (is_root p) Errno.EBUSY
    ∷ too_long_row space p
    ∷ walk_row space p
    ∷ row (not (exists_at space p)) Errno.ENOENT
    ∷ row (file_stands space p) Errno.ENOTDIR
    ∷ row (has_entries space.entries (number_at space p)) Errno.ENOTEMPTY
    ∷ []

unfoldable pub unlink_rows : Space → List (List ℕ) → List (Option Outcome)
unlink_rows space p =
    row (is_root p) Errno.EPERM
    ∷ too_long_row space p
    ∷ walk_row space p
    ∷ row (not (exists_at space p)) Errno.ENOENT
    ∷ row (directory_stands space p) Errno.EPERM
    ∷ []

-- the rows of `rename` that go by what stands at P and at Q
unfoldable pub rename_kind_rows : Space → List (List ℕ) → List (List ℕ) → List (Option Outcome)
rename_kind_rows space p q =
    row (directory_stands space p && is_below q p) Errno.EINVAL
    ∷ row (directory_stands space p && file_stands space q) Errno.ENOTDIR
    ∷ row (directory_stands space p && (directory_stands space q && has_entries space.entries (number_at space q))) Errno.ENOTEMPTY
    ∷ row (directory_stands space p && nat_lt longest_path (length q + height space.entries longest_path (number_at space p))) Errno.ENAMETOOLONG
    ∷ row (file_stands space p && directory_stands space q) Errno.EISDIR
    ∷ []

unfoldable pub rename_rows : Space → List (List ℕ) → List (List ℕ) → List (Option Outcome)
rename_rows space p q =
    row (is_root p || is_root q) Errno.EBUSY
    ∷ too_long_row space p
    ∷ too_long_row space q
    ∷ walk_row space p
    ∷ row (not (exists_at space p)) Errno.ENOENT
    ∷ walk_row space q
    ∷ idle_row (exists_at space q && (number_at space p == number_at space q)) Reply.Ok
    ∷ first (rename_kind_rows space p q)
    ∷ []

-- `full`: all descriptors are in use; `busy`: P is a file that another instance has open
unfoldable pub open_rows : Space → Bool → Bool → List (List ℕ) → Flags → List (Option Outcome)
open_rows space full busy p f =
    too_long_row space p
    ∷ walk_row space p
    ∷ row (exists_at space p && (f.create && f.exclusive)) Errno.EEXIST
    ∷ row (directory_stands space p) Errno.EISDIR
    ∷ row busy Errno.EBUSY
    ∷ row (not (exists_at space p) && not f.create) Errno.ENOENT
    ∷ row full Errno.EMFILE
    ∷ unless (exists_at space p) (no_node space)
    ∷ unless (exists_at space p) (no_line space p)
    ∷ []

unfoldable pub stat_rows : Space → List (List ℕ) → List (Option Outcome)
stat_rows space p =
    too_long_row space p
    ∷ walk_row space p
    ∷ row (not (exists_at space p)) Errno.ENOENT
    ∷ []

unfoldable pub list_rows : Space → List (List ℕ) → List (Option Outcome)
list_rows space p =
    too_long_row space p
    ∷ walk_row space p
    ∷ row (not (exists_at space p)) Errno.ENOENT
    ∷ row (file_stands space p) Errno.ENOTDIR
    ∷ []
