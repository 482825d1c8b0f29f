-- What K-Split answers of a path.
use Rattle.std.specs.Prelude.{◌≡◌, ℕ, List, [], ◌∷◌, Option, Some, None, Result, Ok, Err, IsPermutation, IsSorted}
use Rattle.std.specs.Cmp.Lexicographic.{slice_cmp}
use Rattle.std.specs.Ordering.{nat_cmp}
use Rattle.layout_model.specs.Tables.{names_below}
use Rattle.block_io.specs.image_model.Volume.{Volume}
use Rattle.k_tables.specs.k_split_model.Spaces.{volume_space}
use Rattle.posix_types.specs.declared.item.Outcome.{Outcome}
use Rattle.posix_types.specs.declared.reply.Errno.{Errno}
use Rattle.posix_types.specs.declared.reply.Reply.{Reply}
use Rattle.posix_tables.specs.NameRows.{list_rows, stat_rows, too_long_row, walk_row}
use Rattle.posix_tables.specs.Names.{node_at_path, Space, walk}
use Rattle.posix_tables.specs.Outcomes.{answer, first}
use Rattle.k_split.specs.declared.faults.KFault.{KFault}

-- The directory in which the last name of a path stands, or why there is none: by the two rows that every call of a path has,
-- on names that are too long and on the names before the last one. Of the root it is the root.
abbrev pub led_rows : Space → List (List ℕ) → List (Option Outcome)
led_rows space path = too_long_row space path ∷ walk_row space path ∷ []

abbrev pub IsLed : Volume → List (List ℕ) → Result ℕ Errno → Type 0
IsLed v path (Ok ino) = (first (led_rows (volume_space v) path) ≡ None) × (walk (volume_space v) path ≡ Ok ino)
IsLed v path (Err errno) = first (led_rows (volume_space v) path) ≡ Some (answer (Reply.Error errno))

-- the inode at a path, or why nothing is there, by the rows of `stat`
abbrev pub IsFound : Volume → List (List ℕ) → Result ℕ Errno → Type 0
IsFound v path (Ok ino) = (first (stat_rows (volume_space v) path) ≡ None) × (node_at_path (volume_space v) path ≡ Some ino)
IsFound v path (Err errno) = first (stat_rows (volume_space v) path) ≡ Some (answer (Reply.Error errno))

-- the directory at a path, or why none is there, by the rows of `list`
abbrev pub IsDirectoryFound : Volume → List (List ℕ) → Result ℕ Errno → Type 0
IsDirectoryFound v path (Ok ino) = (first (list_rows (volume_space v) path) ≡ None) × (node_at_path (volume_space v) path ≡ Some ino)
IsDirectoryFound v path (Err errno) = first (list_rows (volume_space v) path) ≡ Some (answer (Reply.Error errno))

-- the names in the directory at a path, each once, in the order of their bytes
pub record IsListed (v : Volume) (path : List (List ℕ)) (names : List (List ℕ)) : Type 0 where
  pub ino : ℕ
  pub found : IsDirectoryFound v path (Ok ino)
  pub are : IsPermutation (names_below v.names ino) names
  pub sorted : IsSorted (slice_cmp nat_cmp) names

-- why nothing is listed: by a row; or, where no row fits, where memory runs out
abbrev pub IsListFault : Volume → List (List ℕ) → KFault → Type 0
IsListFault v path (KFault.Refused errno) = IsDirectoryFound v path (Err errno)
IsListFault v path (KFault.Room room) = ⊥
IsListFault v path KFault.PowerLost = ⊥
IsListFault v path KFault.NoMemory = (ino : ℕ) × IsDirectoryFound v path (Ok ino)
