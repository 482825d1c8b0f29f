-- The longest path below an inode among those of at most so many names.
use Rattle.std.specs.Prelude.{◌≡◌, ℕ, ◌+◌, ◌<◌, ◌≤◌, ◌==◌, List, length, Option, Some, None, IsSome, if◌then◌else◌}
use Rattle.layout_model.specs.Lines.{NameRow}
use Rattle.layout_model.specs.Names.{Rows, row, walk}

-- the child that a line names below a parent, if it does
abbrev pub child_below : ℕ → Option NameRow → Option ℕ
child_below parent None = None
child_below parent (Some r) = if r.parent == parent then Some r.child else None

-- there is a path of h names below the inode, and of those of at most `most` names none is longer
pub record HasHeightWithin (rows : Rows) (most ino h : ℕ) : Type 0 where
  pub some : (names : List (List ℕ)) × (length names ≡ h) × IsSome (walk rows ino names)
  pub none_longer : (names : List (List ℕ)) → IsSome (walk rows ino names) → length names ≤ most → length names ≤ h

-- a path that begins with line k and has at most `most` names behind it has at most h names
abbrev pub LeadsAtMost : Rows → ℕ → ℕ → ℕ → ℕ → Type 0
LeadsAtMost rows most ino h k =
    (r : NameRow) → row rows k ≡ Some r → r.parent ≡ ino → (names : List (List ℕ)) → IsSome (walk rows r.child names) → length names ≤ most → length names + 1 ≤ h

-- the same of the paths that begin with one of the first n lines
pub record HasHeightBefore (rows : Rows) (most ino n h : ℕ) : Type 0 where
  pub some : (names : List (List ℕ)) × (length names ≡ h) × IsSome (walk rows ino names)
  pub none_longer : (k : ℕ) → k < n → LeadsAtMost rows most ino h k
