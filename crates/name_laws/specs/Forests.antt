-- Tables whose names are trees: one line for each parent and name, at most one name a directory, and no way up without an
-- end. Which inodes are directories is a test beside the table: of the names of files nothing is said.
use Rattle.std.specs.Prelude.{◌≡◌, ◌≢◌, ℕ, ◌<◌, ◌≤◌, Bool, true, Some, None}
use Rattle.volume_laws.specs.layout_model.Lines.{NameRow}
use Rattle.volume_laws.specs.layout_model.Names.{Rows, names_of, parent_of, row, up}
use Rattle.volume_laws.specs.layout_model.Tables.{IsKeyed}

-- going up from each inode comes to an end
abbrev pub EndsUpwards : Rows → Type 0
EndsUpwards rows = (ino : ℕ) → (n : ℕ) × (up rows n ino ≡ None)

-- each name stands in a directory, and no directory has two names
pub record IsForest (directory : ℕ → Bool) (rows : Rows) : Type 0 where
  pub keyed : IsKeyed rows
  pub parents : (line : ℕ) (r : NameRow) → row rows line ≡ Some r → directory r.parent ≡ true
  pub one_name : (ino : ℕ) → directory ino ≡ true → names_of rows ino ≤ 1
  pub ends : EndsUpwards rows

-- the directory above is the same of every inode but one
abbrev pub SameAbove : ℕ → Rows → Rows → Type 0
SameAbove child rows others = (ino : ℕ) → ino ≢ child → parent_of others ino ≡ parent_of rows ino

-- going up from the inode one does not come to this one within n steps
abbrev pub DoesNotMeet : Rows → ℕ → ℕ → ℕ → Type 0
DoesNotMeet rows child n ino = (m : ℕ) → m < n → up rows m ino ≢ Some child

-- it is met after n steps, and not before
pub record MeetsFirst (rows : Rows) (child n ino : ℕ) : Type 0 where
  pub at : up rows n ino ≡ Some child
  pub before : DoesNotMeet rows child n ino
