-- Words for a table of names: no two of its lines have the same parent and name, and no path leads back.
use Rattle.std.specs.Prelude.{◌≡◌, ℕ, ◌<◌, ◌==◌, List, [], ◌∷◌, length, Bool, true, false, Option, Some, None, if◌then◌else◌}
use Rattle.std.specs.List.{flat_map}
use Rattle.layout_model.specs.Lines.{NameRow}
use Rattle.layout_model.specs.Names.{Rows, row, is_entry, walk}

-- no two lines have the same parent and name
pub record IsKeyed (rows : Rows) : Type 0 where
  pub one_line : (parent : ℕ) (name : List ℕ) (j k : ℕ) → is_entry parent name (row rows j) ≡ true → is_entry parent name (row rows k) ≡ true → j ≡ k

-- No path of names leads from an inode back to it: going up from a line's parent, by whatever lines, one never comes
-- back to that line.
pub record IsAcyclic (rows : Rows) : Type 0 where
  pub no_return : (ino : ℕ) (names : List (List ℕ)) → walk rows ino names ≡ Some ino → names ≡ []

-- the names below a parent, line by line
abbrev pub name_below : ℕ → Option NameRow → List (List ℕ)
name_below parent None = []
name_below parent (Some r) = if r.parent == parent then r.name ∷ [] else []

abbrev pub names_below : Rows → ℕ → List (List ℕ)
names_below rows parent = flat_map (name_below parent) rows

-- line k is the first whose row passes the test
pub record IsFirstRow (test : Option NameRow → Bool) (rows : Rows) (k : ℕ) (r : Option NameRow) : Type 0 where
  pub within : k < length rows
  pub is : row rows k ≡ r
  pub passes : test r ≡ true
  pub before : (j : ℕ) → j < k → test (row rows j) ≡ false

-- a line that names the child of the parent
pub record NamingLine (rows : Rows) (parent : ℕ) (name : List ℕ) (child : ℕ) : Type 0 where
  pub line : ℕ
  pub at : NameRow
  pub within : line < length rows
  pub is : row rows line ≡ Some at
  pub parent_is : at.parent ≡ parent
  pub name_is : at.name ≡ name
  pub child_is : at.child ≡ child
