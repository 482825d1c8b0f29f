-- The tree of a table of names: every path with the inode that it leads to.
use Rattle.std.specs.Prelude.{◌≡◌, ℕ, ◌==◌, Bool, not, ◌&&◌, nat_lt, nat_le, List, [], ◌∷◌, ◌++◌, length, map, All, count_by, IsPermutation, IsSortedByKey, Some, is_some, unwrap_or, if◌then◌else◌}
use Rattle.std.specs.Cmp.Lexicographic.{pointwise, slice_cmp}
use Rattle.std.specs.Ordering.{nat_cmp}
use Rattle.layout_model.specs.Names.{Rows, child_named, walk}
use Rattle.layout_model.specs.Tables.{names_below}
use Rattle.posix_tables.specs.Names.{directory_path, is_root, longest_path, same_name}
use Rattle.posix_tables.specs.Places.{printed}
use Rattle.k_tables.specs.declared.tables.trees.TreePlace.{TreePlace}

abbrev pub same_path : List (List ℕ) → List (List ℕ) → Bool
same_path p q = pointwise same_name p q

-- the place is that of the path
abbrev pub is_at : List (List ℕ) → TreePlace → Bool
is_at path place = same_path place.path path

abbrev pub tree_place : List (List ℕ) → ℕ → TreePlace
tree_place path ino = record { path = path; text = printed path; ino = ino }

-- the path leads to an inode
abbrev pub has_path : Rows → List (List ℕ) → Bool
has_path rows path = is_some (walk rows 0 path)

-- the place is one of a path that leads to its inode, with the path's text
pub record IsStanding (rows : Rows) (place : TreePlace) : Type 0 where
  pub text : place.text ≡ printed place.path
  pub leads : walk rows 0 place.path ≡ Some place.ino

-- Each path of at most 16 names that leads to an inode has one place, and no other path has any; the places stand in
-- the byte order of their texts.
pub record IsTree (rows : Rows) (places : List TreePlace) : Type 0 where
  pub each : All (IsStanding rows) places
  pub once : (path : List (List ℕ))
      → count_by (is_at path) places ≡ (if nat_le (length path) longest_path && has_path rows path then 1 else 0)
  pub sorted : IsSortedByKey (λ (place : TreePlace). place.text) (slice_cmp nat_cmp) places

-- the same of the paths of n names, and of fewer than n, in any order
pub record IsLevel (rows : Rows) (n : ℕ) (places : List TreePlace) : Type 0 where
  pub each : All (IsStanding rows) places
  pub once : (path : List (List ℕ))
      → count_by (is_at path) places ≡ (if (length path == n) && has_path rows path then 1 else 0)

pub record AreShort (rows : Rows) (n : ℕ) (places : List TreePlace) : Type 0 where
  pub each : All (IsStanding rows) places
  pub once : (path : List (List ℕ))
      → count_by (is_at path) places ≡ (if nat_lt (length path) n && has_path rows path then 1 else 0)

-- the place of a name below another
abbrev pub child_in : Rows → ℕ → List ℕ → ℕ
child_in rows parent name = unwrap_or (child_named rows parent name) 0

abbrev pub child_place : Rows → TreePlace → List ℕ → TreePlace
child_place rows place name = tree_place (place.path ++ name ∷ []) (child_in rows place.ino name)

-- the places of the names below a place, in some order, behind the old ones
pub record AddsChildren (rows : Rows) (place : TreePlace) (old new : List TreePlace) : Type 0 where
  pub names : List (List ℕ)
  pub are : IsPermutation (names_below rows place.ino) names
  pub is : new ≡ old ++ map (child_place rows place) names

-- how many children of the place have the path, if it leads anywhere
abbrev pub is_above : List (List ℕ) → TreePlace → Bool
is_above path place = not (is_root path) && same_path place.path (directory_path path)

abbrev pub children_at : Rows → List (List ℕ) → TreePlace → ℕ
children_at rows path place = if is_above path place && has_path rows path then 1 else 0
