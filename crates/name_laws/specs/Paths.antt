-- Where the paths of a call lead in a space.
use Rattle.std.specs.Prelude.{◌≡◌, ◌≢◌, ◌⊎◌, ◌≤◌, ℕ, ◌+◌, List, length, true, false, Some, None, Ok}
use Rattle.k_split_model.specs.posix_tables.Names.{child_of, has_entries, height, is_below, is_root, last_name, longest_path, Space, too_long, walk}

-- the path is not that of the root, is not too long, and its directory is there
pub record HasDirectory (s : Space) (p : List (List ℕ)) (parent : ℕ) : Type 0 where
  pub below : is_root p ≡ false
  pub short : too_long s.longest p ≡ false
  pub leads : walk s p ≡ Ok parent

-- the directory has this child of the last name, or none of that name
pub record IsAt (s : Space) (p : List (List ℕ)) (parent child : ℕ) : Type 0 where
  pub directory : HasDirectory s p parent
  pub is : child_of s.entries parent (last_name p) ≡ Some child

pub record IsNewAt (s : Space) (p : List (List ℕ)) (parent : ℕ) : Type 0 where
  pub directory : HasDirectory s p parent
  pub is_new : child_of s.entries parent (last_name p) ≡ None

-- a node and a name line are left
pub record HasRoom (s : Space) : Type 0 where
  pub nodes : s.nodes_left ≢ 0
  pub lines : s.lines_left ≢ 0

-- a node may be put in the place of another one: a file in that of a file, a directory in that of an empty one
pub record CanReplace (s : Space) (child target : ℕ) : Type 0 where
  pub apart : target ≢ child
  pub same : s.directory target ≡ s.directory child
  pub empty : s.directory child ≡ true → has_entries s.entries target ≡ false

-- what stands at the new path of a rename: nothing, or a node that the child may replace
abbrev pub MayLand : Space → List (List ℕ) → ℕ → ℕ → Type 0
MayLand s q parent child = IsNewAt s q parent ⊎ ((target : ℕ) × IsAt s q parent target × CanReplace s child target)

-- The child at p may have the path q: a directory does not go below itself, and nothing below it has more than 16
-- names in its path afterwards.
pub record MayGo (s : Space) (p q : List (List ℕ)) (from child to : ℕ) : Type 0 where
  pub old : IsAt s p from child
  pub directory : HasDirectory s q to
  pub lands : MayLand s q to child
  pub outside : s.directory child ≡ true → is_below q p ≡ false
  pub deep : s.directory child ≡ true → length q + height s.entries longest_path child ≤ longest_path
