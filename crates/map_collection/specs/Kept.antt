-- What a collection keeps, and how it agrees with a map.
use Rattle.std.specs.Prelude.{◌≡◌, ◌≢◌, ◌==◌, ◌&&◌, ℕ, Bool, List, find, Option, Some, None}
use Rattle.std.specs.Option.{option_map}
use Rattle.extent_map.specs.extent_model.declared.extent_words.Extent.{Extent}
use Rattle.extent_map.specs.extent_model.Extents.{disk_at}

-- an answer that is kept: the disk block of a file block of an inode, or that it has none
pub record Answer : Type 0 where
  pub ino : ℕ
  pub block : ℕ
  pub disk : Option ℕ

abbrev pub is_for : ℕ → ℕ → Answer → Bool
is_for ino block answer = (answer.ino == ino) && (answer.block == block)

-- what is kept for an inode and a file block, if something is
abbrev pub kept_for : List Answer → ℕ → ℕ → Option (Option ℕ)
kept_for kept ino block = option_map (λ (answer : Answer). answer.disk) (find (is_for ino block) kept)

-- each answer that is kept for the inode is that of the map
abbrev pub Agrees : List Answer → ℕ → List Extent → Type 0
Agrees kept ino map = (block : ℕ) (disk : Option ℕ) → kept_for kept ino block ≡ Some disk → disk ≡ disk_at map block

-- no answer is kept for the inode
abbrev pub KeepsNothing : List Answer → ℕ → Type 0
KeepsNothing kept ino = (block : ℕ) → kept_for kept ino block ≡ None

-- what is kept for other inodes is the same
abbrev pub KeepsOthers : ℕ → List Answer → List Answer → Type 0
KeepsOthers ino old new = (other block : ℕ) → other ≢ ino → kept_for new other block ≡ kept_for old other block
