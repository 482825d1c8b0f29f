-- The rules of the lines, for a geometry and the words of the view.
use Rattle.std.specs.Prelude.{◌≡◌, ◌⊎◌, ℕ, true}
use Rattle.k_journal.specs.pm_model.Words.{Words}
use Rattle.k_journal.specs.layout_model.Places.{Geometry}
use Rattle.k_reading.specs.image_model.Broken.{Rule, below}
use Rattle.k_reading.specs.image_model.Live.{is_file, is_directory}
use Rattle.k_reading.specs.image_model.Rules.{HasInode, IsNameSlot, HasChain}
use Rattle.k_reading.specs.image_model.Volume.{Volume, name_at, inode}

-- the inode is a directory or a file
abbrev pub IsNode : Volume → ℕ → Type 0
IsNode v ino = (is_directory (inode v ino).kind ≡ true) ⊎ (is_file (inode v ino).kind ≡ true)

-- rules 5, 6 and 7
abbrev pub inodes_rule : Geometry → Words → Rule
inodes_rule g j = below 5 g.inodes (HasInode j)

abbrev pub names_rule : Geometry → Volume → Words → Rule
names_rule g v j = below 6 g.names (λ k. IsNameSlot v (name_at g j k))

abbrev pub chains_rule : Geometry → Volume → Words → Rule
chains_rule g v j = below 7 g.inodes (HasChain v j)
