-- What a change of a volume leaves as it was.
use Rattle.std.specs.Prelude.{◌≡◌, ◌≢◌, ℕ, List, [], ◌∷◌}
use Rattle.name_laws.specs.volume_laws.layout_model.Names.{row}
use Rattle.name_laws.specs.volume_laws.image_model.Volume.{Volume, inode, chain, extents}

-- the number is none of these
abbrev pub IsOther : ℕ → List ℕ → Type 0
IsOther n [] = Unit {0}
IsOther n (m ∷ ms) = (n ≢ m) × IsOther n ms

-- All but these inodes, with their chains and maps, and these name lines is as before.
pub record LeavesOthers (inos lines : List ℕ) (v w : Volume) : Type 0 where
  pub geometry : w.geometry ≡ v.geometry
  pub base : w.base ≡ v.base
  pub inodes : (ino : ℕ) → IsOther ino inos → inode w ino ≡ inode v ino
  pub chains : (ino : ℕ) → IsOther ino inos → chain w ino ≡ chain v ino
  pub maps : (ino : ℕ) → IsOther ino inos → extents w ino ≡ extents v ino
  pub rows : (line : ℕ) → IsOther line lines → row w.names line ≡ row v.names line
