-- Words with one word set, and two small geometries for worked rows.
use Rattle.std.specs.Prelude.{ℕ, ◌==◌, if◌then◌else◌, refl}
use Rattle.volume_laws.specs.layout_model.PlaceLaws.{IsGeometry-in_range}
use Rattle.volume_laws.specs.layout_model.Places.{Geometry, IsGeometry}
use Rattle.volume_laws.specs.pm_model.Words.{Words}

-- the words with word w set
abbrev pub with_word : ℕ → ℕ → Words → Words
with_word w x f i = if i == w then x else f i

-- an image of 64 blocks with 4 log lines, 16 inodes and 16 names
abbrev pub small : Geometry
small = record { version = 1; blocks = 64; log = 4; inodes = 16; names = 16 }

pub small-in_range : IsGeometry small
small-in_range = IsGeometry-in_range small refl refl

-- one with 32 inodes and 32 names
abbrev pub wide : Geometry
wide = record { version = 1; blocks = 64; log = 4; inodes = 32; names = 32 }

pub wide-in_range : IsGeometry wide
wide-in_range = IsGeometry-in_range wide refl refl
