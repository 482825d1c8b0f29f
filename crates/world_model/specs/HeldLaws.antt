-- What the files of a state hold, by sizes that are kept of the inodes.
use Rattle.std.specs.Prelude.{◌≡◌, ◌≢◌, ℕ, List, length, slice_index, sum_by}
use Rattle.name_laws.specs.pm_model.Words.{Words}
use Rattle.name_laws.specs.block_counts.Counts.{held_by}
use Rattle.name_laws.specs.layout_model.declared.lines.Draft.{Draft}
use Rattle.name_laws.specs.layout_model.declared.lines.Kind.TheVariants.{File}
use Rattle.name_laws.specs.image_model.Content.{size_of}
use Rattle.name_laws.specs.image_model.Volume.{inode, Volume}
use Rattle.crash_spec.specs.posix_laws.posix_tables.Room.{held}
use Rattle.crash_spec.specs.posix_laws.posix_spec.State.{State}
use Rattle.world_model.specs.Stands.{Stands}

-- THE SIZES of the inode lines: that of a file as its live entries give it, and 0 of all else.
pub record AreSizes (v : Volume) (live : List Draft) (sizes : List ℕ) : Type 0 where
  pub count : length sizes ≡ length v.inodes
  pub files : (ino : ℕ) → (inode v ino).kind ≡ File → slice_index sizes ino ≡ size_of v live ino
  pub others : (ino : ℕ) → (inode v ino).kind ≢ File → slice_index sizes ino ≡ 0

-- What they hold in all is what the files of the state hold.
abbrev pub HeldIsTheSum : Type 0
HeldIsTheSum =
    (v : Volume) (live : List Draft) (f : Words) (numbers : List ℕ) (s : State) (sizes : List ℕ) → Stands v live f numbers s → AreSizes v live sizes
    → sum_by held_by sizes ≡ held s.nodes
