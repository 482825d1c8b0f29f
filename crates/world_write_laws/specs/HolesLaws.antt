-- Holes of a file get blocks of zeros, as one statement each.
use Rattle.std.specs.Prelude.{◌≡◌, ◌≢◌, ℕ, List, Some, None}
use Rattle.world_step_laws.specs.k_split_model.Zeros.{AreZeros}
use Rattle.world_step_laws.specs.world_model.pm_model.Words.{Words}
use Rattle.world_step_laws.specs.world_model.extent_model.Extents.{disk_at}
use Rattle.world_step_laws.specs.world_model.image_model.Volume.{extents, inode, Volume}
use Rattle.world_step_laws.specs.world_model.layout_model.declared.lines.Draft.{Draft}
use Rattle.world_step_laws.specs.world_model.layout_model.declared.lines.Inode.{Inode}
use Rattle.world_step_laws.specs.world_model.layout_model.declared.lines.Kind.TheVariants.{File}
use Rattle.world_step_laws.specs.world_model.list_laws.Members.{In}
use Rattle.world_step_laws.specs.world_model.posix_spec.State.{State}
use Rattle.world_step_laws.specs.world_model.Jobs.{Job}
use Rattle.world_step_laws.specs.world_model.Stands.{IsSane}
use Rattle.world_step_laws.specs.Steps.{AreBeside}
use Rattle.world_step_laws.specs.Touched.{only}
use Rattle.world_step_laws.specs.Worlds.{IsWorld}

-- ---- holes

-- of a line only the place of its chain and the count of its extents may be others
pub record KeepsLine (x y : Inode) : Type 0 where
  pub kind : y.kind ≡ x.kind
  pub generation : y.generation ≡ x.generation
  pub size : y.size ≡ x.size
  pub applied : y.applied ≡ x.applied

-- HOLES OF A FILE ARE FILLED: its map has some of these blocks besides, each where it had none; lines and maps of all others stay.
pub record FillsHoles (v w : Volume) (ino : ℕ) (fresh : List ℕ) : Type 0 where
  pub sane : IsSane w
  pub names : w.names ≡ v.names
  pub geometry : w.geometry ≡ v.geometry
  pub file : (inode v ino).kind ≡ File
  pub own : KeepsLine (inode v ino) (inode w ino)
  pub lines : (i : ℕ) → i ≢ ino → inode w i ≡ inode v i
  pub maps : (i : ℕ) → i ≢ ino → extents w i ≡ extents v i
  pub kept : (m b : ℕ) → disk_at (extents v ino) m ≡ Some b → disk_at (extents w ino) m ≡ Some b
  pub others : (m b : ℕ) → disk_at (extents v ino) m ≡ None → disk_at (extents w ino) m ≡ Some b → In b fresh

-- By words that are zero in these blocks a valid World stays one, in the same state, where no job is of the file.
abbrev pub KeepsHolesFilled : Type 0
KeepsHolesFilled =
    (v w : Volume) (claims : List (ℕ × Draft)) (jobs : List Job) (f : Words) (numbers : List ℕ) (s : State) (count ino : ℕ) (fresh : List ℕ)
    → IsWorld v claims jobs f numbers s count → FillsHoles v w ino fresh → AreZeros fresh f → AreBeside (only ino) jobs
    → IsWorld w claims jobs f numbers s count
