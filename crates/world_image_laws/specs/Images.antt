-- What the images of a running world show: the parts that stand whatever is in the log lines, and the log.
use Rattle.std.specs.Prelude.{◌≡◌, ◌<◌, ℕ, true, ◌*◌, List, [], ◌++◌, Option, None}
use Rattle.image_laws.specs.pm_model.declared.Cell.{Cell}
use Rattle.image_laws.specs.pm_model.Images.{Follows, IsImage}
use Rattle.image_laws.specs.pm_model.Words.{line_bytes, Words}
use Rattle.image_laws.specs.layout_model.Journal.{journaled}
use Rattle.image_laws.specs.layout_model.Places.{data_blocks, Geometry, log_line}
use Rattle.image_laws.specs.layout_model.declared.lines.Draft.{Draft}
use Rattle.image_laws.specs.layout_model.Entries.{held_seq, is_self_valid}
use Rattle.image_laws.specs.image_model.Checked.{HasHead}
use Rattle.image_laws.specs.image_model.Live.{entry_in}
use Rattle.image_laws.specs.image_model.Reading.{Reads}
use Rattle.image_laws.specs.image_model.Rules.{geometry_of, IsOfNoLater}
use Rattle.image_laws.specs.image_model.Volume.{Volume}
use Rattle.world_step_laws.specs.k_split_model.Stands.{IsOldOrNew, Stands}
use Rattle.world_step_laws.specs.world_model.posix_spec.State.{State}
use Rattle.world_step_laws.specs.world_model.Jobs.{Job}
use Rattle.world_step_laws.specs.world_model.Shown.{AreFilled, landed_pairs, ShowsClaims}
use Rattle.world_step_laws.specs.world_model.Rules.{HasFreeBlocks}
use Rattle.world_step_laws.specs.Worlds.{IsWorld}

-- The head of the image is right, and says this geometry. No log line is in it.
pub record IsHeaded (g : Geometry) (image : Words) : Type 0 where
  pub head : HasHead (4096 * g.blocks) image
  pub geometry : geometry_of image ≡ g

-- Blocks enough are free to publish each live claim and each write in flight, and the calls count the data blocks of the volume.
pub record HasRoom (v : Volume) (claims : List (ℕ × Draft)) (jobs : List Job) (s : State) : Type 0 where
  pub free : HasFreeBlocks v claims jobs
  pub blocks : s.shape.data_blocks ≡ data_blocks v.geometry

-- THE DEVICE STANDS FOR THE STATE, whatever is in its log lines: it stands at the volume, and each image of it has a right
-- head and makes the World valid with its data words.
pub record StandsFor (v : Volume) (d : List Cell) (claims : List (ℕ × Draft)) (jobs : List Job) (numbers : List ℕ) (s : State) (count : ℕ) : Type 0 where
  pub stands : Stands v.geometry v d
  pub headed : (image : Words) → IsImage d image → IsHeaded v.geometry image
  pub world : (image : Words) → IsImage d image → IsWorld v claims jobs (journaled image) numbers s count
  pub room : HasRoom v claims jobs s

-- The log of the words shows the claims and nothing else, and no line of it is an entry of a lap to come.
pub record ShowsLog (v : Volume) (claims : List (ℕ × Draft)) (f : Words) : Type 0 where
  pub shows : ShowsClaims v claims f
  pub no_later : (slot : ℕ) → slot < v.geometry.log → IsOfNoLater v f slot

-- The image shows the World, with its log, and some of the writes in flight landed.
pub record ShowsWorld (v : Volume) (claims : List (ℕ × Draft)) (jobs : List Job) (numbers : List ℕ) (s : State) (count : ℕ) (image : Words) : Type 0 where
  pub headed : IsHeaded v.geometry image
  pub reads : Reads v.geometry (journaled image) v
  pub world : IsWorld v claims jobs (journaled image) numbers s count
  pub room : HasRoom v claims jobs s
  pub landed : List (Option ℕ)
  pub filled : AreFilled v (journaled image) jobs landed
  pub log : ShowsLog v (claims ++ landed_pairs jobs landed) (journaled image)

-- The log lines are at home: each image shows the claims.
abbrev pub HasLogHome : Volume → List Cell → List (ℕ × Draft) → Type 0
HasLogHome v d claims = (image : Words) → IsImage d image → ShowsLog v claims (journaled image)

-- no line of the log is an entry of this lap
abbrev pub HasNoEntry : Volume → Words → Type 0
HasNoEntry v f = (slot : ℕ) → slot < v.geometry.log → entry_in v f slot ≡ None

-- each line of the log that is an entry is one of an earlier lap
abbrev pub HasOldLines : Volume → Words → Type 0
HasOldLines v words =
    (slot : ℕ) → slot < v.geometry.log → is_self_valid (line_bytes words (log_line v.geometry slot)) ≡ true
    → held_seq (line_bytes words (log_line v.geometry slot)) < v.base

-- THE WORLD RUNS, with its log lines at home and no write in flight.
pub record IsRunning (v : Volume) (d : List Cell) (claims : List (ℕ × Draft)) (numbers : List ℕ) (s : State) (count : ℕ) : Type 0 where
  pub device : StandsFor v d claims [] numbers s count
  pub log : HasLogHome v d claims

-- A device is changed from one volume to another, of one geometry and one lap, whole or in part: each image comes from one
-- before, and reads as the old volume or as the new one.
pub record IsChange (v w : Volume) (d e : List Cell) : Type 0 where
  pub each_image : Follows (IsOldOrNew v.geometry [] v w) d e
  pub geometry : w.geometry ≡ v.geometry
  pub base : w.base ≡ v.base
