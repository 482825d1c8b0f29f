-- A volume that is seen as a state, whatever a device is at: the batch of a K-Split that gathers is seen so, and so is the volume at which a
-- device stands.
use Rattle.std.specs.Prelude.{ℕ, List}
use Rattle.world_write_laws.specs.world_step_laws.pm_model.declared.Cell.{Cell}
use Rattle.world_write_laws.specs.world_step_laws.pm_model.ImageLaws.{IsImage-words_of}
use Rattle.world_write_laws.specs.world_step_laws.pm_model.Images.{words_of}
use Rattle.world_write_laws.specs.world_step_laws.pm_model.Words.{Words}
use Rattle.world_write_laws.specs.world_step_laws.layout_model.Journal.{journaled}
use Rattle.world_write_laws.specs.world_step_laws.layout_model.declared.lines.Draft.{Draft}
use Rattle.world_write_laws.specs.world_step_laws.image_model.Volume.{Volume}
use Rattle.world_write_laws.specs.world_step_laws.posix_spec.State.{State}
use Rattle.world_write_laws.specs.world_step_laws.world_model.Jobs.{Job}
use Rattle.world_write_laws.specs.world_step_laws.Worlds.{IsWorld}
use Rattle.world_image_laws.specs.Images.{HasRoom, StandsFor}

-- THE VOLUME IS SEEN AS THE STATE: with some words of data blocks the World is valid, and there is room.
pub record SeenFor (v : Volume) (claims : List (ℕ × Draft)) (jobs : List Job) (numbers : List ℕ) (s : State) (count : ℕ) : Type 0 where
  pub words : Words
  pub world : IsWorld v claims jobs words numbers s count
  pub room : HasRoom v claims jobs s

-- a device that stands for the state shows its volume so
pub seen_now : (v : Volume) (d : List Cell) (claims : List (ℕ × Draft)) (jobs : List Job) (numbers : List ℕ) (s : State) (count : ℕ) → StandsFor v d claims jobs numbers s count → SeenFor v claims jobs numbers s count
seen_now v d claims jobs numbers s count device = record { words = journaled (words_of d); world = device.world (words_of d) (IsImage-words_of d); room = device.room }
