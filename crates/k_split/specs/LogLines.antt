-- The log's lines, out for a lap.
use Rattle.std.specs.Prelude.{◌≡◌, List, length}
use Rattle.block_io.specs.pm_model.Parts.{Part}
use Rattle.block_io.specs.layout_model.Places.{log_line}
use Rattle.block_io.specs.image_model.Volume.{Volume}
use Rattle.block_io.specs.Lines.{AreFrom}

-- they are the log's lines, by rising slot
pub record AreLogLines (v : Volume) (lines : List Part) : Type 0 where
  pub count : length lines ≡ v.geometry.log
  pub places : AreFrom (log_line v.geometry 0) lines
