-- Blocks that read zeros.
use Rattle.std.specs.Prelude.{◌≡◌, ℕ, ◌/◌, ◌<◌, List, length}
use Rattle.image_model.specs.pm_model.declared.Cell.{Cell}
use Rattle.image_model.specs.pm_model.Images.{IsImage}
use Rattle.image_model.specs.pm_model.Words.{Words}
use Rattle.image_model.specs.layout_model.Journal.{journaled}
use Rattle.image_model.specs.layout_model.Places.{Geometry}
use Rattle.image_model.specs.Placed.{block_at}
use Rattle.image_model.specs.Reading.{Reads}
use Rattle.image_model.specs.Volume.{Volume}

-- each word of the blocks is zero
abbrev pub AreZeros : List ℕ → Words → Type 0
AreZeros blocks f = (k i : ℕ) → k < length blocks → i / 512 ≡ block_at blocks k → f i ≡ 0

-- What filling holes asks of its new data blocks: they are zero in each image that reads as the volume in which they are mapped.
abbrev pub ReadZeros : Geometry → Volume → List ℕ → List Cell → Type 0
ReadZeros g w blocks d = (image : Words) → IsImage d image → Reads g (journaled image) w → AreZeros blocks image
