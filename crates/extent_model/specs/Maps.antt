-- What a change of a map leaves and takes, file block by file block.
use Rattle.std.specs.Prelude.{◌≡◌, ℕ, Bool, if◌then◌else◌, Some, None, List}
use Rattle.extent_model.specs.declared.extent_words.Extent.{Extent}
use Rattle.extent_model.specs.Extents.{holds, disk_in, disk_at, IsCanonical}

-- `part` has what `whole` has of the chosen file blocks, and no other, in the one spelling
pub record IsPart (chosen : ℕ → Bool) (whole part : List Extent) : Type 0 where
  pub canonical : IsCanonical part
  pub blocks : (b : ℕ) → disk_at part b ≡ (if chosen b then disk_at whole b else None)

-- `new` has the run where the run lies, and elsewhere what `old` has, in the one spelling
pub record Replaces (run : Extent) (old new : List Extent) : Type 0 where
  pub canonical : IsCanonical new
  pub blocks : (b : ℕ) → disk_at new b ≡ (if holds run b then Some (disk_in run b) else disk_at old b)
