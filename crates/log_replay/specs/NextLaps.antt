-- The next lap of the log, which a mount begins, so that no entry of it is valid.
use Rattle.std.specs.Prelude.{◌≡◌, ◌⊎◌, ◌≤◌, ◌<◌, ◌^◌, ◌/◌, ℕ, false}
use Rattle.world_image_laws.specs.pm_model.declared.Cell.TheVariants.{Single}
use Rattle.world_image_laws.specs.pm_model.Cells.{cell}
use Rattle.world_image_laws.specs.pm_model.Words.{Words}
use Rattle.world_image_laws.specs.layout_model.Journal.{is_journal_word}
use Rattle.world_image_laws.specs.layout_model.Places.{is_journaled_line}
use Rattle.world_image_laws.specs.image_model.Reading.{base_set}
use Rattle.world_image_laws.specs.image_model.Volume.{Volume}
use Rattle.world_image_laws.specs.k_split_model.View.{View}
use Rattle.k_split.specs.Laps.{IsLogWord, next_base}

-- The log base rose by the number of log lines, and no word outside the journal and the journaled lines differs.
pub record IsRisen (old new : View) : Type 0 where
  pub volume_is : new.volume ≡ base_set (next_base old.volume) old.volume
  pub others : (i : ℕ) → is_journal_word i ≡ false → is_journaled_line old.volume.geometry (i / 8) ≡ false → cell new.cells i ≡ cell old.cells i

-- The log began anew: its base is 1, its lines are zero, and no other word outside the journal and the journaled lines differs.
pub record IsRestarted (old new : View) : Type 0 where
  pub volume_is : new.volume ≡ base_set 1 old.volume
  pub zero : (i : ℕ) → IsLogWord old.volume i → cell new.cells i ≡ Single 0
  pub others : (i : ℕ) → is_journal_word i ≡ false → is_journaled_line old.volume.geometry (i / 8) ≡ false → ¬ IsLogWord old.volume i
      → cell new.cells i ≡ cell old.cells i

-- THE NEXT LAP BEGINS: a base of at most 2^62 rises, and above it the log begins anew.
abbrev pub BeginsLap : View → View → Type 0
BeginsLap old new = ((old.volume.base ≤ 2 ^ 62) × IsRisen old new) ⊎ ((2 ^ 62 < old.volume.base) × IsRestarted old new)

-- The same beside the image of a volume v: the log's lines are those of the image, or zero.
pub record IsNextLap (v : Volume) (image : Words) (k : View) : Type 0 where
  pub risen : v.base ≤ 2 ^ 62 → k.volume.base ≡ next_base v
  pub kept : v.base ≤ 2 ^ 62 → (i : ℕ) → IsLogWord v i → cell k.cells i ≡ Single (image i)
  pub anew : 2 ^ 62 < v.base → k.volume.base ≡ 1
  pub zero : 2 ^ 62 < v.base → (i : ℕ) → IsLogWord v i → cell k.cells i ≡ Single 0
