-- The laws of live entries, each as one statement.
use Rattle.std.specs.Prelude.{◌≡◌, ℕ, List}
use Rattle.world_write_laws.specs.pm_model.Words.{Words}
use Rattle.world_write_laws.specs.extent_model.declared.extent_words.Extent.{Extent}
use Rattle.world_write_laws.specs.layout_model.declared.lines.Draft.{Draft}
use Rattle.world_write_laws.specs.layout_model.Places.{IsGeometry}
use Rattle.world_write_laws.specs.image_model.Content.{found}
use Rattle.world_write_laws.specs.image_model.Kept.{AreKept}
use Rattle.world_write_laws.specs.image_model.Live.{live_entries}
use Rattle.world_write_laws.specs.image_model.Rules.{CanRecover}
use Rattle.world_write_laws.specs.image_model.Volume.{Volume}
use Rattle.world_write_laws.specs.Relinks.{Relinks}
use Rattle.world_write_laws.specs.Restages.{Restages}
use Rattle.log_laws.specs.Logs.{AreSound, CarriesOut, HasSameFiles, IsDeadIn, IsNext}

-- The live entries of a checked image are sound.
abbrev pub AreSoundWhenChecked : Type 0
AreSoundWhenChecked = (v : Volume) (f : Words) → IsGeometry v.geometry → AreKept v → CanRecover v f → AreSound v (live_entries v f)

-- A relink of the next entry of a file carries it out.
abbrev pub CarriesOutRelinked : Type 0
CarriesOutRelinked =
    (v w : Volume) (f : Words) (d : Draft) (displaced : List Extent) → Relinks v w d displaced → w.base ≡ v.base
    → AreSound v (live_entries v f) → IsNext w (live_entries v f) d → CarriesOut v w f d

-- Volumes that show the same files have the same at each path.
abbrev pub HaveSameFound : Type 0
HaveSameFound =
    (v w : Volume) (f : Words) → HasSameFiles v w f → found w (live_entries w f) f ≡ found v (live_entries v f) f

-- Where nothing is live in a staging file before and after it changes, the same entries are live, and the same files are shown.
abbrev pub KeepsFilesRestaged : Type 0
KeepsFilesRestaged =
    (v w : Volume) (f : Words) (staging : ℕ) → Restages v w staging → w.base ≡ v.base → IsDeadIn v f staging → IsDeadIn w f staging
    → (live_entries w f ≡ live_entries v f) × HasSameFiles v w f
