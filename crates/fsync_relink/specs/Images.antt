-- Images of a change of K-Split, beside the image before.
use Rattle.std.specs.Prelude.{◌≡◌, ℕ}
use Rattle.log_laws.specs.pm_model.Words.{Words}
use Rattle.log_laws.specs.layout_model.declared.lines.Draft.{Draft}
use Rattle.log_laws.specs.layout_model.Journal.{journaled}
use Rattle.log_laws.specs.image_model.Content.{content}
use Rattle.log_laws.specs.image_model.Live.{live_entries}
use Rattle.log_laws.specs.image_model.Volume.{Volume}
use Rattle.log_laws.specs.Logs.{AreSound, CarriesOut, IsDeadIn, IsNext}
use Rattle.fsync_relink.specs.Moves.{move_for}
use Rattle.k_split.specs.k_split_model.declared.map_changes.moves.Move.{Move}
use Rattle.log_laws.specs.volume_laws.Footprint.{SameLog}

-- Of a move: the log lines are the same, and where the log of the image before has an entry that the move carries out, which
-- is the next one of its file, the new volume carries it out, and the content is the same, be it the new volume that the image
-- reads as or the old one.
pub record IsCarried (m : Move) (v w : Volume) (before image : Words) : Type 0 where
  pub log : SameLog v.geometry (journaled before) (journaled image)
  pub carried : (d : Draft) → m ≡ move_for d m.size → AreSound v (live_entries v (journaled before))
      → IsNext w (live_entries v (journaled before)) d → CarriesOut v w (journaled before) d
  pub same : (d : Draft) → m ≡ move_for d m.size → AreSound v (live_entries v (journaled before))
      → IsNext w (live_entries v (journaled before)) d → content v.geometry image ≡ content v.geometry before

-- Of a staging file that changes: the log lines are the same, and where nothing is live in it the content is the same.
pub record IsRestaged (staging : ℕ) (v w : Volume) (before image : Words) : Type 0 where
  pub log : SameLog v.geometry (journaled before) (journaled image)
  pub same : IsDeadIn v (journaled before) staging → IsDeadIn w (journaled before) staging
      → content v.geometry image ≡ content v.geometry before
