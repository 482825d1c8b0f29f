-- The rules of a checked image that speak of its log and of what files hold.
use Rattle.std.specs.Prelude.{◌≡◌, ◌≢◌, ◌≤◌, ◌<◌, ℕ, ◌+◌, All, true, List, length, Some}
use Rattle.name_laws.specs.pm_model.Words.{Words}
use Rattle.name_laws.specs.layout_model.Places.{data_blocks, reserve}
use Rattle.name_laws.specs.layout_model.declared.lines.Draft.{Draft}
use Rattle.name_laws.specs.image_model.Live.{entry_in, is_live, is_of_file, live_entries}
use Rattle.name_laws.specs.image_model.Room.{held_after_recovery, unused_blocks}
use Rattle.name_laws.specs.image_model.Rules.{AreApart, HasStagingBlocks}
use Rattle.name_laws.specs.image_model.Volume.{Volume}
use Rattle.world_model.specs.Jobs.{Job, live_claims}

-- Live entries have their staging blocks, and share none; no two entries of one file have one order; and what files hold
-- once recovery has carried out the live entries leaves the reserve.
pub record AreLogRulesKept (v : Volume) (f : Words) : Type 0 where
  pub staged : All (HasStagingBlocks v) (live_entries v f)
  pub apart : (s t : ℕ) (d e : Draft) → s < t → t < v.geometry.log → entry_in v f s ≡ Some d → entry_in v f t ≡ Some e → is_live v d ≡ true → is_live v e ≡ true → AreApart d e
  pub orders : (s t : ℕ) (d e : Draft) → s < t → t < v.geometry.log → entry_in v f s ≡ Some d → entry_in v f t ≡ Some e → is_of_file v d ≡ true → is_of_file v e ≡ true → d.ino ≡ e.ino → d.order ≢ e.order
  pub held : held_after_recovery v (live_entries v f) + reserve v.geometry ≤ data_blocks v.geometry

-- Nothing names blocks enough to publish each live claim and each write in flight by itself.
abbrev pub HasFreeBlocks : Volume → List (ℕ × Draft) → List Job → Type 0
HasFreeBlocks v claims jobs = length (live_claims v claims) + length jobs + reserve v.geometry ≤ unused_blocks v + 3
