-- A device that is settled, as one that was recovered from its own words.
use Rattle.std.specs.Prelude.{◌≡◌, ◌+◌, ◌*◌, ◌≤◌, ◌<◌, ◌^◌, [], refl}
use Rattle.std.proofs.Common.{◌∙◌, sym, ap, subst, arith}
use Rattle.world_image_laws.specs.pm_model.CellLaws.{single-newest}
use Rattle.world_image_laws.specs.pm_model.Cells.{cell, newest}
use Rattle.world_image_laws.specs.pm_model.declared.Cell.TheVariants.{Single}
use Rattle.world_image_laws.specs.pm_model.ImageLaws.{IsImage-words_of}
use Rattle.world_image_laws.specs.pm_model.Images.{words_of}
use Rattle.world_image_laws.specs.pm_model.Powers.{Steps, Supply}
use Rattle.world_image_laws.specs.layout_model.Journal.{journaled}
use Rattle.world_image_laws.specs.layout_model.Places.{Geometry}
use Rattle.world_image_laws.specs.image_model.Live.{live_entries}
use Rattle.world_image_laws.specs.image_model.Volume.{Volume, volume}
use Rattle.world_image_laws.specs.volume_laws.ImageLaws.{journaled-idle}
use Rattle.world_image_laws.specs.volume_laws.ReadingLaws.{reads-volume}
use Rattle.k_split.specs.k_journal.declared.outcomes.Commit.{Commit}
use Rattle.world_image_laws.specs.k_split_model.Stands.{Stands}
use Rattle.world_image_laws.specs.k_split_model.View.{View}
use Rattle.k_split.specs.Laps.{IsBaseAnswer, IsRestartAnswer, next_base}
use Rattle.log_replay.specs.Laws.{IsRecovered}
use Rattle.log_replay.specs.NextLaps.{BeginsLap}
use Rattle.log_replay.specs.Sheds.{IsAtRest, IsSettled, LosesNameless, MaySettle, OnCommit, Sheds}
use Rattle.log_replay.proofs.LapAnswers.{lap_done}
use Rattle.log_replay.proofs.Opened.{checked_again, content_of_image, dead_again, numbers_again, shown_in, words_of_image}
use Rattle.log_replay.proofs.Remounting.{settled_now}

-- ---- as one that was recovered from its own words

module _ (k : View) (may : MaySettle k) where
  stands : Stands k.volume.geometry k.volume k.cells
  stands = subst (λ (v : Volume). Stands v.geometry v k.cells) (may.rest.order.settled may.rest.unbatched) may.rest.order.stands

  pub recovered-own : IsRecovered (words_of k.cells) k.cells
  recovered-own = record {
    words = λ i out. single-newest (cell k.cells i) (may.rest.single i) ∙ ap Single (sym (journaled-idle (words_of k.cells) i (ap newest stands.idle) out));
    idle = stands.idle;
  }

  pub volume-own : k.volume ≡ volume k.volume.geometry (journaled (words_of k.cells))
  volume-own = sym (reads-volume k.volume.geometry (journaled (words_of k.cells)) k.volume (stands.reads (words_of k.cells) (IsImage-words_of k.cells)))

  pub dead-own : live_entries (volume k.volume.geometry (journaled (words_of k.cells))) (journaled (words_of k.cells)) ≡ []
  dead-own = subst (λ v. live_entries v (journaled (words_of k.cells)) ≡ []) volume-own may.dead

-- ---- it is settled

pub within : (v : Volume) (a b : Supply) → Steps (256 * v.geometry.inodes) a b → Steps (256 * v.geometry.inodes + 9 * v.geometry.log + 257) a b
within v a b steps = record { given = steps.given; on_before = steps.on_before; later = steps.later; bound = omega (arith, steps.bound) }

pub settle-steps : (k k2 : View) (a b c : Supply) → LosesNameless k k2 → Steps (256 * k.volume.geometry.inodes) a b → Steps (9 * k2.volume.geometry.log + 257) b c
    → Steps (256 * k.volume.geometry.inodes + 9 * k.volume.geometry.log + 257) a c
settle-steps k k2 a b c loses first second = record {
  given = second.given ∙ first.given;
  on_before = λ on. first.on_before (second.on_before on);
  later = omega (arith, first.later, second.later);
  bound = omega (arith, first.bound, second.bound, ap (λ (g : Geometry). g.log) loses.sheds.geometry);
}

settle-both : (k k2 k3 : View) → MaySettle k → LosesNameless k k2 → IsAtRest k3 → BeginsLap k2 k3 → IsSettled k.volume.geometry (words_of k.cells) k3
settle-both k k2 k3 may loses rest3 lap =
    let g = k.volume.geometry in
    let image = words_of k.cells in
    let words = recovered-own k may in
    let volume_is = volume-own k may in
    let dead = dead-own k may in
    settled_now g image k2 k3 loses.rest rest3 lap
    (numbers_again g image k k2 may.numbers may.checked words volume_is may.rest loses.sheds loses.others loses.rest loses.free dead)
    (checked_again g image k k2 may.numbers may.checked words volume_is may.rest loses.sheds loses.others loses.rest loses.free dead)
    (dead_again g image k k2 may.numbers may.checked words volume_is may.rest loses.sheds loses.others loses.rest loses.free dead)
    loses.named
    (subst (λ v. Sheds v k2.volume) volume_is loses.sheds)
    (words_of_image g image k k2 may.numbers may.checked words volume_is may.rest loses.sheds loses.others)
    (λ f data_is path.
    shown_in g image k k2 may.numbers may.checked words volume_is may.rest loses.sheds loses.others f data_is path
    ∙ sym (content_of_image g image k k2 may.numbers may.checked words volume_is may.rest loses.sheds loses.others dead path))

pub settle-done : (k k2 k3 : View) (r : Commit) → MaySettle k → LosesNameless k k2 → (k2.volume.base ≤ 2 ^ 62 → IsBaseAnswer (next_base k2.volume) k2 k3 r)
    → (2 ^ 62 < k2.volume.base → IsRestartAnswer k2 k3 r) → OnCommit r (IsSettled k.volume.geometry (words_of k.cells) k3)
settle-done k k2 k3 Commit.Done may loses rises anew =
    let lap = lap_done k2 k3 Commit.Done loses.rest refl rises anew in
    settle-both k k2 k3 may loses lap.0 lap.1
settle-done k k2 k3 Commit.PowerLost may loses rises anew = tt
