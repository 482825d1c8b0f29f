-- The next lap of the log begins: what K-Split answers, with power for all of it.
use Rattle.std.specs.Prelude.{◌≡◌, ◌≤◌, ◌<◌, ◌^◌, ◌/◌, ℕ, true, false, List}
use Rattle.std.proofs.Common.{◌∙◌, sym, ap, subst, arith, inl, inr}
use Rattle.std.proofs.lemmas.Bool.{cases_lt}
use Rattle.world_image_laws.specs.pm_model.declared.Cell.{Cell}
use Rattle.world_image_laws.specs.pm_model.declared.Cell.TheVariants.{Single}
use Rattle.world_image_laws.specs.pm_model.CellLaws.{settled-single, single-newest}
use Rattle.world_image_laws.specs.pm_model.Cells.{AllSingle, cell, is_single, newest, Settles}
use Rattle.world_image_laws.specs.pm_model.ImageLaws.{IsImage-words_of}
use Rattle.world_image_laws.specs.pm_model.Images.{words_of}
use Rattle.world_image_laws.specs.layout_model.Journal.{is_journal_word}
use Rattle.world_image_laws.specs.layout_model.PlaceLaws.{behind_log-not_journaled, behind_log-words}
use Rattle.world_image_laws.specs.layout_model.Places.{is_journaled_line}
use Rattle.world_image_laws.specs.image_model.Volume.{Volume}
use Rattle.k_split.specs.k_journal.declared.outcomes.Commit.{Commit}
use Rattle.world_image_laws.specs.k_split_model.View.{View}
use Rattle.k_split.specs.Answers.{IsDone}
use Rattle.k_split.specs.Laps.{ClearsLog, IsBaseAnswer, IsLogWord, IsRestartAnswer, next_base}
use Rattle.log_replay.specs.NextLaps.{BeginsLap, IsRestarted, IsRisen}
use Rattle.log_replay.specs.Sheds.{IsAtRest}

-- a word that settles, of one candidate, is as it was
pub stays : (old new : Cell) → is_single old ≡ true → Settles old new → new ≡ old
stays old new single settles = settled-single old new settles single ∙ sym (single-newest old single)

module _ (k k2 : View) (rest : IsAtRest k) where
  log_beside : (i : ℕ) → IsLogWord k.volume i → is_journal_word i ≡ false
  log_beside i at = behind_log-words k.volume.geometry i (omega (arith, at.from))

  log_no_line : (i : ℕ) → IsLogWord k.volume i → is_journaled_line k.volume.geometry (i / 8) ≡ false
  log_no_line i at = behind_log-not_journaled k.volume.geometry (i / 8) at.from

  module _ (middle : List Cell) (single : AllSingle middle) (done : IsDone (record k { cells = middle }) k2) where
    at_rest : IsAtRest k2
    at_rest = record { order = done.order; unbatched = done.batched ∙ rest.unbatched; on = done.kept_on; single = λ i. done.singles i (single i) }

    kept : (i : ℕ) → is_journal_word i ≡ false → is_journaled_line k.volume.geometry (i / 8) ≡ false → cell k2.cells i ≡ cell middle i
    kept i out line =
        stays (cell middle i) (cell k2.cells i) (single i)
        (done.changes.others i out (subst (λ (v : Volume). is_journaled_line v.geometry (i / 8) ≡ false) (sym (rest.order.settled rest.unbatched)) line))

  pub risen : IsBaseAnswer (next_base k.volume) k k2 Commit.Done → IsAtRest k2 × IsRisen k k2
  risen done = (at_rest k.cells rest.single done.1, record { volume_is = done.0; others = kept k.cells rest.single done.1 })

  pub restarted : IsRestartAnswer k k2 Commit.Done → IsAtRest k2 × IsRestarted k k2
  restarted done = (
    at_rest done.0 single done.2.1,
    record {
      volume_is = done.2.0;
      zero = λ i at. kept done.0 single done.2.1 i (log_beside i at) (log_no_line i at) ∙ single-newest (cell done.0 i) (single i) ∙ ap Single (zeros i at);
      others = λ i out line beside.
          kept done.0 single done.2.1 i out line
          ∙ stays (cell k.cells i) (cell done.0 i) (rest.single i) (clear.loses.others i beside);
    },
  ) where
    clear : ClearsLog k.volume k.cells done.0
    clear = done.1

    single : AllSingle done.0
    single i = clear.singles i (rest.single i)

    zeros : (i : ℕ) → IsLogWord k.volume i → newest (cell done.0 i) ≡ 0
    zeros i at = (clear.zero (words_of done.0) (IsImage-words_of done.0)).2.zero i at

-- WITH POWER FOR ALL OF IT the lap begins.
pub lap_done : (k k2 : View) (r : Commit) → IsAtRest k → r ≡ Commit.Done → (k.volume.base ≤ 2 ^ 62 → IsBaseAnswer (next_base k.volume) k k2 r) → (2 ^ 62 < k.volume.base → IsRestartAnswer k k2 r) → IsAtRest k2 × BeginsLap k k2
lap_done k k2 r rest done rises anew = elim (cases_lt (2 ^ 62) k.volume.base) [
  | inl high ↦ let is = restarted k k2 rest (subst (IsRestartAnswer k k2) done (anew high)) in (is.0, inr (high, is.1))
  | inr low ↦ let is = risen k k2 rest (subst (IsBaseAnswer (next_base k.volume) k k2) done (rises low)) in (is.0, inl (low, is.1))
]
