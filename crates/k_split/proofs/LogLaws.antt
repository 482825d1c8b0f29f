-- A log whose lines become zero: the device stands at the same volume.
use Rattle.std.proofs.Common.{◌≡◌, ℕ, ◌+◌, ◌*◌, ◌/◌, ◌<◌, Bool, true, List, length, refl, ◌∙◌, ap, subst, arith}
use Rattle.std.proofs.lemmas.Bool.{both_ways}
use Rattle.std.proofs.lemmas.Bool.Decides.{nat_tests}
use Rattle.block_io.specs.pm_model.declared.Cell.{Cell}
use Rattle.block_io.specs.pm_model.declared.Cell.TheVariants.{Single}
use Rattle.block_io.specs.pm_model.CellLaws.{settled-single}
use Rattle.block_io.specs.pm_model.Cells.{cell, is_single, newest, Settles}
use Rattle.block_io.specs.pm_model.Words.{Words}
use Rattle.block_io.specs.layout_model.Journal.{is_journal_word, journaled}
use Rattle.block_io.specs.layout_model.PlaceLaws.{behind_log-not_journaled, behind_log-words}
use Rattle.block_io.specs.layout_model.Places.{commit_word, is_data_block, is_journaled_line, log_block, log_line}
use Rattle.block_io.specs.image_model.Volume.{Volume}
use Rattle.block_io.specs.Overwrites.{AreGoingToZero, AreLinesZeroed, IsInLines, SameBesideLines}
use Rattle.block_io.specs.pm_model.Frames.{KeepsSingle, SameLent}
use Rattle.block_io.specs.pm_model.ImageLaws.{IsImage-words_of}
use Rattle.block_io.specs.pm_model.Images.{Follows, words_of}
use Rattle.k_tables.specs.volume_laws.ImageLaws.{journaled-same}
use Rattle.k_group_commit.specs.BesideLaws.{ChangesOthers, reads-others, rests-data, RestsOn}
use Rattle.k_map_plans.specs.k_journal.declared.batches.Record.{Record}
use Rattle.k_map_plans.specs.k_plans.View.{TablesView}
use Rattle.k_split.specs.Laps.{ClearsLog, IsLogWord, LosesLog}
use Rattle.k_split.specs.Order.{IsReady, IsSteady, view_of}
use Rattle.k_split.proofs.Beside.{ready-others, view-reads}
use Rattle.k_split.proofs.Steady.{steady-reads}

module _ (v : Volume) where
  -- words of the log are none of the journal, of a journaled line, of a data block
  pub journal_beside : (i : ℕ) → is_journal_word i ≡ true → ¬ IsLogWord v i
  journal_beside i is at = both_ways (is_journal_word i) (behind_log-words v.geometry i (omega (arith, at.from))) is

  pub line_beside : (i : ℕ) → is_journaled_line v.geometry (i / 8) ≡ true → ¬ IsLogWord v i
  line_beside i is at = both_ways (is_journaled_line v.geometry (i / 8)) (behind_log-not_journaled v.geometry (i / 8) at.from) is

  pub data_beside : (b j : ℕ) → is_data_block v.geometry b ≡ true → j < 512 → ¬ IsLogWord v (512 * b + j)
  data_beside b j is short at = grind (arith, nat_tests, is, short, at.below)

  pub seen : (before image : Words) → SameBesideLines (log_line v.geometry 0) v.geometry.log before image → (i : ℕ) → ¬ IsLogWord v i → journaled image i ≡ journaled before i
  seen before image same i beside = journaled-same before image i (λ w journal. same w (journal_beside w journal)) (same i beside)

-- The lines that are zeroed are those of the log.
abbrev Zeroed : ℕ → ℕ → List Cell → List Cell → Type 0
Zeroed first count d e =
    Follows (SameBesideLines first count) d e × ((i : ℕ) → ¬ IsInLines first count i → Settles (cell d i) (cell e i))
    × Follows (AreLinesZeroed first count) d e × AreGoingToZero first count d e

pub cleared : (v : Volume) (d e : List Cell) (first count : ℕ) → first ≡ log_line v.geometry 0 → count ≡ v.geometry.log → length e ≡ length d → SameLent d e
    → Zeroed first count d e → KeepsSingle d e → ClearsLog v d e
cleared v d e first count from many size lent zeroed singles =
    let z : Zeroed (log_line v.geometry 0) v.geometry.log d e = subst (λ m. Zeroed (log_line v.geometry 0) m d e) many (subst (λ n. Zeroed n count d e) from zeroed) in
    record { loses = record { size = size; lent = lent; each_image = z.0; others = z.1; words = z.3 }; zero = z.2; singles = singles }

-- likewise where the power may have gone
abbrev Zeroing : ℕ → ℕ → List Cell → List Cell → Type 0
Zeroing first count d e =
    Follows (SameBesideLines first count) d e × ((i : ℕ) → ¬ IsInLines first count i → Settles (cell d i) (cell e i)) × AreGoingToZero first count d e

pub losing : (v : Volume) (d e : List Cell) (first count : ℕ) → first ≡ log_line v.geometry 0 → count ≡ v.geometry.log → length e ≡ length d → SameLent d e
    → Zeroing first count d e → LosesLog v d e
losing v d e first count from many size lent zeroing =
    let z : Zeroing (log_line v.geometry 0) v.geometry.log d e = subst (λ m. Zeroing (log_line v.geometry 0) m d e) many (subst (λ n. Zeroing n count d e) from zeroing) in
    record { size = size; lent = lent; each_image = z.0; others = z.1; words = z.2 }

-- ---- K-Split is ready again

-- words of the metadata, and of data blocks, are none of the log
pub low_beside : (v : Volume) (i : ℕ) → i < 512 * log_block v.geometry → ¬ IsLogWord v i
low_beside v i low at = omega (arith, low, at.from)

pub data_apart : (v : Volume) (i : ℕ) → is_data_block v.geometry (i / 512) ≡ true → ¬ IsLogWord v i
data_apart v i is at = grind (arith, nat_tests, is, at.below)

module _ (t : TablesView) (group b : List Record) (d : List Cell) (batched : Bool) (ready : IsReady t group b d batched) where
  pub rests-log : RestsOn t.volume.geometry ready.committed ready.opened.news (λ i. ¬ IsLogWord t.volume i)
  rests-log = rests-data ready.committed t group d ready.opened (λ i. ¬ IsLogWord t.volume i) (low_beside t.volume) (data_apart t.volume)

  module _ (e : List Cell) (loses : LosesLog t.volume d e) where
    -- wherever the power goes, the volume of the device is the one that it was
    pub view_loses : (lost now : Bool) → view_of t group e batched now ≡ record (view_of t group d batched lost) { cells = e; lost = now }
    view_loses lost now =
        let f = loses.each_image (words_of e) (IsImage-words_of e) in
        view-reads t group b d e batched ready lost now
        (reads-others t.volume.geometry ready.committed ready.opened.news (λ i. ¬ IsLogWord t.volume i) rests-log d ready.opened.are.stands f.0 (words_of e)
        f.1.is_image f.2)

    pub steady-loses : IsSteady t.volume.geometry e
    steady-loses =
        let f = loses.each_image (words_of e) (IsImage-words_of e) in
        steady-reads t group b d batched ready e loses.lent
        (reads-others t.volume.geometry ready.committed ready.opened.news (λ i. ¬ IsLogWord t.volume i) rests-log d ready.opened.are.stands f.0 (words_of e)
        f.1.is_image f.2)

    changes-log : KeepsSingle d e → ChangesOthers (λ i. ¬ IsLogWord t.volume i) d e
    changes-log singles = record {
      size = loses.size;
      idle = λ is.
          settled-single (cell d commit_word) (cell e commit_word) (loses.others commit_word (journal_beside t.volume commit_word refl)) (ap is_single is)
          ∙ ap (λ c. Single (newest c)) is;
      singles = λ i stays. singles i;
      comes = λ image is. let f = loses.each_image image is in (f.0, f.1.is_image, f.2);
    }

    pub ready_cleared : KeepsSingle d e → IsReady t group b e batched
    ready_cleared singles =
        ready-others t group b d e batched ready (λ i. ¬ IsLogWord t.volume i) rests-log (changes-log singles)
        (λ i in_data free. singles i (ready.unstaged i in_data free))
