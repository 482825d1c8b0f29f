-- The words after some records, as a recovery makes them durable one by one.
use Rattle.std.proofs.Common.{◌≡◌, ◌≢◌, ◌+◌, ◌*◌, ◌/◌, ◌%◌, ◌<◌, ◌≤◌, ℕ, false, List, refl, sym, ◌∙◌, ap, inl, inr, ⊎_elim, arith, lit≤}
use Rattle.std.proofs.lemmas.Bool.{both_ways, cases_eq}
use Rattle.image_layout.specs.layout_model.Journal.{journaled, patched, record_target, record_word}
use Rattle.image_layout.specs.layout_model.PlaceLaws.{journaled_bounds}
use Rattle.image_layout.specs.layout_model.Places.{Geometry, commit_word, record_line, is_journaled_line}
use Rattle.k_journal.specs.Patches.{find_target, patched-miss, patched-hit, patched-same, patched-last, patched-skip}
use Rattle.k_journal.specs.Recoveries.{KeepsView, AreApart, AreJournaled, IsReplayStage}
use Rattle.k_journal.specs.Recoveries.IsReplayStage.{Pending, Emptied}
use Rattle.pm_lines.specs.pm_model.declared.Cell.{Cell}
use Rattle.pm_lines.specs.pm_model.declared.Cell.TheVariants.{Single}
use Rattle.pm_lines.specs.pm_model.Cells.{cell, newest, AllSingle}
use Rattle.pm_lines.specs.pm_model.ImageLaws.{image-single}
use Rattle.pm_lines.specs.pm_model.Images.{IsImage, words_of}
use Rattle.pm_lines.specs.pm_model.Words.{Words}
use Rattle.k_journal.proofs.Views.{same_views, journaled-journal, journaled-counted, journaled-idle, not_commit_word}

-- a word of the records stays
pub patched-record : (n : ℕ) (w : Words) (i : ℕ) → AreApart n w → 64 ≤ i / 8 → i / 8 < 320 → patched n (record_target w) (record_word w) w i ≡ w i
patched-record n w i apart from below = patched-miss n (record_target w) (record_word w) w i (λ r h e. ⊎_elim
    (λ (state : record_target w r ≡ 2). absurd (omega arith))
    (λ (region : 320 ≤ record_target w r). absurd (omega arith))
    (apart r h))

-- The device `mid` has the words after n records of `old`.
pub record IsReplayed (n : ℕ) (old mid : List Cell) : Type 0 where
  pub words : (i : ℕ) → cell mid i ≡ Single (patched n (record_target (words_of old)) (record_word (words_of old)) (words_of old) i)

kept : (n : ℕ) (old mid : List Cell) (i : ℕ) → AreApart n (words_of old) → IsReplayed n old mid → 64 ≤ i / 8 → i / 8 < 320 → words_of mid i ≡ words_of old i
kept n old mid i apart replayed from below = ap newest (replayed.words i) ∙ patched-record n (words_of old) i apart from below

pub record_target-kept : (n : ℕ) (old mid : List Cell) → n < 128 → AreApart n (words_of old) → IsReplayed n old mid → record_target (words_of mid) n ≡ record_target (words_of old) n
record_target-kept n old mid h apart replayed = kept n old mid (8 * record_line n) apart replayed (omega arith) (omega arith)

pub record_word-kept : (n : ℕ) (old mid : List Cell) (i : ℕ) → n < 128 → AreApart n (words_of old) → IsReplayed n old mid
    → record_word (words_of mid) n (i % 8) ≡ record_word (words_of old) n (i % 8)
record_word-kept n old mid i h apart replayed = kept n old mid (8 * (record_line n + 1) + i % 8) apart replayed (omega arith) (omega arith)

-- one record more
pub replayed-more : (n : ℕ) (old mid new : List Cell) → n < 128 → AreApart n (words_of old) → IsReplayed n old mid
    → ((i : ℕ) → record_target (words_of mid) n ≢ i / 8 → cell new i ≡ cell mid i)
    → ((i : ℕ) → record_target (words_of mid) n ≡ i / 8 → cell new i ≡ Single (record_word (words_of mid) n (i % 8)))
    → (i : ℕ) → cell new i ≡ Single (patched (n + 1) (record_target (words_of old)) (record_word (words_of old)) (words_of old) i)
replayed-more n old mid new h apart replayed others done i =
    let w : Words = words_of old in
    let target : record_target (words_of mid) n ≡ record_target w n = record_target-kept n old mid h apart replayed in
    ⊎_elim
    (λ (at : record_target w n ≡ i / 8).
    done i (target ∙ at) ∙ ap Single (record_word-kept n old mid i h apart replayed ∙ sym (patched-last n (record_target w) (record_word w) w i at)))
    (λ (ne : record_target w n ≢ i / 8).
    others i (λ e. ne (sym target ∙ e)) ∙ replayed.words i ∙ ap Single (sym (patched-skip n (record_target w) (record_word w) w i ne)))
    (cases_eq (record_target w n) (i / 8))

-- ---- journaled targets

-- journaled targets are apart from the journal
pub apart-journaled : (g : Geometry) (n : ℕ) (w : Words) → AreJournaled g n w → AreApart n w
apart-journaled g n w journaled r h = elim (journaled_bounds g (record_target w r) (journaled r h)) [
  | inl state ↦ inl state
  | inr region ↦ inr (elim region [ inl inodes ↦ inodes.0 | inr names ↦ omega (arith, names.0) ])
]

-- a word that is on no journaled line is on none of the records'
pub not_target : (g : Geometry) (n : ℕ) (w : Words) (i : ℕ) → AreJournaled g n w → is_journaled_line g (i / 8) ≡ false → (r : ℕ) → r < n → record_target w r ≢ i / 8
not_target g n w i journaled other r h e = both_ways (is_journaled_line g (i / 8)) other (rw e at (journaled r h))

-- ---- the view of an image

-- words that are not the records' lines, over the same journal
same_journal : (g : Geometry) (n : ℕ) (w image : Words) → AreJournaled g n w → ((i : ℕ) → i ≢ commit_word → ((r : ℕ) → r < n → record_target w r ≢ i / 8) → image i ≡ w i)
    → (i : ℕ) → 64 ≤ i / 8 → i / 8 < 320 → image i ≡ w i
same_journal g n w image journaled same i from below =
    same i (λ e. absurd (omega arith)) (λ r h e. ⊎_elim
    (λ (state : record_target w r ≡ 2). absurd (omega arith))
    (λ (region : 320 ≤ record_target w r). absurd (omega arith))
    (apart-journaled g n w journaled r h))

pub keeps_view : (g : Geometry) (n : ℕ) (w image : Words) → w commit_word ≡ n → n ≤ 128 → AreJournaled g n w → IsReplayStage n w image → KeepsView g w image
keeps_view g n w image pending most journaled_targets (Pending count same) =
    let target : (r : ℕ) → r < n → record_target image r ≡ record_target w r = λ r h.
    same_journal g n w image journaled_targets same (8 * record_line r) (omega arith) (omega arith) in
    let word : (r i : ℕ) → r < n → record_word image r (i % 8) ≡ record_word w r (i % 8) = λ r i h.
    same_journal g n w image journaled_targets same (8 * (record_line r + 1) + i % 8) (omega arith) (omega arith) in
    record {
      view = same_views (journaled image) (journaled w)
          (λ i journal. journaled-journal image i journal ∙ sym (journaled-journal w i journal))
          (λ i apart. journaled-counted image n i count most apart
          ∙ patched-same n (record_target image) (record_target w) (record_word image) (record_word w) image i target (λ r h. word r i h)
          ∙ ⊎_elim
          (λ (found : (r : ℕ) × (r < n) × (record_target w r ≡ i / 8)). patched-hit n (record_target w) (record_word w) image w i found.0 found.1 found.2)
          (λ (none : (r : ℕ) → r < n → record_target w r ≢ i / 8). patched-miss n (record_target w) (record_word w) image i none
          ∙ same i (not_commit_word i apart) none ∙ sym (patched-miss n (record_target w) (record_word w) w i none))
          (find_target n (record_target w) (i / 8))
          ∙ sym (journaled-counted w n i pending most apart));
      others = λ i other not_count. same i not_count (not_target g n w i journaled_targets other);
      sound = λ sound. record { count = rw count most; targets = λ r h. rw (target r (rw count at h)) (journaled_targets r (rw count at h)) };
    }
keeps_view g n w image pending most journaled_targets (Emptied count set) = record {
  view = same_views (journaled image) (journaled w)
      (λ i journal. journaled-journal image i journal ∙ sym (journaled-journal w i journal))
      (λ i apart. journaled-idle image i count apart ∙ set i (not_commit_word i apart) ∙ sym (journaled-counted w n i pending most apart));
  others = λ i other not_count. set i not_count ∙ patched-miss n (record_target w) (record_word w) w i (not_target g n w i journaled_targets other);
  sound = λ sound. record { count = rw count (lit≤ tt); targets = λ r h. absurd (omega (arith, count)) };
}

-- an image of a device that is as it was
pub keeps_view-same : (g : Geometry) (d : List Cell) (image : Words) → AllSingle d → IsImage d image → KeepsView g (words_of d) image
keeps_view-same g d image single is =
    rw (image-single d image single is) record { view = refl; others = λ i other not_count. refl; sound = λ sound. sound }
