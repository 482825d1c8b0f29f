-- The journaled view of the images of a device, at each stage of a commit.
use Rattle.std.proofs.Common.{◌≡◌, ◌≢◌, ◌+◌, ◌*◌, ◌/◌, ◌%◌, ◌<◌, ◌≤◌, ℕ, true, false, leb, ltb, eqb, ◌&&◌, List, length, refl, sym, ◌∙◌, ap, inl, inr, ⊎_elim, arith, lit≤, lit<, if◌then◌else◌}
use Rattle.std.proofs.Math.Path.{fun_ext}
use Rattle.std.proofs.lemmas.Bool.{cases_Bool, cond-true, cond-false, le-leb, both_ways, false_from_ne_true, or_cases, or_parts, and_parts, eqb-true, eq-eqb, ne_eqb, leb-true, lt-leb, ltb-true, or_from, and_left}
use Rattle.image_layout.specs.layout_model.Journal.{is_journal_word, journaled, committed, patched, record_target, record_word}
use Rattle.image_layout.specs.layout_model.Places.{Geometry, commit_word, record_line, name_line, is_journaled_line}
use Rattle.k_journal.specs.Batch.{target, content, with_batch, IsDistinct, IsNew}
use Rattle.k_journal.specs.Commits.{MayCommit, IsBeforeOrAfter, IsAfter}
use Rattle.k_journal.specs.Patches.{find_target, patched-none, patched-miss, patched-hit, patched-at, patched-same}
use Rattle.k_journal.specs.Phases.{AreRecorded, AreInPlace, IsStage}
use Rattle.k_journal.specs.Phases.IsStage.{Unbegun, Recorded, Applied}
use Rattle.k_journal.specs.declared.batches.Record.{Record}
use Rattle.pm_lines.specs.pm_model.declared.Cell.{Cell}
use Rattle.pm_lines.specs.pm_model.declared.Cell.TheVariants.{Single}
use Rattle.pm_lines.specs.pm_model.CellLaws.{candidate-single, candidate-settles, newest-candidate, settled-single, single-home}
use Rattle.pm_lines.specs.pm_model.Cells.{cell, is_single, is_lent, newest, Settles}
use Rattle.pm_lines.specs.pm_model.Images.{IsImage, ComesFrom, Follows, Follows-same, words_of}
use Rattle.pm_lines.specs.pm_model.Words.{Words}

-- ---- the words of the journal

pub journal_word-below : (w : ℕ) → is_journal_word w ≡ true → w < 2560
journal_word-below w journal = ⊎_elim
    (λ (e : (eqb w 8) ≡ true). let at : w ≡ 8 = eqb-true w 8 e in omega arith)
    (λ (e : (leb 512 w && ltb w 2560) ≡ true). ltb-true w 2560 (and_parts (leb 512 w) (ltb w 2560) e).1)
    (or_cases (eqb w 8) (leb 512 w && ltb w 2560) journal)

pub not_commit_word : (w : ℕ) → is_journal_word w ≡ false → w ≢ commit_word
not_commit_word w apart e = both_ways (eqb w 8) (or_parts (eqb w 8) (leb 512 w && ltb w 2560) apart).0 (eq-eqb w 8 e)

-- a word of the journal is on no journaled line
pub journal_word-apart : (g : Geometry) (w : ℕ) → is_journal_word w ≡ true → is_journaled_line g (w / 8) ≡ false
journal_word-apart g w journal =
    let below : w < 2560 = journal_word-below w journal in
    let not_state : w / 8 ≢ 2 = λ e. ⊎_elim
    (λ (first : eqb w 8 ≡ true). let at : w ≡ 8 = eqb-true w 8 first in absurd (omega arith))
    (λ (record_word : (leb 512 w && ltb w 2560) ≡ true).
    let above : 512 ≤ w = leb-true 512 w (and_parts (leb 512 w) (ltb w 2560) record_word).0 in absurd (omega arith))
    (or_cases (eqb w 8) (leb 512 w && ltb w 2560) journal) in
    or_from _ _
    (or_from _ _ (ne_eqb (w / 8) 2 not_state) (and_left _ _ (lt-leb 320 (w / 8) (omega arith))))
    (and_left _ _ (lt-leb (name_line g 0) (w / 8) (omega arith)))

-- ---- the journaled view

pub committed-is : (image : Words) (n : ℕ) → image 8 ≡ n → n ≤ 128 → committed image ≡ n
committed-is image n count most = rw count (cond-true (leb n 128) n 0 (le-leb n 128 most))

pub journaled-journal : (image : Words) (w : ℕ) → is_journal_word w ≡ true → journaled image w ≡ 0
journaled-journal image w journal = cond-true (is_journal_word w) 0 (patched (committed image) (record_target image) (record_word image) image w) journal

-- with n records, in a word that is not the journal's
pub journaled-counted : (image : Words) (n w : ℕ) → image 8 ≡ n → n ≤ 128 → is_journal_word w ≡ false
    → journaled image w ≡ patched n (record_target image) (record_word image) image w
journaled-counted image n w count most apart =
    cond-false (is_journal_word w) 0 (patched (committed image) (record_target image) (record_word image) image w) apart
    ∙ ap (λ m. patched m (record_target image) (record_word image) image w) (committed-is image n count most)

pub journaled-idle : (image : Words) (w : ℕ) → image 8 ≡ 0 → is_journal_word w ≡ false → journaled image w ≡ image w
journaled-idle image w count apart =
    journaled-counted image 0 w count (lit≤ tt) apart ∙ patched-none (record_target image) (record_word image) image w

-- two views are the same where they are so outside the journal
pub same_views : (f g : Words) → ((w : ℕ) → is_journal_word w ≡ true → f w ≡ g w) → ((w : ℕ) → is_journal_word w ≡ false → f w ≡ g w) → f ≡ g
same_views f g journal apart = fun_ext (λ w. ⊎_elim (journal w) (apart w) (cases_Bool (is_journal_word w)))

-- ---- the images of a device that a commit has changed, and the image before

-- the image before: what each word of one candidate had, and else the image's word
pub before : List Cell → Words → Words
before old image i = if is_single (cell old i) then newest (cell old i) else image i

before-single : (old : List Cell) (image : Words) (i : ℕ) → is_single (cell old i) ≡ true → before old image i ≡ newest (cell old i)
unfolding before
before-single old image i single = cond-true (is_single (cell old i)) (newest (cell old i)) (image i) single

before-other : (old : List Cell) (image : Words) (i : ℕ) → is_single (cell old i) ≡ false → before old image i ≡ image i
unfolding before
before-other old image i other = cond-false (is_single (cell old i)) (newest (cell old i)) (image i) other

-- Words outside the journal and the batch's lines only settled.
pub record IsFramed (b : List Record) (old new : List Cell) : Type 0 where
  pub frame : (i : ℕ) → is_journal_word i ≡ false → IsNew b (i / 8) → Settles (cell old i) (cell new i)

-- a word with several candidates is neither the journal's nor one of the batch's lines
apart_word : (g : Geometry) (b : List Record) (old : List Cell) (i : ℕ) → MayCommit g b old → is_single (cell old i) ≡ false → (is_journal_word i ≡ false) × IsNew b (i / 8)
apart_word g b old i may other = (
  false_from_ne_true (is_journal_word i) (λ journal. both_ways (is_single (cell old i)) other (may.journal i (journal_word-below i journal))),
  λ k h e. both_ways (is_single (cell old i)) other (may.targets k h i (sym e)),
)

pub comes_from : (g : Geometry) (b : List Record) (old new : List Cell) (image : Words) → MayCommit g b old → IsFramed b old new → IsImage new image
    → ComesFrom old image (before old image)
comes_from g b old new image may framed is = record {
  is_image = λ i. ⊎_elim
      (λ (single : is_single (cell old i) ≡ true). rw (before-single old image i single) (newest-candidate (cell old i)))
      (λ (other : is_single (cell old i) ≡ false).
      let apart : (is_journal_word i ≡ false) × IsNew b (i / 8) = apart_word g b old i may other in
      rw (before-other old image i other) (candidate-settles (cell old i) (cell new i) (image i) (framed.frame i apart.0 apart.1) (is i)))
      (cases_Bool (is_single (cell old i)));
  lent = λ i lent. before-other old image i (false_from_ne_true (is_single (cell old i)) (λ single. both_ways (is_lent (cell old i)) (single-home (cell old i) single) lent));
}

-- a word that only settled has in the image what it had before
settled_word : (old new : List Cell) (image : Words) (i : ℕ) → Settles (cell old i) (cell new i) → IsImage new image → image i ≡ before old image i
settled_word old new image i settles is = ⊎_elim
    (λ (single : is_single (cell old i) ≡ true).
    candidate-single (cell old i) (image i) single (candidate-settles (cell old i) (cell new i) (image i) settles (is i)) ∙ sym (before-single old image i single))
    (λ (other : is_single (cell old i) ≡ false). sym (before-other old image i other))
    (cases_Bool (is_single (cell old i)))

before-count : (g : Geometry) (b : List Record) (old : List Cell) (image : Words) → MayCommit g b old → before old image 8 ≡ 0
before-count g b old image may =
    let single : is_single (cell old 8) ≡ true = may.journal 8 (lit< tt) in
    before-single old image 8 single ∙ ap newest may.idle

-- outside the journal the view before is the image before
before-view : (g : Geometry) (b : List Record) (old : List Cell) (image : Words) (w : ℕ) → MayCommit g b old → is_journal_word w ≡ false → journaled (before old image) w ≡ before old image w
before-view g b old image w may apart = journaled-idle (before old image) w (before-count g b old image may) apart

-- a word of the journal is on none of the batch's lines
journal_word-new : (g : Geometry) (b : List Record) (old : List Cell) (w : ℕ) → MayCommit g b old → is_journal_word w ≡ true → IsNew b (w / 8)
journal_word-new g b old w may journal = λ k h e.
    both_ways (is_journaled_line g (w / 8)) (journal_word-apart g w journal) (rw (← e) (may.lines k h))

-- the batch's view of a word of the journal
batch-journal : (g : Geometry) (b : List Record) (old : List Cell) (f : Words) (w : ℕ) → MayCommit g b old → is_journal_word w ≡ true → with_batch b (journaled f) w ≡ 0
batch-journal g b old f w may journal =
    patched-miss (length b) (target b) (content b) (journaled f) w (journal_word-new g b old w may journal) ∙ journaled-journal f w journal

-- ---- the three stages

-- no record counts and the lines are as they were
pub old_view : (g : Geometry) (b : List Record) (old new : List Cell) (image : Words) → MayCommit g b old → IsImage new image → image 8 ≡ 0
    → ((i : ℕ) → is_journal_word i ≡ false → Settles (cell old i) (cell new i)) → IsBeforeOrAfter g b (before old image) image
old_view g b old new image may is count settles = record {
  view = inl (same_views (journaled image) (journaled (before old image))
      (λ w journal. journaled-journal image w journal ∙ sym (journaled-journal (before old image) w journal))
      (λ w apart. journaled-idle image w count apart ∙ settled_word old new image w (settles w apart) is ∙ sym (before-view g b old image w may apart)));
  others = λ w apart fresh. settled_word old new image w (settles w apart) is;
  sound = λ _. record { count = rw count (lit≤ tt); targets = λ r h. absurd (omega (arith, count)) };
}

recorded_target : (b : List Record) (n k : ℕ) (new : List Cell) (image : Words) → AreRecorded b n new → IsImage new image → k < n → record_target image k ≡ target b k
recorded_target b n k new image recorded is h = rw (recorded.targets k h) at (is (8 * record_line k))

recorded_word : (b : List Record) (n k w : ℕ) (new : List Cell) (image : Words) → AreRecorded b n new → IsImage new image → k < n → record_word image k (w % 8) ≡ content b k (w % 8)
recorded_word b n k w new image recorded is h =
    let i : ℕ = 8 * (record_line k + 1) + w % 8 in
    let column : i % 8 ≡ w % 8 = omega arith in
    rw (recorded.contents k i h (omega arith)) at (is i) ∙ ap (content b k) column

-- Words that one of the batch's lines hides, or that are as before, make the same view over either.
same_below : (b : List Record) (f g : Words) (w : ℕ) → (IsNew b (w / 8) → f w ≡ g w) → with_batch b f w ≡ with_batch b g w
same_below b f g w same = ⊎_elim
    (λ (found : (k : ℕ) × (k < length b) × (target b k ≡ w / 8)). patched-hit (length b) (target b) (content b) f g w found.0 found.1 found.2)
    (λ (none : (k : ℕ) → k < length b → target b k ≢ w / 8).
    patched-miss (length b) (target b) (content b) f w none ∙ same none ∙ sym (patched-miss (length b) (target b) (content b) g w none))
    (find_target (length b) (target b) (w / 8))

-- the records count
pub recorded_view : (g : Geometry) (b : List Record) (old new : List Cell) (image : Words) → MayCommit g b old → IsFramed b old new → IsImage new image
    → length b ≤ 128 → image 8 ≡ length b → AreRecorded b (length b) new → IsBeforeOrAfter g b (before old image) image
recorded_view g b old new image may framed is most count recorded = record {
  view = inr (same_views (journaled image) (with_batch b (journaled (before old image)))
      (λ w journal. journaled-journal image w journal ∙ sym (batch-journal g b old (before old image) w may journal))
      (λ w apart.
      journaled-counted image (length b) w count most apart
      ∙ patched-same (length b) (record_target image) (target b) (record_word image) (content b) image w
      (λ k h. recorded_target b (length b) k new image recorded is h)
      (λ k h. recorded_word b (length b) k w new image recorded is h)
      ∙ same_below b image (journaled (before old image)) w
      (λ fresh. settled_word old new image w (framed.frame w apart fresh) is ∙ sym (before-view g b old image w may apart))));
  others = λ w apart fresh. settled_word old new image w (framed.frame w apart fresh) is;
  sound = λ _. record { count = rw count most; targets = λ r h. rw (recorded_target b (length b) r new image recorded is (rw count at h)) (may.lines r (rw count at h)) };
}

-- no record counts and the lines are set
pub new_view : (g : Geometry) (b : List Record) (old new : List Cell) (image : Words) → MayCommit g b old → IsFramed b old new → IsImage new image
    → IsDistinct b → image 8 ≡ 0 → AreInPlace b (length b) new → IsAfter g b (before old image) image
new_view g b old new image may framed is distinct count done = record {
  view = same_views (journaled image) (with_batch b (journaled (before old image)))
      (λ w journal. journaled-journal image w journal ∙ sym (batch-journal g b old (before old image) w may journal))
      (λ w apart. journaled-idle image w count apart ∙ ⊎_elim
      (λ (found : (k : ℕ) × (k < length b) × (target b k ≡ w / 8)).
      rw (done found.0 w found.1 (sym found.2)) at (is w)
      ∙ sym (patched-at (length b) (target b) (content b) (journaled (before old image)) w found.0 distinct found.1 found.2))
      (λ (none : (k : ℕ) → k < length b → target b k ≢ w / 8).
      settled_word old new image w (framed.frame w apart none) is ∙ sym (before-view g b old image w may apart)
      ∙ sym (patched-miss (length b) (target b) (content b) (journaled (before old image)) w none))
      (find_target (length b) (target b) (w / 8)));
  others = λ w apart fresh. settled_word old new image w (framed.frame w apart fresh) is;
  sound = record { count = rw count (lit≤ tt); targets = λ r h. absurd (omega (arith, count)) };
}

-- whichever stage an image shows
pub stage_view : (g : Geometry) (b : List Record) (old new : List Cell) (image : Words) → MayCommit g b old → IsFramed b old new → IsImage new image
    → length b ≤ 128 → IsDistinct b → IsStage b old new image → IsBeforeOrAfter g b (before old image) image
stage_view g b old new image may framed is most distinct (Unbegun count settles) = old_view g b old new image may is count settles
stage_view g b old new image may framed is most distinct (Recorded count recorded) = recorded_view g b old new image may framed is most count recorded
stage_view g b old new image may framed is most distinct (Applied count done) =
    let after : IsAfter g b (before old image) image = new_view g b old new image may framed is distinct count done in
    record { view = inr after.view; others = after.others; sound = λ _. after.sound }

-- The device after a commit, or after a part of it.
pub follows : (g : Geometry) (b : List Record) (old new : List Cell) → MayCommit g b old → IsFramed b old new → length b ≤ 128 → IsDistinct b
    → ((image : Words) → IsImage new image → IsStage b old new image) → Follows (IsBeforeOrAfter g b) old new
follows g b old new may framed most distinct stages image is =
    (before old image, comes_from g b old new image may framed is, stage_view g b old new image may framed is most distinct (stages image is))

-- the device after a whole commit
pub follows-after : (g : Geometry) (b : List Record) (old new : List Cell) → MayCommit g b old → IsFramed b old new → IsDistinct b
    → cell new commit_word ≡ Single 0 → AreInPlace b (length b) new → Follows (IsAfter g b) old new
follows-after g b old new may framed distinct idle done image is =
    (before old image, comes_from g b old new image may framed is, new_view g b old new image may framed is distinct (rw idle at (is commit_word)) done)

-- a device that is as it was
pub follows-same : (g : Geometry) (b : List Record) (d : List Cell) → Follows (IsBeforeOrAfter g b) d d
follows-same g b d = Follows-same (IsBeforeOrAfter g b) d (λ f. record { view = inl refl; others = λ w apart fresh. refl; sound = λ sound. sound })

-- After the commit, each word of one candidate that is not the journal's is as the batch sets it.
pub words-done : (b : List Record) (old new : List Cell) → IsDistinct b → IsFramed b old new → AreInPlace b (length b) new
    → (i : ℕ) → is_journal_word i ≡ false → is_single (cell old i) ≡ true → cell new i ≡ Single (with_batch b (words_of old) i)
words-done b old new distinct framed done i apart single = ⊎_elim
    (λ (found : (k : ℕ) × (k < length b) × (target b k ≡ i / 8)).
    done found.0 i found.1 (sym found.2)
    ∙ ap Single (sym (patched-at (length b) (target b) (content b) (words_of old) i found.0 distinct found.1 found.2)))
    (λ (none : (k : ℕ) → k < length b → target b k ≢ i / 8).
    settled-single (cell old i) (cell new i) (framed.frame i apart none) single
    ∙ ap Single (sym (patched-miss (length b) (target b) (content b) (words_of old) i none)))
    (find_target (length b) (target b) (i / 8))
