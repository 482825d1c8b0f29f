-- Lines of the journaled view, read from the device.
use Rattle.std.proofs.Common.{◌≡◌, ℕ, ◌+◌, ◌*◌, ◌/◌, ◌%◌, ◌<◌, false, sym, ◌∙◌, ap, arith, lit<, add-zero}
use Rattle.std.proofs.lemmas.Bool.{cond-false}
use Rattle.k_journal.specs.pm_model.Words.{Words, line_bytes}
use Rattle.k_journal.specs.layout_model.Journal.{is_journal_word, journaled, patched, committed, record_target, record_word}
use Rattle.k_journal.specs.layout_model.Places.{record_line}
use Rattle.k_journal.specs.Patches.{patched-last, patched-skip, patched-none}

-- After n records the words of the line are those of line `source` of the device.
pub record StandsAt (f : Words) (n line source : ℕ) : Type 0 where
  pub words : (i : ℕ) → i / 8 ≡ line → patched n (record_target f) (record_word f) f i ≡ f (8 * source + i % 8)

-- before the first record each line stands in its place
pub stands-none : (f : Words) (line : ℕ) → StandsAt f 0 line line
stands-none f line = record {
  words = λ i at.
      let place : i ≡ 8 * line + i % 8 = omega arith in
      patched-none (record_target f) (record_word f) f i ∙ ap f place;
}

-- one record more, which has the line, or has another
pub stands-last : (f : Words) (n line : ℕ) → record_target f n ≡ line → StandsAt f (n + 1) line (record_line n + 1)
stands-last f n line has = record {
  words = λ i at. patched-last n (record_target f) (record_word f) f i (has ∙ sym at);
}

pub stands-skip : (f : Words) (n line source : ℕ) → (record_target f n ≡ line → ⊥) → StandsAt f n line source → StandsAt f (n + 1) line source
stands-skip f n line source other stands = record {
  words = λ i at. patched-skip n (record_target f) (record_word f) f i (λ e. other (e ∙ at)) ∙ stands.words i at;
}

-- a word of the view that is no word of the journal
pub view-word : (f : Words) (n line source i : ℕ) → n ≡ committed f → StandsAt f n line source → i / 8 ≡ line → is_journal_word i ≡ false
    → journaled f i ≡ f (8 * source + i % 8)
view-word f n line source i all stands at apart =
    cond-false (is_journal_word i) 0 (patched (committed f) (record_target f) (record_word f) f i) apart
    ∙ ap (λ m. patched m (record_target f) (record_word f) f i) (sym all) ∙ stands.words i at

-- the bytes of a line that has the words of another line
pub line_bytes-moved : (f g : Words) (line source : ℕ) → ((i : ℕ) → i / 8 ≡ line → g i ≡ f (8 * source + i % 8)) → line_bytes f source ≡ line_bytes g line
unfolding line_bytes
line_bytes-moved f g line source same =
    let at : (k : ℕ) → k < 8 → f (8 * source + k) ≡ g (8 * line + k) =
    λ k h. let place : (8 * line + k) % 8 ≡ k = omega arith in sym (same (8 * line + k) (omega arith) ∙ ap (λ n. f (8 * source + n)) place) in
    let first : f (8 * source) ≡ g (8 * line) = ap f (sym (add-zero (8 * source))) ∙ at 0 (lit< tt) ∙ ap g (add-zero (8 * line)) in
    rw (first, at 1 (lit< tt), at 2 (lit< tt), at 3 (lit< tt), at 4 (lit< tt), at 5 (lit< tt), at 6 (lit< tt), at 7 (lit< tt))
