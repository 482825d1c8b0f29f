-- Log lines that came home: of claims, of jobs, and the others.
use Rattle.std.specs.Prelude.{◌≡◌, ◌<◌, ℕ, ◌+◌, ◌*◌, ◌%◌, true, List, refl, if◌then◌else◌}
use Rattle.std.proofs.Common.{ap, arith, inl, inr, lit<, ◌∙◌, subst, sym}
use Rattle.oplog_entry.specs.pm_model.declared.Cell.{Cell}
use Rattle.oplog_entry.specs.pm_model.declared.Cell.TheVariants.{Lent, Marked, Single, Two}
use Rattle.oplog_entry.specs.pm_model.Bytes.{line_bytes-words}
use Rattle.oplog_entry.specs.pm_model.Cells.{cell, has_two, is_lent, is_single, newest, oldest, unmarked}
use Rattle.oplog_entry.specs.pm_model.Parts.{Part, put_back}
use Rattle.oplog_entry.specs.pm_model.Words.{line_bytes, Words}
use Rattle.oplog_entry.specs.layout_model.declared.lines.Draft.{Draft}
use Rattle.oplog_entry.specs.layout_model.Entries.{encode_entry}
use Rattle.oplog_entry.specs.layout_model.Places.{log_line}
use Rattle.oplog_entry.specs.image_model.LogRule.{HoldsEntry, IsAsAtFirst, words_of_line}
use Rattle.oplog_entry.specs.image_model.Volume.{Volume}
use Rattle.in_place.specs.k_split_laws.k_split.Laps.{IsLogWord}
use Rattle.in_place.specs.k_split_laws.block_io.Lines.{line_at}
use Rattle.oplog_entry.specs.EntryBytes.{encode_entry-small, length-encode_entry}
use Rattle.oplog_entry.specs.EntryLines.{entry_words}
use Rattle.in_place.specs.write_plan.eof_laws.log_checkpoint.world_model.Lines as lined
use Rattle.in_place.specs.write_plan.eof_laws.log_checkpoint.world_model.Lines.{HoldsWords, IsClaimedLine, Spells}
use Rattle.in_place.specs.live_model.Standing.{IsSpellable}
use Rattle.write_end.specs.CrashesLaws.{LinesAreHome, LinesHoldOut}
use Rattle.write_end.specs.Lines.{AreLinesOf, first_at, IsJobLine}

-- ---- one cell without its mark

newest-unmarked : (c : Cell) → newest (unmarked c) ≡ newest c
newest-unmarked (Single a) = refl
newest-unmarked (Two a b) = refl
newest-unmarked (Marked a b) = refl
newest-unmarked Lent = refl

oldest-unmarked : (c : Cell) → oldest (unmarked c) ≡ oldest c
oldest-unmarked (Single a) = refl
oldest-unmarked (Two a b) = refl
oldest-unmarked (Marked a b) = refl
oldest-unmarked Lent = refl

lent-unmarked : (c : Cell) → is_lent (unmarked c) ≡ is_lent c
lent-unmarked (Single a) = refl
lent-unmarked (Two a b) = refl
lent-unmarked (Marked a b) = refl
lent-unmarked Lent = refl

two-unmarked : (c : Cell) → has_two (unmarked c) ≡ has_two c
two-unmarked (Single a) = refl
two-unmarked (Two a b) = refl
two-unmarked (Marked a b) = refl
two-unmarked Lent = refl

single-unmarked : (c : Cell) → is_single c ≡ true → unmarked c ≡ Single (newest c)
single-unmarked (Single a) is = refl
single-unmarked (Two a b) is = cc
single-unmarked (Marked a b) is = cc
single-unmarked Lent is = cc

-- ---- one line

-- the newest word of each cell
abbrev newest_words : (ℕ → Cell) → Words
newest_words cells i = newest (cells i)

add_zero : (n : ℕ) → n + 0 ≡ n
add_zero n = omega arith

-- the eight words of a line, wherever it stands
line_bytes-moved : (f g : Words) (line : ℕ) → ((j : ℕ) → j < 8 → f (8 * line + j) ≡ g j) → line_bytes f line ≡ line_bytes g 0
unfolding line_bytes
line_bytes-moved f g line same =
    let first : f (8 * line) ≡ g 0 = ap f (sym (add_zero (8 * line))) ∙ same 0 (lit< tt) in
    rw (first, same 1 (lit< tt), same 2 (lit< tt), same 3 (lit< tt), same 4 (lit< tt), same 5 (lit< tt), same 6 (lit< tt), same 7 (lit< tt))

-- a line with these cells stands in the device again
abbrev IsAgain : (ℕ → Cell) → List Cell → ℕ → Type 0
IsAgain cells part line = (j : ℕ) → j < 8 → cells (8 * line + j) ≡ unmarked (cell part j)

newest-again : (cells : ℕ → Cell) (part : List Cell) (line : ℕ) → IsAgain cells part line → (j : ℕ) → j < 8 → newest_words cells (8 * line + j) ≡ words_of_line part j
newest-again cells part line again j below = ap newest (again j below) ∙ newest-unmarked (cell part j)

holds-again : (cells : ℕ → Cell) (part : List Cell) (line : ℕ) → IsAgain cells part line → ((j : ℕ) → j < 8 → is_single (cell part j) ≡ true) → HoldsWords cells (newest_words cells) line
holds-again cells part line again single j below =
    again j below ∙ single-unmarked (cell part j) (single j below) ∙ ap Single (sym (newest-again cells part line again j below))

-- ---- lines that stand in the log again

-- each line has its cells, without their marks
abbrev pub StandAgain : Volume → List Part → (ℕ → Cell) → Type 0
StandAgain v lines cells = (n j : ℕ) → n < v.geometry.log → j < 8 → cells (8 * log_line v.geometry n + j) ≡ unmarked (cell (line_at lines n).cells j)

-- the words of an entry in its line
abbrev spelled_words : Draft → ℕ → Words
spelled_words d seq i = entry_words d seq (i % 8)

spells-words : (v : Volume) (slot : ℕ) (d : Draft) → IsSpellable d → Spells v slot d (spelled_words d (v.base + slot))
spells-words v slot d is = record {
  draft = is.fields;
  fits = is.fits;
  spelled = line_bytes-words (spelled_words d (v.base + slot)) (log_line v.geometry slot) (encode_entry d (v.base + slot))
      (length-encode_entry d (v.base + slot)) (encode_entry-small d (v.base + slot)) (λ i at. refl);
}

in_line : (line j : ℕ) → j < 8 → (8 * line + j) % 8 ≡ j
in_line line j below = omega (arith, below)

module _ (v : Volume) (first : Words) (lines : List Part) (cells : ℕ → Cell) (again : StandAgain v lines cells) where
  at : (slot : ℕ) → slot < v.geometry.log → (j : ℕ) → j < 8 → cells (8 * log_line v.geometry slot + j) ≡ unmarked (cell (line_at lines slot).cells j)
  at slot below j within = again slot j below within

  pub claimed_line : (slot : ℕ) (d : Draft) → slot < v.geometry.log → IsSpellable d → HoldsEntry (line_at lines slot).cells d (v.base + slot) → IsClaimedLine v cells slot d
  claimed_line slot d below is holds = record {
    below = below;
    entry = newest_words cells;
    spells = record {
      draft = is.fields;
      fits = is.fits;
      spelled = line_bytes-moved (newest_words cells) (words_of_line (line_at lines slot).cells) (log_line v.geometry slot) (newest-again cells (line_at lines slot).cells (log_line v.geometry slot) (at slot below)) ∙ holds.spelled;
    };
    holds = holds-again cells (line_at lines slot).cells (log_line v.geometry slot) (at slot below) holds.single;
  }

  pub job_line : (slot : ℕ) (d : Draft) → slot < v.geometry.log → IsSpellable d → IsJobLine (line_at lines slot).cells (first_at v.geometry first slot) d (v.base + slot) → lined.IsJobLine v cells first slot d
  job_line slot d below is (inl whole) =
      let line = claimed_line slot d below is whole in
      record { below = below; entry = line.entry; spells = line.spells; holds = inl line.holds }
  job_line slot d below is (inr over) = record {
    below = below;
    entry = spelled_words d (v.base + slot);
    spells = spells-words v slot d is;
    holds = inr (record {
      home = λ j within. ap is_lent (at slot below j within) ∙ lent-unmarked (cell (line_at lines slot).cells j) ∙ over.home j within;
      older = λ j within. ap oldest (at slot below j within) ∙ oldest-unmarked (cell (line_at lines slot).cells j) ∙ over.older j within;
      newer = λ j within two.
          ap newest (at slot below j within) ∙ newest-unmarked (cell (line_at lines slot).cells j)
          ∙ over.newer j within (sym (two-unmarked (cell (line_at lines slot).cells j)) ∙ ap has_two (sym (at slot below j within)) ∙ two)
          ∙ ap (entry_words d (v.base + slot)) (sym (in_line (log_line v.geometry slot) j within));
    });
  }

  pub first_line : (slot : ℕ) → slot < v.geometry.log → IsAsAtFirst (line_at lines slot).cells (first_at v.geometry first slot) → HoldsWords cells first (log_line v.geometry slot)
  first_line slot below same j within = at slot below j within ∙ ap unmarked (same j within)

-- lines that came home stand in the log again
pub stand_again : (v : Volume) (lines : List Part) (d e : List Cell) → AreLinesOf v.geometry lines → LinesAreHome v lines d e → StandAgain v lines (cell e)
stand_again v lines d e are home n j below within =
    subst (λ (i : ℕ). cell e i ≡ unmarked (cell (line_at lines n).cells j)) place (home.back.words n j (omega (arith, below, are.count)) within)
  where
    place : 8 * (log_line v.geometry 0 + n) + j ≡ 8 * log_line v.geometry n + j
    place = omega arith

-- word j of a log line
pub line_word : (v : Volume) (n j : ℕ) → n < v.geometry.log → j < 8 → IsLogWord v (8 * log_line v.geometry n + j)
line_word v n j below within = record { from = omega (arith, within); below = omega (arith, below, within) }

-- ---- lines that hold the claims

pub lines_hold_out : LinesHoldOut
lines_hold_out v d e first claims lines back lent spelled holds home = record {
  claimed = λ slot draft is.
      let held = holds.claimed slot draft is in
      claimed_line v first lines (put_back e back) again slot draft (omega (arith, held.0, holds.are.count)) (spelled slot draft is) held.1;
  out = tt;
  others = λ slot below free taken. first_line v first lines (put_back e back) again slot below (holds.others slot (omega (arith, below, holds.are.count)) free (λ draft none. none));
  old = lent.old;
} where
  again : StandAgain v lines (put_back e back)
  again n j below within =
      ap (λ b. if b then back (8 * log_line v.geometry n + j) else cell e (8 * log_line v.geometry n + j)) (home.home (8 * log_line v.geometry n + j) (line_word v n j below within))
      ∙ stand_again v lines d e holds.are home n j below within
