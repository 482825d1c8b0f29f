-- Crash images: which log lines are settled, that the image is one of the device, and that it is honest.
use Rattle.std.proofs.Common.{◌≡◌, ◌≢◌, ℕ, ◌+◌, ◌-◌, ◌*◌, ◌/◌, ◌%◌, ◌<◌, List, Bool, true, false, refl, sym, ◌∙◌, ap, subst, arith, inl, inr, get_or, take, drop}
use Rattle.std.proofs.lemmas.Bool.{cases_eq, cases_lt}
use Rattle.std.proofs.lemmas.List.{get_or-take, get_or-drop}
use Rattle.oplog_entry.specs.pm_model.declared.Cell.{Cell}
use Rattle.oplog_entry.specs.pm_model.declared.Cell.TheVariants.{Single, Two, Marked, Lent}
use Rattle.oplog_entry.specs.pm_model.Bytes.{line_bytes-same, word_at-same}
use Rattle.oplog_entry.specs.pm_model.Cells.{cell, oldest, IsCandidate}
use Rattle.oplog_entry.specs.pm_model.Images.{IsImage}
use Rattle.oplog_entry.specs.pm_model.Words.{Words, word_at, line_bytes}
use Rattle.oplog_entry.specs.layout_model.Places.{Geometry, log_line}
use Rattle.oplog_entry.specs.layout_model.Entries.{is_self_valid}
use Rattle.check_image.specs.image_model.Honest.{IsTorn, IsHonest, SomeHasTwo}
use Rattle.pm_lines.specs.Choices.{chosen}
use Rattle.pm_lines.specs.declared.choices.Choice.{Choice}
use Rattle.k_check.specs.Crashes.{IsChance, IsAsChosen, IsSettled, IsCrashImage}

-- both candidates are candidates
candidate-oldest : (c : Cell) → IsCandidate c (oldest c)
candidate-oldest (Single a) = refl
candidate-oldest (Two a b) = inl refl
candidate-oldest (Marked a b) = inl refl
candidate-oldest Lent = tt

-- the bytes of a line are those of its eight words
word-place : (line i : ℕ) → i / 8 ≡ line → 8 * line + i % 8 ≡ i
word-place line i at = omega arith

pub line-same : (f h : Words) (line : ℕ) → ((j : ℕ) → j < 8 → f (8 * line + j) ≡ h (8 * line + j)) → line_bytes f line ≡ line_bytes h line
line-same f h line same =
    line_bytes-same f h line (λ i at. ap f (sym (word-place line i at)) ∙ same (i % 8) (omega arith) ∙ ap h (word-place line i at))

-- whether a line is torn in an image rests on its eight words
pub torn-same : (cells : ℕ → Cell) (f h : Words) (line : ℕ) → ((j : ℕ) → j < 8 → f (8 * line + j) ≡ h (8 * line + j)) → IsTorn cells f line → IsTorn cells h line
torn-same cells f h line same torn = record {
  some = torn.some;
  not_older = λ older. torn.not_older (λ j below. same j below ∙ older j below);
  not_newer = λ each newer. torn.not_newer each (λ j below. same j below ∙ newer j below);
}

-- a line of an image that is as the choice takes it
pub chance-held : (choice : Choice) (d : List Cell) (f : Words) (line : ℕ) → IsAsChosen choice d f line → IsTorn (cell d) f line
    → is_self_valid (line_bytes f line) ≡ true → IsChance choice d line
chance-held choice d f line taken torn valid = record {
  torn = torn-same (cell d) f (chosen choice d) line taken torn;
  valid = ap is_self_valid (sym (line-same f (chosen choice d) line taken)) ∙ valid;
}

pub chance-torn : (choice : Choice) (d : List Cell) (f : Words) (line : ℕ) → IsAsChosen choice d f line → IsChance choice d line → IsTorn (cell d) f line
chance-torn choice d f line taken chance = torn-same (cell d) (chosen choice d) f line (λ j below. sym (taken j below)) chance.torn

pub chance-valid : (choice : Choice) (d : List Cell) (f : Words) (line : ℕ) → IsAsChosen choice d f line → IsChance choice d line
    → is_self_valid (line_bytes f line) ≡ true
chance-valid choice d f line taken chance = ap is_self_valid (line-same f (chosen choice d) line taken) ∙ chance.valid

-- One slot more.
lines-apart : (g : Geometry) (s t j : ℕ) → s < t → j < 8 → (8 * log_line g s + j) / 8 ≢ log_line g t
lines-apart g s t j before below e = omega arith

pub not_yet : (g : Geometry) (choice : Choice) (d : List Cell) (n : ℕ) (f : Words) → IsCrashImage g choice d n f → IsAsChosen choice d f (log_line g n)
not_yet g choice d n f image j below = image.others (8 * log_line g n + j) (λ slot before e. omega arith)

pub crash-none : (g : Geometry) (choice : Choice) (d : List Cell) (f : Words) → ((i : ℕ) → f i ≡ chosen choice d i) → IsCrashImage g choice d 0 f
crash-none g choice d f same = record { lines = λ slot below. absurd (omega arith); others = λ i none. same i }

-- where no word of the log has two candidates the image is as the choice takes it
pub crash-quiet : (g : Geometry) (choice : Choice) (d : List Cell) (f : Words) → ((i : ℕ) → f i ≡ chosen choice d i)
    → ((slot : ℕ) → slot < g.log → ¬ SomeHasTwo (cell d) (log_line g slot)) → IsCrashImage g choice d g.log f
crash-quiet g choice d f same none = record {
  lines = λ slot below. inr ((λ chance. none slot below chance.torn.some), λ j inside. same (8 * log_line g slot + j));
  others = λ i past. same i;
}

pub crash-kept : (g : Geometry) (choice : Choice) (d : List Cell) (n : ℕ) (f : Words) → IsCrashImage g choice d n f → ¬ IsChance choice d (log_line g n)
    → IsCrashImage g choice d (n + 1) f
crash-kept g choice d n f image never = record {
  lines = λ slot below. elim (cases_eq slot n) [
    | inl last ↦ subst (λ s. IsSettled choice d f (log_line g s)) (sym last) (inr (never, not_yet g choice d n f image))
    | inr other ↦ image.lines slot (omega arith)
  ];
  others = λ i none. image.others i (λ slot below. none slot (omega arith));
}

settled-same : (choice : Choice) (d : List Cell) (f h : Words) (line : ℕ) → ((j : ℕ) → j < 8 → h (8 * line + j) ≡ f (8 * line + j)) → IsSettled choice d f line
    → IsSettled choice d h line
settled-same choice d f h line same (inl older) = inl (older.0, λ j below. same j below ∙ older.1 j below)
settled-same choice d f h line same (inr kept) = inr (kept.0, λ j below. same j below ∙ kept.1 j below)

pub crash-older : (g : Geometry) (choice : Choice) (d : List Cell) (n : ℕ) (f h : Words) → IsCrashImage g choice d n f → IsChance choice d (log_line g n)
    → ((i : ℕ) → i / 8 ≡ log_line g n → h i ≡ oldest (cell d i)) → ((i : ℕ) → i / 8 ≢ log_line g n → h i ≡ f i)
    → IsCrashImage g choice d (n + 1) h
crash-older g choice d n f h image chance here elsewhere = record {
  lines = λ slot below. elim (cases_eq slot n) [
    | inl last ↦
        subst (λ s. IsSettled choice d h (log_line g s)) (sym last)
        (inl (chance, λ j inside. here (8 * log_line g n + j) (omega arith)))
    | inr other ↦
        let before : slot < n = omega arith in
        settled-same choice d f h (log_line g slot) (λ j inside. elsewhere (8 * log_line g slot + j) (lines-apart g slot n j before inside)) (image.lines slot before)
  ];
  others = λ i none. elsewhere i (none n (omega arith)) ∙ image.others i (λ slot below. none slot (omega arith));
}

-- the image of a crash is honest
pub crash-honest : (g : Geometry) (choice : Choice) (d : List Cell) (f : Words) → IsCrashImage g choice d g.log f → IsHonest g (cell d) f
crash-honest g choice d f image slot below torn = elim (image.lines slot below) [
  | inl older ↦ absurd (torn.not_older older.1)
  | inr kept ↦ by (is_self_valid (line_bytes f (log_line g slot))) refl kept
]
  where
    by : (b : Bool) → is_self_valid (line_bytes f (log_line g slot)) ≡ b
        → (¬ IsChance choice d (log_line g slot)) × IsAsChosen choice d f (log_line g slot) → is_self_valid (line_bytes f (log_line g slot)) ≡ false
    by false e kept = e
    by true e kept = absurd (kept.0 (chance-held choice d f (log_line g slot) kept.1 torn e))

-- and an image of the device
slot-word : (choice : Choice) (d : List Cell) (f : Words) (line i : ℕ) → IsSettled choice d f line → i / 8 ≡ line → IsImage d (chosen choice d) → IsCandidate (cell d i) (f i)
slot-word choice d f line i (inl older) at is =
    let place = word-place line i at in
    subst (λ n. IsCandidate (cell d n) (f n)) place
    (subst (IsCandidate (cell d (8 * line + i % 8))) (sym (older.1 (i % 8) (omega arith))) (candidate-oldest (cell d (8 * line + i % 8))))
slot-word choice d f line i (inr kept) at is =
    let place = word-place line i at in
    subst (λ n. IsCandidate (cell d n) (f n)) place
    (subst (IsCandidate (cell d (8 * line + i % 8))) (sym (kept.1 (i % 8) (omega arith))) (is (8 * line + i % 8)))

pub crash-image : (g : Geometry) (choice : Choice) (d : List Cell) (f : Words) → IsCrashImage g choice d g.log f → IsImage d (chosen choice d) → IsImage d f
crash-image g choice d f image is i = elim (cases_lt (i / 8) (log_line g 0)) [
  | inl before ↦ subst (IsCandidate (cell d i)) (sym (image.others i (λ slot below e. omega arith))) (is i)
  | inr from ↦ elim (cases_lt (i / 8 - log_line g 0) g.log) [
    | inl within ↦
        let slot = i / 8 - log_line g 0 in
        slot-word choice d f (log_line g slot) i (image.lines slot within) (omega arith) is
    | inr behind ↦ subst (IsCandidate (cell d i)) (sym (image.others i (λ slot below e. omega arith))) (is i)
  ]
]

-- the words of a line that was taken from an image
pub part-words : (bytes : List ℕ) (line i : ℕ) → i / 8 ≡ line → word_at (take 64 (drop (64 * line) bytes)) (i % 8) ≡ word_at bytes i
part-words bytes line i at =
    word_at-same (take 64 (drop (64 * line) bytes)) bytes (i % 8) i
    (λ k below.
    get_or-take 64 (drop (64 * line) bytes) (8 * (i % 8) + k) 0 (omega arith) ∙ get_or-drop (64 * line) bytes (8 * (i % 8) + k) 0
    ∙ ap (λ n. get_or bytes n 0) {x = 64 * line + (8 * (i % 8) + k)} {y = 8 * i + k} (omega arith))
