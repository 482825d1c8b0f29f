-- The cells of a device of which some lines are lent.
use Rattle.std.proofs.Common.{◌≡◌, ◌≢◌, ◌+◌, ◌-◌, ◌*◌, ◌/◌, ◌%◌, ◌<◌, ◌≤◌, ℕ, Bool, true, false, cond, List, length, get_or, map, replicate, refl, sym, ◌∙◌, ap, arith, ⊎_elim}
use Rattle.std.specs.List.{range_with_len}
use Rattle.std.proofs.lemmas.Bool.{cases_lt, cases_eq}
use Rattle.std.proofs.lemmas.List.{get_or_past, ext_get_or, get_or-replicate, length-replicate}
use Rattle.std.proofs.lemmas.List.FromFn.{get_or-map-range_with_len, length-map-range_with_len}
use Rattle.pm_model.specs.declared.Cell.{Cell}
use Rattle.pm_model.specs.declared.Cell.TheVariants.{Single, Two, Marked, Lent}
use Rattle.pm_model.specs.CellLaws.{cell-past, single-home, is_lent-stored, is_lent-flushed, is_lent-fenced}
use Rattle.pm_model.specs.Cells.{cell, is_single, is_lent, stored, flushed, fenced, unmarked, AllHome}
use Rattle.pm_model.specs.Frames.{LineIsHome}
use Rattle.pm_lines.specs.Effects.{StoresWord, FlushesLine, Fences}
use Rattle.pm_model.specs.Bytes.{word_at-past}
use Rattle.pm_model.specs.Words.{Words, word_at}
use Rattle.pm_lines.specs.LentLines.{is_out, with_lent, HasLines, NotesLines, PutsPart}

fenced-single : (c : Cell) → is_single c ≡ true → fenced c ≡ c
fenced-single (Single a) single = refl
fenced-single (Two a b) single = cc
fenced-single (Marked a b) single = cc
fenced-single Lent single = refl

is_lent-unmarked : (c : Cell) → is_lent (unmarked c) ≡ is_lent c
is_lent-unmarked (Single a) = refl
is_lent-unmarked (Two a b) = refl
is_lent-unmarked (Marked a b) = refl
is_lent-unmarked Lent = refl

bool_cases : (b : Bool) (P : Type 0) → (b ≡ true → P) → (b ≡ false → P) → P
bool_cases true P at_true at_false = at_true refl
bool_cases false P at_true at_false = at_false refl

pub length-with_lent : (lent : List Bool) (d : List Cell) → length (with_lent lent d) ≡ length d
unfolding with_lent
length-with_lent lent d = length-map-range_with_len (λ i. cond (is_out lent i) Lent (cell d i)) 0 (length d)

-- no line past the end is lent
not_out_past : (lent : List Bool) (d : List Cell) (i : ℕ) → length d ≡ 8 * length lent → length d ≤ i → is_out lent i ≡ false
not_out_past lent d i size past = get_or_past lent (i / 8) false (omega arith)

pub cell-with_lent : (lent : List Bool) (d : List Cell) (i : ℕ) → length d ≡ 8 * length lent → cell (with_lent lent d) i ≡ cond (is_out lent i) Lent (cell d i)
unfolding with_lent
cell-with_lent lent d i size = ⊎_elim
    (λ (h : i < length d). get_or-map-range_with_len (λ i. cond (is_out lent i) Lent (cell d i)) 0 (length d) i i (Single 0) h (omega arith))
    (λ (h : length d ≤ i).
    rw (not_out_past lent d i size h) (cell-past (with_lent lent d) i (omega (arith, length-with_lent lent d)) ∙ sym (cell-past d i h)))
    (cases_lt i (length d))

-- v is the device that callers see
module _ (lent : List Bool) (d v : List Cell) (lines : HasLines lent d) (view : with_lent lent d ≡ v) where
  pub length_is : length v ≡ length d
  length_is = ap (λ (x : List Cell). length x) (sym view) ∙ length-with_lent lent d

  pub cell_is : (i : ℕ) → cell v i ≡ cond (is_out lent i) Lent (cell d i)
  cell_is i = ap (λ (x : List Cell). cell x i) (sym view) ∙ cell-with_lent lent d i lines.size

  pub cell_out : (i : ℕ) → is_out lent i ≡ true → cell v i ≡ Lent
  cell_out i out = cell_is i ∙ rw out refl

  pub cell_in : (i : ℕ) → is_out lent i ≡ false → cell v i ≡ cell d i
  cell_in i home = cell_is i ∙ rw home refl

  pub in_from_home : (i : ℕ) → is_lent (cell v i) ≡ false → is_out lent i ≡ false
  in_from_home i home = bool_cases (is_out lent i) (is_out lent i ≡ false) (λ out. let no : true ≡ false = rw (cell_out i out) at home in absurd (let f : ⊥ = cc in f)) (λ h. h)

  pub out_from_lent : (i : ℕ) → is_lent (cell v i) ≡ true → is_out lent i ≡ true
  out_from_lent i is_out_there = bool_cases (is_out lent i) (is_out lent i ≡ true) (λ h. h)
      (λ home. let no : is_lent (cell d i) ≡ true = rw (cell_in i home) at is_out_there in absurd (let f : ⊥ = let other : is_lent (cell d i) ≡ false = lines.home i in cc in f))

  pub cell_home : (i : ℕ) → is_lent (cell v i) ≡ false → cell v i ≡ cell d i
  cell_home i home = cell_in i (in_from_home i home)

  pub cell_single : (i : ℕ) → is_single (cell v i) ≡ true → cell v i ≡ cell d i
  cell_single i single = cell_home i (single-home (cell v i) single)

  -- a device of which nothing is lent
  pub all_home : AllHome v → d ≡ v
  all_home home = ext_get_or (Single 0) d v (sym length_is) (λ i h. sym (cell_home i (home i)))

  -- The words change, of none that is lent.
  module _ (new : List Cell) (size : length new ≡ length d) (home : AllHome new) (same : (i : ℕ) → is_out lent i ≡ true → cell new i ≡ cell d i) where
    pub still_lines : HasLines lent new
    still_lines = record { size = size ∙ lines.size; blocks = rw size lines.blocks; single = λ i out. rw (same i out) (lines.single i out); home = home }

    pub still_size : length (with_lent lent new) ≡ length v
    still_size = length-with_lent lent new ∙ size ∙ sym length_is

    -- what happens to a word that is not lent happens to the word that callers see, where it leaves a lent word alone
    pub lifted : (i : ℕ) (f : Cell → Cell) → f Lent ≡ Lent → cell new i ≡ f (cell d i) → cell (with_lent lent new) i ≡ f (cell v i)
    lifted i f lent_stays change = cell-with_lent lent new i still_lines.size ∙ bool_cases (is_out lent i) (cond (is_out lent i) Lent (cell new i) ≡ f (cell v i))
        (λ out. rw (out, cell_out i out) (sym lent_stays))
        (λ h. rw (h, cell_in i h) change)

  -- Lines go out: those of words with one candidate.
  module _ (new : List Bool) (first count : ℕ) (notes : NotesLines first count true lent new) (single : (i : ℕ) → first ≤ i / 8 → i / 8 < first + count → is_single (cell v i) ≡ true) where
    pub out_lines : HasLines new d
    out_lines = record {
      size = rw notes.size lines.size;
      blocks = lines.blocks;
      single = λ i out. ⊎_elim
          (λ (before : i / 8 < first). lines.single i (rw (notes.below (i / 8) before) at out))
          (λ (after : first ≤ i / 8). ⊎_elim
          (λ (within : i / 8 < first + count). let s = single i after within in rw (cell_single i s) at s)
          (λ (past : first + count ≤ i / 8). lines.single i (rw (notes.above (i / 8) past) at out))
          (cases_lt (i / 8) (first + count)))
          (cases_lt (i / 8) first);
      home = lines.home;
    }

    pub out_size : length (with_lent new d) ≡ length v
    out_size = length-with_lent new d ∙ sym length_is

    pub out_inside : (i : ℕ) → first ≤ i / 8 → i / 8 < first + count → cell (with_lent new d) i ≡ Lent
    out_inside i after before = cell-with_lent new d i out_lines.size ∙ rw (notes.inside (i / 8) after before) refl

    pub out_below : (i : ℕ) → i / 8 < first → cell (with_lent new d) i ≡ cell v i
    out_below i h = cell-with_lent new d i out_lines.size ∙ rw (notes.below (i / 8) h) (sym (cell_is i))

    pub out_above : (i : ℕ) → first + count ≤ i / 8 → cell (with_lent new d) i ≡ cell v i
    out_above i h = cell-with_lent new d i out_lines.size ∙ rw (notes.above (i / 8) h) (sym (cell_is i))

  -- A store.
  module _ (word value : ℕ) (new : List Cell) (single : is_single (cell v word) ≡ true) (size : length new ≡ length d) (at : cell new word ≡ stored value (cell d word))
      (others : (i : ℕ) → i ≢ word → cell new i ≡ cell d i) where
    store_home : AllHome new
    store_home i = ⊎_elim
        (λ (same : i ≡ word). rw (same, at, is_lent-stored value (cell d word)) (lines.home word))
        (λ (other : i ≢ word). rw (others i other) (lines.home i))
        (cases_eq i word)

    store_same : (i : ℕ) → is_out lent i ≡ true → cell new i ≡ cell d i
    store_same i out = others i (λ e. let home : is_out lent i ≡ false = rw e (in_from_home word (single-home (cell v word) single)) in let f : ⊥ = cc in f)

    pub store_lines : HasLines lent new
    store_lines = still_lines new size store_home store_same

    pub store_is : StoresWord true word value v (with_lent lent new)
    store_is = record {
      size = still_size new size store_home store_same;
      stored_at = lifted new size store_home store_same word (stored value) refl at;
      others = λ i other. lifted new size store_home store_same i (λ c. c) refl (others i other);
      off = λ no. absurd (let f : ⊥ = cc in f);
    }

  -- A flush.
  module _ (line : ℕ) (new : List Cell) (home : LineIsHome line v) (size : length new ≡ length d) (words : (i : ℕ) → i / 8 ≡ line → cell new i ≡ flushed (cell d i))
      (others : (i : ℕ) → i / 8 ≢ line → cell new i ≡ cell d i) where
    flush_home : AllHome new
    flush_home i = ⊎_elim
        (λ (inside : i / 8 ≡ line). rw (words i inside, is_lent-flushed (cell d i)) (lines.home i))
        (λ (other : i / 8 ≢ line). rw (others i other) (lines.home i))
        (cases_eq (i / 8) line)

    flush_same : (i : ℕ) → is_out lent i ≡ true → cell new i ≡ cell d i
    flush_same i out = others i (λ e. let there : is_out lent i ≡ false = in_from_home i (home i e) in let f : ⊥ = cc in f)

    pub flush_lines : HasLines lent new
    flush_lines = still_lines new size flush_home flush_same

    pub flush_is : FlushesLine true line v (with_lent lent new)
    flush_is = record {
      size = still_size new size flush_home flush_same;
      words = λ i inside. lifted new size flush_home flush_same i flushed refl (words i inside);
      others = λ i other. lifted new size flush_home flush_same i (λ c. c) refl (others i other);
      off = λ no. absurd (let f : ⊥ = cc in f);
    }

  -- A fence.
  module _ (new : List Cell) (size : length new ≡ length d) (words : (i : ℕ) → cell new i ≡ fenced (cell d i)) where
    fence_home : AllHome new
    fence_home i = rw (words i, is_lent-fenced (cell d i)) (lines.home i)

    fence_same : (i : ℕ) → is_out lent i ≡ true → cell new i ≡ cell d i
    fence_same i out = words i ∙ fenced-single (cell d i) (lines.single i out)

    pub fence_lines : HasLines lent new
    fence_lines = still_lines new size fence_home fence_same

    pub fence_is : Fences true v (with_lent lent new)
    fence_is = record {
      size = still_size new size fence_home fence_same;
      words = λ i. lifted new size fence_home fence_same i fenced refl (words i);
      off = λ no. absurd (let f : ⊥ = cc in f);
    }

  -- Lines come back with the cells of a part.
  module _ (first count : ℕ) (part after : List Cell) (new : List Bool) (fits : length part ≡ 8 * count) (puts : PutsPart (8 * first) part d after)
      (notes : NotesLines first count false lent new) where
    inside_at : (i : ℕ) → first ≤ i / 8 → i / 8 < first + count → cell after i ≡ unmarked (cell part (i - 8 * first))
    inside_at i after_first before_end = let at : 8 * first + (i - 8 * first) ≡ i = omega arith in rw at at (puts.inside (i - 8 * first) (omega arith))

    inside_home : (i : ℕ) → first ≤ i / 8 → i / 8 < first + count → is_lent (cell after i) ≡ false
    inside_home i after_first before_end = rw (inside_at i after_first before_end, is_lent-unmarked (cell part (i - 8 * first))) (puts.home (i - 8 * first) (omega arith))

    pub back_lines : HasLines new after
    back_lines = record {
      size = rw (puts.size, notes.size) lines.size;
      blocks = rw puts.size lines.blocks;
      single = λ i out. ⊎_elim
          (λ (before : i / 8 < first). rw (puts.below i (omega arith)) (lines.single i (rw (notes.below (i / 8) before) at out)))
          (λ (later : first ≤ i / 8). ⊎_elim
          (λ (within : i / 8 < first + count). let not_out : is_out new i ≡ false = notes.inside (i / 8) later within in absurd (let f : ⊥ = cc in f))
          (λ (past : first + count ≤ i / 8). rw (puts.above i (omega arith)) (lines.single i (rw (notes.above (i / 8) past) at out)))
          (cases_lt (i / 8) (first + count)))
          (cases_lt (i / 8) first);
      home = λ i. ⊎_elim
          (λ (before : i / 8 < first). rw (puts.below i (omega arith)) (lines.home i))
          (λ (later : first ≤ i / 8). ⊎_elim
          (λ (within : i / 8 < first + count). inside_home i later within)
          (λ (past : first + count ≤ i / 8). rw (puts.above i (omega arith)) (lines.home i))
          (cases_lt (i / 8) (first + count)))
          (cases_lt (i / 8) first);
    }

    pub back_size : length (with_lent new after) ≡ length v
    back_size = length-with_lent new after ∙ puts.size ∙ sym length_is

    pub back_inside : (i : ℕ) → first ≤ i / 8 → i / 8 < first + count → cell (with_lent new after) i ≡ unmarked (cell part (i - 8 * first))
    back_inside i later within = cell-with_lent new after i back_lines.size ∙ rw (notes.inside (i / 8) later within) (inside_at i later within)

    pub back_home : (i : ℕ) → first ≤ i / 8 → i / 8 < first + count → is_lent (cell (with_lent new after) i) ≡ false
    back_home i later within = rw (back_inside i later within, is_lent-unmarked (cell part (i - 8 * first))) (puts.home (i - 8 * first) (omega arith))

    pub back_below : (i : ℕ) → i / 8 < first → cell (with_lent new after) i ≡ cell v i
    back_below i h = cell-with_lent new after i back_lines.size ∙ rw (notes.below (i / 8) h, puts.below i (omega arith)) (sym (cell_is i))

    pub back_above : (i : ℕ) → first + count ≤ i / 8 → cell (with_lent new after) i ≡ cell v i
    back_above i h = cell-with_lent new after i back_lines.size ∙ rw (notes.above (i / 8) h, puts.above i (omega arith)) (sym (cell_is i))

-- A device that is made of words with one candidate each, of which nothing is lent.
module _ (words : List Cell) (count : ℕ) (f : Words) (size : length words ≡ 8 * count) (blocks : length words % 512 ≡ 0) (cells : (i : ℕ) → cell words i ≡ Single (f i)) where
  not_out : (i : ℕ) → is_out (replicate count false) i ≡ false
  not_out i = ⊎_elim
      (λ (within : i / 8 < count). get_or-replicate count (i / 8) false false within)
      (λ (past : count ≤ i / 8). get_or_past (replicate count false) (i / 8) false (omega (arith, length-replicate count false)))
      (cases_lt (i / 8) count)

  pub made_lines : HasLines (replicate count false) words
  made_lines = record {
    size = rw (length-replicate count false) size;
    blocks = blocks;
    single = λ i out. let home : is_out (replicate count false) i ≡ false = not_out i in absurd (let f : ⊥ = cc in f);
    home = λ i. rw (cells i) refl;
  }

  pub made_cells : (i : ℕ) → cell (with_lent (replicate count false) words) i ≡ Single (f i)
  made_cells i = cell-with_lent (replicate count false) words i made_lines.size ∙ rw (not_out i) (cells i)

-- the words of an image
pub image_word : (bytes : List ℕ) (i : ℕ) → length bytes % 8 ≡ 0 → get_or (map (word_at bytes) (range_with_len 0 (length bytes / 8))) i 0 ≡ word_at bytes i
image_word bytes i whole = ⊎_elim
    (λ (within : i < length bytes / 8). get_or-map-range_with_len (word_at bytes) 0 (length bytes / 8) i i 0 within (omega arith))
    (λ (past : length bytes / 8 ≤ i).
    get_or_past (map (word_at bytes) (range_with_len 0 (length bytes / 8))) i 0 (omega (arith, length-map-range_with_len (word_at bytes) 0 (length bytes / 8)))
    ∙ sym (word_at-past bytes i (omega arith)))
    (cases_lt i (length bytes / 8))
