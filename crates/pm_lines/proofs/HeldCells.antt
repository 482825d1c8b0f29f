-- What the changes of words and pairs do to the cells of a memory.
use Rattle.std.proofs.Common.{◌≡◌, ◌≢◌, ◌+◌, ◌<◌, ◌≤◌, [], ℕ, true, false, List, length, get_or, set, get_or-set_same, get_or-set_other, refl, sym, ◌∙◌, ap, arith, ⊎_elim}
use Rattle.std.proofs.lemmas.Bool.{cases_lt}
use Rattle.std.proofs.lemmas.List.{length-set}
use Rattle.pm_model.specs.declared.Cell.{Cell}
use Rattle.pm_model.specs.declared.Cell.TheVariants.{Single}
use Rattle.pm_model.specs.Cells.{cell, is_single, stored, flushed, AllHome}
use Rattle.pm_lines.specs.declared.pairs.Pair.{Pair}
use Rattle.pm_lines.specs.Pairs.{pair_at, pair_cell, word_cell, cells_of, IsPlace, HasNoPair, AddsPair, SwapsPairs, IsHeld, ArePairsOf, AreSingle, IsNextPair, IsNextTwo, CopiesNumbers}
use Rattle.pm_lines.proofs.Room.{pairs-fewer}
use Rattle.pm_lines.proofs.WordCells.{word_cell-pair, word_cell-none, pair_cases, length-cells_of, cell-cells_of, pair_cell-two, pair_cell-marked, pair_cell-oldest, pair_cell-home, pair_apart, pair_cell-has_two, pair_cell-newest, AddsPair-linked, AddsPair-at, AddsPair-others, SwapsPairs-linked, SwapsPairs-at, SwapsPairs-others, word_cell-same}

-- d is the list of the cells
module _ (values : List ℕ) (pairs : List Pair) (marked capacity : ℕ) (d : List Cell) (held : IsHeld values pairs marked capacity) (view : cells_of values pairs marked ≡ d) where
  pub length_is : length d ≡ length values
  length_is = ap (λ (x : List Cell). length x) (sym view) ∙ length-cells_of values pairs marked

  pub cell_is : (i : ℕ) → cell d i ≡ word_cell values pairs marked i
  cell_is i = ap (λ (x : List Cell). cell x i) (sym view) ∙ cell-cells_of values pairs marked i held.linked

  pub cell_none : (i : ℕ) → HasNoPair pairs i → cell d i ≡ Single (get_or values i 0)
  cell_none i none = cell_is i ∙ word_cell-none values pairs marked i none

  pub cell_pair : (i k : ℕ) → IsPlace pairs i k → cell d i ≡ pair_cell marked k (pair_at pairs k)
  cell_pair i k place = cell_is i ∙ word_cell-pair values pairs marked i k held.linked place

  -- a word with one candidate has no pair, and its number is the candidate
  pub none_from_single : (i : ℕ) → is_single (cell d i) ≡ true → HasNoPair pairs i
  none_from_single i single = ⊎_elim
      (λ (found : (k : ℕ) × IsPlace pairs i k). absurd (pair_cell-two marked found.0 (pair_at pairs found.0) (rw (cell_pair i found.0 found.1) at single)))
      (λ (none : HasNoPair pairs i). none)
      (pair_cases values pairs i held.linked)

  -- One more pair.
  module _ (word : ℕ) (in_range : word < length d) (single : is_single (cell d word) ≡ true) where
    none : HasNoPair pairs word
    none = none_from_single word single

    pub within : word < length values
    within = omega (arith, length_is)

    pub has_room : length pairs < capacity
    has_room = omega (arith, held.room, pairs-fewer values pairs word held.linked none within)

    module _ (value room : ℕ) (numbers : List ℕ) (new : List Pair) (adds : AddsPair word value values pairs numbers new) (grows : capacity ≤ room) where
      pub store-held : IsHeld numbers new marked room
      store-held = record {
        linked = AddsPair-linked word value values pairs numbers new held.linked none within adds;
        marks = omega (arith, held.marks, adds.count);
        room = omega (arith, held.room, adds.size);
      }

      after : (i : ℕ) → cell (cells_of numbers new marked) i ≡ word_cell numbers new marked i
      after i = cell-cells_of numbers new marked i store-held.linked

      pub store-size : length (cells_of numbers new marked) ≡ length d
      store-size = length-cells_of numbers new marked ∙ adds.size ∙ sym length_is

      pub store-at : cell (cells_of numbers new marked) word ≡ stored value (cell d word)
      store-at = rw (cell_none word none) (after word ∙ AddsPair-at word value values pairs numbers new held.linked none within adds marked held.marks)

      pub store-others : (i : ℕ) → i ≢ word → cell (cells_of numbers new marked) i ≡ cell d i
      store-others i other = rw (cell_is i) (after i ∙ AddsPair-others word value values pairs numbers new held.linked none within adds marked i other)

    -- The number of a word with one candidate changes.
    module _ (value : ℕ) where
      abbrev numbers : List ℕ
      numbers = set values word value

      pub replace-held : IsHeld numbers pairs marked capacity
      replace-held = record {
        linked = record {
          within = λ k h. rw (length-set values word value) (held.linked.within k h);
          leads = λ k h. rw (get_or-set_other values word (pair_at pairs k).word value 0 (none k h)) (held.linked.leads k h);
        };
        marks = held.marks;
        room = rw (length-set values word value) held.room;
      }

      replaced : (i : ℕ) → cell (cells_of numbers pairs marked) i ≡ word_cell numbers pairs marked i
      replaced i = cell-cells_of numbers pairs marked i replace-held.linked

      pub replace-size : length (cells_of numbers pairs marked) ≡ length d
      replace-size = length-cells_of numbers pairs marked ∙ length-set values word value ∙ sym length_is

      pub replace-at : cell (cells_of numbers pairs marked) word ≡ Single value
      replace-at = replaced word ∙ word_cell-none numbers pairs marked word none ∙ ap Single (get_or-set_same values word value 0 within)

      pub replace-others : (i : ℕ) → i ≢ word → cell (cells_of numbers pairs marked) i ≡ cell d i
      replace-others i other = rw (cell_is i) (replaced i ∙ word_cell-same values numbers pairs marked i (get_or-set_other values word i value 0 other))

  -- The numbers of words with one candidate each are replaced.
  module _ (first : ℕ) (part numbers : List ℕ) (single : (i : ℕ) → first ≤ i → i < first + length part → is_single (cell d i) ≡ true)
      (in_range : first + length part ≤ length d) (copies : CopiesNumbers first part values numbers) where
    outside : (k : ℕ) → k < length pairs → get_or numbers (pair_at pairs k).word 0 ≡ get_or values (pair_at pairs k).word 0
    outside k h = ⊎_elim
        (λ (before : (pair_at pairs k).word < first). copies.below (pair_at pairs k).word before)
        (λ (later : first ≤ (pair_at pairs k).word). ⊎_elim
        (λ (inside : (pair_at pairs k).word < first + length part). absurd (none_from_single (pair_at pairs k).word (single (pair_at pairs k).word later inside) k h refl))
        (λ (past : first + length part ≤ (pair_at pairs k).word). copies.above (pair_at pairs k).word past)
        (cases_lt (pair_at pairs k).word (first + length part)))
        (cases_lt (pair_at pairs k).word first)

    pub copy-held : IsHeld numbers pairs marked capacity
    copy-held = record {
      linked = record {
        within = λ k h. rw copies.size (held.linked.within k h);
        leads = λ k h. rw (outside k h) (held.linked.leads k h);
      };
      marks = held.marks;
      room = rw copies.size held.room;
    }

    copied : (i : ℕ) → cell (cells_of numbers pairs marked) i ≡ word_cell numbers pairs marked i
    copied i = cell-cells_of numbers pairs marked i copy-held.linked

    pub copy-size : length (cells_of numbers pairs marked) ≡ length d
    copy-size = length-cells_of numbers pairs marked ∙ copies.size ∙ sym length_is

    pub copy-inside : (k : ℕ) → k < length part → cell (cells_of numbers pairs marked) (first + k) ≡ Single (get_or part k 0)
    copy-inside k h = copied (first + k)
        ∙ word_cell-none numbers pairs marked (first + k) (none_from_single (first + k) (single (first + k) (omega arith) (omega arith))) ∙ ap Single (copies.inside k h)

    pub copy-below : (i : ℕ) → i < first → cell (cells_of numbers pairs marked) i ≡ cell d i
    copy-below i h = rw (cell_is i) (copied i ∙ word_cell-same values numbers pairs marked i (copies.below i h))

    pub copy-above : (i : ℕ) → first + length part ≤ i → cell (cells_of numbers pairs marked) i ≡ cell d i
    copy-above i h = rw (cell_is i) (copied i ∙ word_cell-same values numbers pairs marked i (copies.above i h))

  -- One more mark.
  module _ (word place : ℕ) (numbers : List ℕ) (new : List Pair) (at : IsPlace pairs word place) (unmarked : marked ≤ place) (swaps : SwapsPairs place marked values pairs numbers new) where
    pub mark-held : IsHeld numbers new (marked + 1) capacity
    mark-held = record {
      linked = SwapsPairs-linked word place marked values pairs numbers new held.linked at unmarked swaps;
      marks = omega (arith, at.below, swaps.count);
      room = omega (arith, held.room, swaps.size);
    }

    now : (i : ℕ) → cell (cells_of numbers new (marked + 1)) i ≡ word_cell numbers new (marked + 1) i
    now i = cell-cells_of numbers new (marked + 1) i mark-held.linked

    pub mark-size : length (cells_of numbers new (marked + 1)) ≡ length d
    mark-size = length-cells_of numbers new (marked + 1) ∙ swaps.size ∙ sym length_is

    pub mark-at : cell (cells_of numbers new (marked + 1)) word ≡ flushed (cell d word)
    mark-at = rw (cell_is word) (now word ∙ SwapsPairs-at word place marked values pairs numbers new held.linked at unmarked swaps)

    pub mark-others : (i : ℕ) → i ≢ word → cell (cells_of numbers new (marked + 1)) i ≡ cell d i
    mark-others i other = rw (cell_is i) (now i ∙ SwapsPairs-others word place marked values pairs numbers new held.linked at unmarked swaps i other)

  -- A mark that is there already.
  pub flushed-none : (word : ℕ) → HasNoPair pairs word → flushed (cell d word) ≡ cell d word
  flushed-none word none = rw (cell_none word none) refl

  pub flushed-marked : (word place : ℕ) → IsPlace pairs word place → place < marked → flushed (cell d word) ≡ cell d word
  flushed-marked word place at below = rw (cell_pair word place at, pair_cell-marked marked place (pair_at pairs place) below) refl

  never_lent : AllHome d
  never_lent i = ⊎_elim
      (λ (found : (k : ℕ) × IsPlace pairs i k). rw (cell_pair i found.0 found.1) (pair_cell-home marked found.0 (pair_at pairs found.0)))
      (λ (none : HasNoPair pairs i). rw (cell_none i none) refl)
      (pair_cases values pairs i held.linked)

  -- The pairs are those of the words with two candidates.
  pub are_pairs : ArePairsOf d pairs
  are_pairs = record {
    within = λ k h. rw length_is (held.linked.within k h);
    oldest_of = λ k h. rw (cell_pair (pair_at pairs k).word k (record { below = h; names = refl })) (pair_cell-oldest marked k (pair_at pairs k));
    newest_of = λ k h. rw (cell_pair (pair_at pairs k).word k (record { below = h; names = refl })) (pair_cell-newest marked k (pair_at pairs k));
    distinct = pair_apart values pairs held.linked;
    home = never_lent;
    none = none_from_single;
    some = λ i two. ⊎_elim
        (λ (found : (k : ℕ) × IsPlace pairs i k). found)
        (λ (none : HasNoPair pairs i). let no : true ≡ false = rw (cell_none i none) at two in absurd (let f : ⊥ = cc in f))
        (pair_cases values pairs i held.linked);
  }

  -- The next word with two candidates is the next with a pair.
  pub next-none : (from : ℕ) → ((i : ℕ) → from ≤ i → i < length values → HasNoPair pairs i) → AreSingle d from (length d)
  next-none from none i after before = rw (cell_none i (none i after (omega (arith, length_is)))) refl

  pub next-some : (from w : ℕ) → IsNextPair values pairs from w → IsNextTwo d from w
  next-some from w next = record {
    after = next.after;
    below = rw length_is next.below;
    two = rw (cell_pair w next.place.0 next.place.1) (pair_cell-has_two marked next.place.0 (pair_at pairs next.place.0));
    none = λ i after before. rw (cell_none i (next.none i after before)) refl;
  }

-- the cells of words that have no pair
pub cell-no_pairs : (values : List ℕ) (i : ℕ) → cell (cells_of values [] 0) i ≡ Single (get_or values i 0)
cell-no_pairs values i =
    cell-cells_of values [] 0 i (record { within = λ k h. absurd (omega arith); leads = λ k h. absurd (omega arith) })
    ∙ word_cell-none values [] 0 i (λ k h names. absurd (omega arith))
