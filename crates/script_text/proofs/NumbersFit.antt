-- Whether the numbers of a word are few and low enough, number by number.
use Rattle.std.proofs.Common.{◌≡◌, ◌≢◌, ℕ, ◌+◌, ◌<◌, ◌≤◌, List, [], ◌∷◌, length, get_or, take, drop, refl, ◌∙◌, ap, arith, ◌++◌, Some, None, sym, Option, Bool, true, false, length-append}
use Rattle.std.proofs.lemmas.Bool.{and_from, and_left, and_right, le-leb, lt-leb}
use Rattle.std.proofs.lemmas.List.Folds.{list_all-append}
use Rattle.std.specs.Prelude.{option_map, nat_le, ◌&&◌}
use Rattle.std.specs.List.{list_all}
use Rattle.script_text.specs.Words.{are_within, fits, number_in, numbers_in, numbers_of, parts_by}
use Rattle.script_text.proofs.NumberLists.{AreRead, behind, some_number}
use Rattle.script_text.proofs.Parts.{one_more_part}

abbrev pub is_low : ℕ → ℕ → Bool
is_low highest n = nat_le n highest

-- so many numbers were read, which are low enough, and the rest is read behind them
pub record AreSoFar (most highest : ℕ) (word rest : List ℕ) (count : ℕ) : Type 0 where
  pub read : List ℕ
  pub are : AreRead word rest read
  pub count_is : length read ≡ count
  pub low : list_all (is_low highest) read ≡ true
  pub few : count ≤ most

-- the numbers of a word, of which these are read and one more is
some_more : (word rest read : List ℕ) (n v : ℕ) → AreRead word rest read → n ≤ length rest → ((k : ℕ) → k < n → get_or rest k 0 ≢ 44) → (n < length rest → get_or rest n 0 ≡ 44)
    → number_in (take n rest) ≡ Some v → (more : Option (List ℕ)) × (numbers_in word ≡ option_map (λ ns. (read ++ v ∷ []) ++ ns) more)
some_more word rest read n v are within none stops some =
    let cut = one_more_part 44 rest n within none stops in (
      numbers_of cut.0,
      are
          ∙ ap (λ (parts : List (List ℕ)). option_map (λ (ns : List ℕ). read ++ ns) (numbers_of parts)) cut.1
          ∙ ap (λ (ns : Option (List ℕ)). option_map (λ (ns : List ℕ). read ++ ns) ns) (some_number (take n rest) cut.0 v some)
          ∙ behind read v (numbers_of cut.0),
    )

all_front : (highest : ℕ) (front ns : List ℕ) → list_all (is_low highest) front ≡ false → list_all (is_low highest) (front ++ ns) ≡ false
all_front highest front ns high =
    list_all-append (is_low highest) front ns ∙ and_left (list_all (is_low highest) front) (list_all (is_low highest) ns) high

ends_high : (highest : ℕ) (read : List ℕ) (v : ℕ) → highest < v → list_all (is_low highest) (read ++ v ∷ []) ≡ false
ends_high highest read v high =
    list_all-append (is_low highest) read (v ∷ [])
    ∙ and_right (list_all (is_low highest) read) (list_all (is_low highest) (v ∷ [])) (and_left (is_low highest v) true (lt-leb v highest high))

high_front : (most highest : ℕ) (read : List ℕ) (v : ℕ) (more : Option (List ℕ)) → highest < v → fits most highest (option_map (λ (ns : List ℕ). (read ++ v ∷ []) ++ ns) more) ≡ false
high_front most highest read v None high = refl
high_front most highest read v (Some ns) high =
    and_right (nat_le (length ((read ++ v ∷ []) ++ ns)) most) (list_all (is_low highest) ((read ++ v ∷ []) ++ ns)) (all_front highest (read ++ v ∷ []) ns (ends_high highest read v high))

many_front : (most highest : ℕ) (read : List ℕ) (v : ℕ) (more : Option (List ℕ)) → most ≤ length read → fits most highest (option_map (λ (ns : List ℕ). (read ++ v ∷ []) ++ ns) more) ≡ false
many_front most highest read v None many = refl
many_front most highest read v (Some ns) many =
    let long : length ((read ++ v ∷ []) ++ ns) ≡ length read + 1 + length ns =
    length-append (read ++ v ∷ []) ns ∙ ap (λ (k : ℕ). k + length ns) (length-append read (v ∷ [])) in
    and_left (nat_le (length ((read ++ v ∷ []) ++ ns)) most) (list_all (is_low highest) ((read ++ v ∷ []) ++ ns)) (lt-leb (length ((read ++ v ∷ []) ++ ns)) most (omega (arith, long, many)))

-- ---- none of these fits

pub none_fit : (most highest : ℕ) (word : List ℕ) → None ≡ numbers_in word → false ≡ fits most highest (numbers_in word)
none_fit most highest word none = ap (fits most highest) none

pub too_high : (most highest : ℕ) (word rest : List ℕ) (count n v : ℕ) → AreSoFar most highest word rest count → n ≤ length rest → ((k : ℕ) → k < n → get_or rest k 0 ≢ 44) → (n < length rest → get_or rest n 0 ≡ 44)
    → number_in (take n rest) ≡ Some v → highest < v → false ≡ fits most highest (numbers_in word)
too_high most highest word rest count n v far within none stops some high =
    let more = some_more word rest far.read n v far.are within none stops some in
    sym (ap (fits most highest) more.1 ∙ high_front most highest far.read v more.0 high)

pub too_many : (most highest : ℕ) (word rest : List ℕ) (count n v : ℕ) → AreSoFar most highest word rest count → n ≤ length rest → ((k : ℕ) → k < n → get_or rest k 0 ≢ 44) → (n < length rest → get_or rest n 0 ≡ 44)
    → number_in (take n rest) ≡ Some v → count ≡ most → false ≡ fits most highest (numbers_in word)
too_many most highest word rest count n v far within none stops some full =
    let more = some_more word rest far.read n v far.are within none stops some in
    sym (ap (fits most highest) more.1 ∙ many_front most highest far.read v more.0 (omega (arith, full, far.count_is)))

-- ---- one more

pub one_more : (most highest : ℕ) (word rest then read : List ℕ) (count v : ℕ) → AreRead word then (read ++ v ∷ []) → length read ≡ count → list_all (is_low highest) read ≡ true → count ≤ most → v ≤ highest → count ≢ most
    → AreSoFar most highest word then (count + 1)
one_more most highest word rest then read count v are count_is low few at_most less = record {
  read = read ++ v ∷ [];
  are = are;
  count_is = length-append read (v ∷ []) ∙ ap (λ (k : ℕ). k + 1) count_is;
  low = all_low highest read v low at_most;
  few = omega (arith, few, less);
} where
  all_low : (highest : ℕ) (read : List ℕ) (v : ℕ) → list_all (is_low highest) read ≡ true → v ≤ highest → list_all (is_low highest) (read ++ v ∷ []) ≡ true
  all_low highest read v low at_most = list_all-append (is_low highest) read (v ∷ []) ∙ and_from (list_all (is_low highest) read) (list_all (is_low highest) (v ∷ [])) low (and_from (is_low highest v) true (le-leb v highest at_most) refl)

pub all_fit : (most highest : ℕ) (word read : List ℕ) (count v : ℕ) → Some (read ++ v ∷ []) ≡ numbers_in word → length read ≡ count → list_all (is_low highest) read ≡ true → count ≤ most → v ≤ highest → count ≢ most
    → true ≡ fits most highest (numbers_in word)
all_fit most highest word read count v is count_is low few at_most less =
    sym (ap (fits most highest) (sym is) ∙ and_from (nat_le (length (read ++ v ∷ [])) most) (list_all (is_low highest) (read ++ v ∷ []))
    (le-leb (length (read ++ v ∷ [])) most (omega (arith, length-append read (v ∷ []), count_is, few, less)))
    (list_all-append (is_low highest) read (v ∷ []) ∙ and_from (list_all (is_low highest) read) (list_all (is_low highest) (v ∷ [])) low (and_from (is_low highest v) true (le-leb v highest at_most) refl)))
