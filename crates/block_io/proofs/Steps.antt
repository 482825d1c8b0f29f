-- One line more is out; one line more is back.
use Rattle.std.proofs.Common.{◌≡◌, ◌≢◌, ℕ, ◌+◌, ◌*◌, ◌/◌, ◌%◌, ◌<◌, ◌≤◌, ◌++◌, ◌∷◌, [], List, length, true, false, refl, sym, ◌∙◌, ap, subst, arith, ⊎_elim}
use Rattle.std.proofs.lemmas.Bool.{cases_eq, cases_lt}
use Rattle.std.proofs.lemmas.List.{get_or_append_left, get_or_at, get_or_push, length-append, length_push}
use Rattle.pm_lines.specs.pm_model.declared.Cell.{Cell}
use Rattle.pm_lines.specs.pm_model.Cells.{cell, is_lent, unmarked}
use Rattle.pm_lines.specs.pm_model.Parts.{ComesBack, GoesOut, Part}
use Rattle.block_io.specs.Overwrites.{IsInLines}
use Rattle.block_io.specs.Lines.{AreFrom, line_at, LinesComeBack, LinesGoOut}

abbrev none : Part
none = record { place = 0; cells = [] }

at_place : (q j : ℕ) → j < 8 → (8 * q + j) / 8 ≡ q
at_place q j short = omega (arith, short)

at_word : (q j : ℕ) → j < 8 → (8 * q + j) % 8 ≡ j
at_word q j short = omega (arith, short)

module _ (first : ℕ) (d e f : List Cell) (lines : List Part) (x : Part) where
  abbrev all : List Part
  all = lines ++ x ∷ []

  long : length all ≡ length lines + 1
  long = length_push lines x

  before : (n : ℕ) → n < length lines → line_at all n ≡ line_at lines n
  before n short = get_or_append_left lines (x ∷ []) none n short

  last : line_at all (length lines) ≡ x
  last = get_or_push lines x none (length lines) refl

  pub out_more : LinesGoOut first d e lines → x.place ≡ first + length lines → GoesOut 8 (first + length lines) e f x.cells → LinesGoOut first d f all
  out_more so place goes = record {
    places = λ n short. ⊎_elim
        (λ (less : n < length lines). ap (λ (p : Part). p.place) (before n less) ∙ so.places n less)
        (λ (same : length lines ≤ n).
        let is : length lines ≡ n = omega (arith, same, short, long) in
        subst (λ m. (line_at all m).place ≡ first + m) is (ap (λ (p : Part). p.place) last ∙ place))
        (cases_lt n (length lines));
    words = λ n j short low. ⊎_elim
        (λ (less : n < length lines). ap (λ (p : Part). cell p.cells j) (before n less) ∙ so.words n j less low)
        (λ (same : length lines ≤ n).
        let is : length lines ≡ n = omega (arith, same, short, long) in
        subst (λ m. cell (line_at all m).cells j ≡ cell d (8 * (first + m) + j)) is (ap (λ (p : Part). cell p.cells j) last ∙ own j low))
        (cases_lt n (length lines));
    out = λ i is. ⊎_elim
        (λ (here : i / 8 ≡ first + length lines). goes.out i here)
        (λ (other : i / 8 ≢ first + length lines). goes.others i other ∙ so.out i (record { from = is.from; below = omega (arith, is.below, long, other) }))
        (cases_eq (i / 8) (first + length lines));
    others = λ i off.
        goes.others i (λ here. off (record { from = omega (arith, here); below = omega (arith, here, long) }))
        ∙ so.others i (λ is. off (record { from = is.from; below = omega (arith, is.below, long) }));
  } where
    own : (j : ℕ) → j < 8 → cell x.cells j ≡ cell d (8 * (first + length lines) + j)
    own j low =
        let i : ℕ = 8 * (first + length lines) + j in
        let here : i / 8 ≡ first + length lines = at_place (first + length lines) j low in
        subst (λ m. cell x.cells m ≡ cell e i) (at_word (first + length lines) j low) (goes.words i here)
        ∙ so.others i (λ is. omega (arith, is.below, here))

  pub back_more : LinesComeBack first lines d e → x.place ≡ first + length lines → ComesBack 8 x.place x.cells e f → LinesComeBack first all d f
  back_more so place back = record {
    words = λ n j short low. ⊎_elim
        (λ (less : n < length lines).
        let i : ℕ = 8 * (first + n) + j in
        let here : i / 8 ≡ first + n = at_place (first + n) j low in
        back.others i (λ at. omega (arith, less, here, at, place)) ∙ so.words n j less low ∙ ap (λ (p : Part). unmarked (cell p.cells j)) (sym (before n less)))
        (λ (same : length lines ≤ n).
        let is : length lines ≡ n = omega (arith, same, short, long) in
        subst (λ m. cell f (8 * (first + m) + j) ≡ unmarked (cell (line_at all m).cells j)) is (own j low ∙ ap (λ (p : Part). unmarked (cell p.cells j)) (sym last)))
        (cases_lt n (length lines));
    others = λ i off.
        back.others i (λ here. off (record { from = omega (arith, here, place); below = omega (arith, here, place, long) }))
        ∙ so.others i (λ is. off (record { from = is.from; below = omega (arith, is.below, long) }));
  }
    where
      own : (j : ℕ) → j < 8 → cell f (8 * (first + length lines) + j) ≡ unmarked (cell x.cells j)
      own j low =
          let i : ℕ = 8 * (first + length lines) + j in
          let here : i / 8 ≡ first + length lines = at_place (first + length lines) j low in
          subst (λ m. cell f i ≡ unmarked (cell x.cells m)) (at_word (first + length lines) j low) (back.words i (here ∙ sym place))

-- ---- lines that come back, of which these stand first

module _ (first : ℕ) (d e : List Cell) (lines done rest : List Part) (x : Part) (is : lines ≡ done ++ x ∷ rest) (places : AreFrom first lines) where
  more : length done < length lines
  more = omega (arith, ap length is ∙ length-append done (x ∷ rest))

  pub place_next : x.place ≡ first + length done
  place_next =
      ap (λ (p : Part). p.place) (sym (ap (λ xs. line_at xs (length done)) is ∙ get_or_at done x rest none (length done) refl)) ∙ places (length done) more

  pub out_next : LinesComeBack first done d e → ((i : ℕ) → IsInLines first (length lines) i → is_lent (cell d i) ≡ true) → (i : ℕ) → i / 8 ≡ x.place → is_lent (cell e i) ≡ true
  out_next so out i at =
      ap is_lent (so.others i (λ was. omega (arith, was.below, at, place_next)))
      ∙ out i (record { from = omega (arith, at, place_next); below = omega (arith, at, place_next, more) })

-- what is back is home
pub home_more : (first : ℕ) (d e f : List Cell) (done : List Part) (x : Part) → x.place ≡ first + length done
    → ((i : ℕ) → IsInLines first (length done) i → is_lent (cell e i) ≡ false) → ((i : ℕ) → i / 8 ≡ x.place → is_lent (cell f i) ≡ false)
    → ComesBack 8 x.place x.cells e f → (i : ℕ) → IsInLines first (length (done ++ x ∷ [])) i → is_lent (cell f i) ≡ false
home_more first d e f done x place were home back i is = ⊎_elim
    (λ (here : i / 8 ≡ x.place). home i here)
    (λ (other : i / 8 ≢ x.place). ap is_lent (back.others i other) ∙ were i (record { from = is.from; below = omega (arith, is.below, length_push done x, place, other) }))
    (cases_eq (i / 8) x.place)
