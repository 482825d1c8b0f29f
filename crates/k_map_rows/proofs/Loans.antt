-- A block goes out of a device that has all its words, and comes back.
use Rattle.std.proofs.Common.{◌≡◌, ◌/◌, ◌%◌, ℕ, true, false, List, refl, sym, ◌∙◌, ap, inl, inr}
use Rattle.std.proofs.lemmas.Bool.{both_ways, cases_eq}
use Rattle.k_map_tests.specs.pm_model.declared.Cell.{Cell}
use Rattle.k_map_tests.specs.pm_model.declared.Cell.TheVariants.{Single, Two, Marked, Lent}
use Rattle.k_map_tests.specs.pm_model.Cells.{AllHome, cell, is_lent, unmarked}
use Rattle.k_map_tests.specs.pm_model.Parts.{ComesBack, GoesOut}
use Rattle.k_map_rows.specs.Lends.{IsOutAt}

pub out-at : (old new part : List Cell) (b place : ℕ) → AllHome old → place ≡ b → GoesOut 512 b old new part → IsOutAt new place
out-at old new part b place home same goes = record {
  out = λ i at. ap is_lent (goes.out i (at ∙ same));
  others = λ i lent. elim (cases_eq (i / 512) b) as (λ _. i / 512 ≡ place) [
    | inl inside ↦ inside ∙ sym same
    | inr outside ↦ absurd (both_ways (is_lent (cell new i)) (ap is_lent (goes.others i outside) ∙ home i) lent)
  ];
}

is_lent-unmarked : (c : Cell) → is_lent (unmarked c) ≡ is_lent c
is_lent-unmarked (Single x) = refl
is_lent-unmarked (Two x y) = refl
is_lent-unmarked (Marked x y) = refl
is_lent-unmarked Lent = refl

not-true : (c : Cell) → (is_lent c ≡ true → is_lent c ≡ false) → is_lent c ≡ false
not-true (Single x) as_well = refl
not-true (Two x y) as_well = refl
not-true (Marked x y) as_well = refl
not-true Lent as_well = as_well refl

pub back-home : (old new part : List Cell) (place : ℕ) → IsOutAt old place → AllHome part → ComesBack 512 place part old new → AllHome new
back-home old new part place out home back i = elim (cases_eq (i / 512) place) as (λ _. is_lent (cell new i) ≡ false) [
  | inl inside ↦ ap is_lent (back.words i inside) ∙ (is_lent-unmarked (cell part (i % 512)) ∙ home (i % 512))
  | inr outside ↦
      ap is_lent (back.others i outside) ∙ not-true (cell old i) (λ lent. absurd (outside (out.others i lent)))
]
