-- Loans come back, one by one.
use Rattle.std.proofs.Common.{◌≡◌, ◌≢◌, ◌⊎◌, ◌<◌, ◌/◌, ◌%◌, ℕ, List, [], ◌∷◌, ◌++◌, length, true, refl, arith, ap, ◌∙◌, sym, inl, inr}
use Rattle.std.proofs.lemmas.Bool.{cases_lt}
use Rattle.std.proofs.lemmas.List.{get_or_append_left, get_or_at, length-append, length_push}
use Rattle.std.proofs.lemmas.Option.{same_Some}
use Rattle.k_split.specs.pm_model.declared.Cell.{Cell}
use Rattle.k_split.specs.pm_model.Cells.{cell, is_lent, unmarked}
use Rattle.k_split.specs.pm_model.Parts.{ComesBack, Part}
use Rattle.write_jobs.specs.Jobs.{loan_at}
use Rattle.write_jobs.specs.Loans.{AreApart, ComeBack, PutsBack}

-- ---- one loan more

abbrev none : Part
none = record { place = 0; cells = [] }

-- the loans before it are found as they were, and it is found behind them
pub loan_before : (loans later : List Part) (n : ℕ) → n < length loans → loan_at (loans ++ later) n ≡ loan_at loans n
loan_before loans later n below = get_or_append_left loans later none n below

pub loan_last : (loans later : List Part) (loan : Part) → loan_at (loans ++ loan ∷ later) (length loans) ≡ loan
loan_last loans later loan = get_or_at loans loan later none (length loans) refl

-- an index of the longer list
pub last_or : (loans : List Part) (loan : Part) (n : ℕ) → n < length (loans ++ loan ∷ []) → (n < length loans) ⊎ (n ≡ length loans)
last_or loans loan n below = elim (cases_lt n (length loans)) [
  | inl before ↦ inl before
  | inr past ↦ inr (omega (arith, past, below, length_push loans loan))
]

pub come_back_none : (d : List Cell) → ComeBack [] d d
come_back_none d = record { size = refl; words = λ n i below at. absurd (omega (arith, below)); beside = λ i out. refl }

module _ (loans : List Part) (loan : Part) (d e e2 : List Cell) (long : length e2 ≡ length e) (apart : (n : ℕ) → n < length loans → (loan_at loans n).place ≢ loan.place) (before : ComeBack loans d e) (last : ComesBack 512 loan.place loan.cells e e2) where
  words_more : (n i : ℕ) → i / 512 ≡ (loan_at (loans ++ loan ∷ []) n).place → (n < length loans) ⊎ (n ≡ length loans)
      → cell e2 i ≡ unmarked (cell (loan_at (loans ++ loan ∷ []) n).cells (i % 512))
  words_more n i at (inl below) =
      let same : loan_at (loans ++ loan ∷ []) n ≡ loan_at loans n = loan_before loans (loan ∷ []) n below in
      let there : i / 512 ≡ (loan_at loans n).place = at ∙ ap (λ (p : Part). p.place) same in
      last.others i (λ own. apart n below (sym there ∙ own)) ∙ before.words n i below there ∙ ap (λ (p : Part). unmarked (cell p.cells (i % 512))) (sym same)
  words_more n i at (inr own) =
      let same : loan_at (loans ++ loan ∷ []) n ≡ loan = ap (loan_at (loans ++ loan ∷ [])) own ∙ loan_last loans [] loan in
      last.words i (at ∙ ap (λ (p : Part). p.place) same) ∙ ap (λ (p : Part). unmarked (cell p.cells (i % 512))) (sym same)

  pub come_back_more : ComeBack (loans ++ loan ∷ []) d e2
  come_back_more = record {
    size = long ∙ before.size;
    words = λ n i below at. words_more n i at (last_or loans loan n below);
    beside = λ i out.
        last.others i (λ at. out (length loans) (omega (arith, length_push loans loan)) (at ∙ ap (λ (p : Part). p.place) (sym (loan_last loans [] loan))))
        ∙ before.beside i (λ n below at. out n (omega (arith, below, length_push loans loan)) (at ∙ ap (λ (p : Part). p.place) (sym (loan_before loans (loan ∷ []) n below))));
  }

-- ---- the next one of all

module _ (all loans later : List Part) (loan : Part) (is : all ≡ loans ++ loan ∷ later) where
  long_enough : length loans < length all
  long_enough = omega (arith, ap length is, length-append loans (loan ∷ later))

  found : (n : ℕ) → n < length loans → loan_at all n ≡ loan_at loans n
  found n below = ap (λ (xs : List Part). loan_at xs n) is ∙ loan_before loans (loan ∷ later) n below

  own : loan_at all (length loans) ≡ loan
  own = ap (λ (xs : List Part). loan_at xs (length loans)) is ∙ loan_last loans later loan

  -- it is of another block than those before
  pub next_apart : AreApart all → (n : ℕ) → n < length loans → (loan_at loans n).place ≢ loan.place
  next_apart apart n below same =
      let e : n ≡ length loans =
      apart n (length loans) (omega (arith, below, long_enough)) long_enough
      (ap (λ (p : Part). p.place) (found n below) ∙ same ∙ ap (λ (p : Part). p.place) (sym own)) in
      absurd (omega (arith, below, e))

  -- and still out
  pub next_out : (d e : List Cell) → ((n i : ℕ) → n < length all → i / 512 ≡ (loan_at all n).place → is_lent (cell d i) ≡ true) → AreApart all → ComeBack loans d e
      → (i : ℕ) → i / 512 ≡ loan.place → is_lent (cell e i) ≡ true
  next_out d e out apart back i at =
      ap is_lent (back.beside i (λ n below there. next_apart apart n below (sym there ∙ at)))
      ∙ out (length loans) i long_enough (at ∙ ap (λ (p : Part). p.place) (sym own))

-- ---- they are the blocks of the entry

pub puts_back : PutsBack
puts_back v draft loans d e count places back = record {
  size = back.size;
  words = λ k b i below at word.
      let same : b ≡ (loan_at loans k).place = same_Some b (loan_at loans k).place (sym at ∙ places k below) in
      back.words k i (omega (arith, below, count)) (word ∙ same);
  beside = λ i out. back.beside i (λ n below at. (let within : n < draft.count = omega (arith, below, count) in out n (loan_at loans n).place within (places n within) at));
}
