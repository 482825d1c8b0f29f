-- Blocks go out, one by one.
use Rattle.std.specs.Prelude.{◌≡◌, ◌≢◌, ◌⊎◌, ◌<◌, ◌+◌, ◌*◌, ◌/◌, ◌%◌, ℕ, zero, suc, true, false, List, [], ◌∷◌, ◌++◌, length, Some, refl}
use Rattle.std.proofs.Common.{arith, ap, ◌∙◌, sym, inl, inr}
use Rattle.std.proofs.lemmas.Bool.{cases_eq, cases_lt}
use Rattle.std.proofs.lemmas.List.{length_push}
use Rattle.std.proofs.lemmas.Option.{same_Some}
use Rattle.k_split.specs.pm_model.declared.Cell.{Cell}
use Rattle.k_split.specs.pm_model.declared.Cell.TheVariants.{Lent, Marked, Single, Two}
use Rattle.k_split.specs.pm_model.CellLaws.{single-home}
use Rattle.k_split.specs.pm_model.Cells.{cell, is_lent, is_single, unmarked}
use Rattle.k_split.specs.pm_model.Parts.{GoesOut, Part}
use Rattle.k_split.specs.pm_model.PartLaws.{GoesOut-at}
use Rattle.layout_model.specs.declared.lines.Draft.{Draft}
use Rattle.k_split.specs.image_model.Volume.{Volume}
use Rattle.k_split.specs.Loans.{MayLend}
use Rattle.world_write_laws.specs.world_model.Jobs.{staged_block}
use Rattle.write_jobs.specs.Jobs.{loan_at}
use Rattle.write_jobs.specs.Blocks.{GoOut}
use Rattle.write_jobs.specs.Loans.{AreApart, AreLoansOf, ComeBack, MayLendAll}
use Rattle.write_jobs.proofs.SettleLaws.{loan_before, loan_last}

-- the first blocks of an entry
abbrev pub front : Draft → ℕ → Draft
front draft n = record draft { count = n }

pub none_out : (v : Volume) (draft : Draft) (d : List Cell) → GoOut v (front draft 0) d d
none_out v draft d = record {
  size = refl;
  home = λ n b i below at word. absurd (omega (arith, below));
  out = λ n b i below at word. absurd (omega (arith, below));
  beside = λ i out. refl;
}

pub no_loans : (v : Volume) (draft : Draft) (d : List Cell) → AreLoansOf v draft d 0 []
no_loans v draft d = record { count_is = refl; places = λ n below. absurd (omega (arith, below)); words = λ n j below word. absurd (omega (arith, below)) }

-- an index below n + 1
below_or : (m n : ℕ) → m < n + 1 → (m < n) ⊎ (m ≡ n)
below_or m n below = elim (cases_lt m n) [ inl before ↦ inl before | inr past ↦ inr (omega (arith, past, below)) ]

module _ (v : Volume) (draft : Draft) (d : List Cell) (may : MayLendAll v d draft) (n : ℕ) (within : n < draft.count) where
  -- the block of place n, and where it lies
  pub own_may : MayLend v d draft.staging (draft.staging_block + n) (may.may n within).0
  own_may = (may.may n within).1

  module _ (e : List Cell) (out : GoOut v (front draft n) d e) where
    -- a word of it is as it was before any went out
    pub still : (i : ℕ) → i / 512 ≡ (may.may n within).0 → cell e i ≡ cell d i
    still i at = out.beside i (λ m b below there word. (
        let same : m ≡ n = may.apart m n (may.may n within).0 (omega (arith, below, within)) within (there ∙ ap Some (sym word ∙ at)) own_may.at in
        omega (arith, below, same)))

    -- so it may be lent now
    pub may_now : MayLend v e draft.staging (draft.staging_block + n) (may.may n within).0
    may_now = record {
      least = own_may.least;
      most = own_may.most;
      at = own_may.at;
      single = λ i at. ap is_single (still i at) ∙ own_may.single i at;
    }

    -- and then one more is out
    pub out_more : (e2 : List Cell) (part : List Cell) → length e2 ≡ length e → GoesOut 512 (may.may n within).0 e e2 part → GoOut v (front draft (n + 1)) d e2
    out_more e2 part long goes = record {
      size = long ∙ out.size;
      home = λ m b i below at word. home m b i at word (below_or m n below);
      out = λ m b i below at word. lent m b i at word (below_or m n below);
      beside = λ i beside.
          goes.others i (λ at. beside n (may.may n within).0 (omega arith) own_may.at at)
          ∙ out.beside i (λ m b below there. beside m b (omega (arith, below)) there);
    } where
      own : (m b : ℕ) → staged_block v draft m ≡ Some b → m ≡ n → b ≡ (may.may n within).0
      own m b at same = same_Some b (may.may n within).0 (sym at ∙ ap (staged_block v draft) same ∙ own_may.at)

      home : (m b i : ℕ) → staged_block v draft m ≡ Some b → i / 512 ≡ b → (m < n) ⊎ (m ≡ n) → is_lent (cell d i) ≡ false
      home m b i at word (inl before) = out.home m b i before at word
      home m b i at word (inr same) = single-home (cell d i) (own_may.single i (word ∙ own m b at same))

      lent : (m b i : ℕ) → staged_block v draft m ≡ Some b → i / 512 ≡ b → (m < n) ⊎ (m ≡ n) → is_lent (cell e2 i) ≡ true
      lent m b i at word (inl before) =
          ap is_lent (goes.others i (λ there. (
          let same : m ≡ n = may.apart m n b (omega (arith, before, within)) within at (own_may.at ∙ ap Some (sym there ∙ word)) in
          omega (arith, before, same))))
          ∙ out.out m b i before at word
      lent m b i at word (inr same) = ap is_lent (goes.out i (word ∙ own m b at same))

    pub loans_more : (loans : List Part) (loan : Part) (e2 : List Cell) → AreLoansOf v draft d n loans → loan.place ≡ (may.may n within).0 → GoesOut 512 (may.may n within).0 e e2 loan.cells
        → AreLoansOf v draft d (n + 1) (loans ++ loan ∷ [])
    loans_more loans loan e2 are place goes = record {
      count_is = omega (arith, length_push loans loan, are.count_is);
      places = λ m below. places m (below_or m n below);
      words = λ m j below word. words m j word (below_or m n below);
    } where
      last : (m : ℕ) → m ≡ n → loan_at (loans ++ loan ∷ []) m ≡ loan
      last m same = ap (loan_at (loans ++ loan ∷ [])) (same ∙ sym are.count_is) ∙ loan_last loans [] loan

      places : (m : ℕ) → (m < n) ⊎ (m ≡ n) → staged_block v draft m ≡ Some (loan_at (loans ++ loan ∷ []) m).place
      places m (inl before) = are.places m before ∙ ap (λ (p : Part). Some p.place) (sym (loan_before loans (loan ∷ []) m (omega (arith, before, are.count_is))))
      places m (inr same) = ap (staged_block v draft) same ∙ own_may.at ∙ ap Some (sym place) ∙ ap (λ (p : Part). Some p.place) (sym (last m same))

      words : (m j : ℕ) → j < 512 → (m < n) ⊎ (m ≡ n) → cell (loan_at (loans ++ loan ∷ []) m).cells j ≡ cell d (512 * (loan_at (loans ++ loan ∷ []) m).place + j)
      words m j word (inl before) =
          let same = loan_before loans (loan ∷ []) m (omega (arith, before, are.count_is)) in
          ap (λ (p : Part). cell p.cells j) same ∙ are.words m j before word ∙ ap (λ (p : Part). cell d (512 * p.place + j)) (sym same)
      words m j word (inr own) =
          let same = last m own in
          let at : (512 * (may.may n within).0 + j) / 512 ≡ (may.may n within).0 = omega (arith, word) in
          ap (λ (p : Part). cell p.cells j) same ∙ GoesOut-at 512 (may.may n within).0 e e2 loan.cells j goes word ∙ still (512 * (may.may n within).0 + j) at
          ∙ ap (λ b. cell d (512 * b + j)) (sym place) ∙ ap (λ (p : Part). cell d (512 * p.place + j)) (sym same)

-- ---- loans that are given back at once

module _ (v : Volume) (draft : Draft) (d e : List Cell) (may : MayLendAll v d draft) (n : ℕ) (few : n < draft.count + 1) (loans : List Part) (out : GoOut v (front draft n) d e) (are : AreLoansOf v draft d n loans) where
  pub loans_out : (m i : ℕ) → m < length loans → i / 512 ≡ (loan_at loans m).place → is_lent (cell e i) ≡ true
  loans_out m i below at = let within : m < n = omega (arith, below, are.count_is) in out.out m (loan_at loans m).place i within (are.places m within) at

  pub loans_apart : AreApart loans
  loans_apart m k below other same =
      let one : m < n = omega (arith, below, are.count_is) in
      let two : k < n = omega (arith, other, are.count_is) in
      may.apart m k (loan_at loans k).place (omega (arith, one, few)) (omega (arith, two, few)) (are.places m one ∙ ap Some same) (are.places k two)

unmarked_single : (c : Cell) → is_single c ≡ true → unmarked c ≡ c
unmarked_single (Single a) is = refl
unmarked_single (Two a b) is = cc
unmarked_single (Marked a b) is = cc
unmarked_single Lent is = cc

-- cells that are the same one by one
same_cells : (d e : List Cell) → length e ≡ length d → ((i : ℕ) → cell e i ≡ cell d i) → e ≡ d
same_cells [] [] long each = refl
same_cells [] (x ∷ e) long each = absurd (omega (arith, long))
same_cells (x ∷ d) [] long each = absurd (omega (arith, long))
same_cells (x ∷ d) (y ∷ e) long each = (λ i. each 0 i ∷ same_cells d e (omega (arith, long)) (λ k. each (suc k)) i)

-- whether a word lies in one of the first blocks
record IsIn (loans : List Part) (i n : ℕ) : Type 0 where
  k : ℕ
  below : k < n
  at : i / 512 ≡ (loan_at loans k).place

in_or_out : (loans : List Part) (i n : ℕ) → IsIn loans i n ⊎ ((k : ℕ) → k < n → i / 512 ≢ (loan_at loans k).place)
in_or_out loans i zero = inr (λ k below. absurd (omega (arith, below)))
in_or_out loans i (suc n) = elim (in_or_out loans i n) [
  | inl is ↦ inl (record { k = is.k; below = omega (arith, is.below); at = is.at })
  | inr out ↦ elim (cases_eq (i / 512) (loan_at loans n).place) [
    | inl same ↦ inl (record { k = n; below = omega arith; at = same })
    | inr other ↦ inr (λ k below at. elim (below_or k n (omega (arith, below))) [
      | inl before ↦ out k before at
      | inr own ↦ other (at ∙ ap (λ m. (loan_at loans m).place) own)
    ])
  ]
]

-- The device is as it was.
pub given_back : (v : Volume) (draft : Draft) (d e e2 : List Cell) (may : MayLendAll v d draft) (n : ℕ) → n < draft.count + 1 → (loans : List Part) → GoOut v (front draft n) d e → AreLoansOf v draft d n loans → ComeBack loans e e2 → e2 ≡ d
given_back v draft d e e2 may n few loans out are back =
    same_cells d e2 (back.size ∙ out.size) (λ i. each i (in_or_out loans i n)) where
      each : (i : ℕ) → IsIn loans i n ⊎ ((k : ℕ) → k < n → i / 512 ≢ (loan_at loans k).place) → cell e2 i ≡ cell d i
      each i (inl is) =
          let within : is.k < draft.count = omega (arith, is.below, few) in
          let place : (may.may is.k within).0 ≡ (loan_at loans is.k).place = same_Some (may.may is.k within).0 (loan_at loans is.k).place (sym (may.may is.k within).1.at ∙ are.places is.k is.below) in
          let word : i % 512 < 512 = omega arith in
          let here : 512 * (loan_at loans is.k).place + i % 512 ≡ i = omega (arith, is.at) in
          back.words is.k i (omega (arith, is.below, are.count_is)) is.at ∙ ap unmarked (are.words is.k (i % 512) is.below word ∙ ap (cell d) here)
          ∙ unmarked_single (cell d i) ((may.may is.k within).1.single i (is.at ∙ sym place))
      each i (inr outside) =
          back.beside i (λ k below at. outside k (omega (arith, below, are.count_is)) at)
          ∙ out.beside i (λ k b below at word. outside k below (word ∙ same_Some b (loan_at loans k).place (sym at ∙ are.places k below)))
