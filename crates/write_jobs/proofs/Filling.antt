-- Blocks filled one after the other.
use Rattle.std.specs.Prelude.{◌≡◌, ◌<◌, ◌+◌, ◌*◌, ℕ, List, [], length, slice_index, slice_index_or, slice_set}
use Rattle.std.proofs.Common.{arith, sym, subst, ◌∙◌, inl, inr}
use Rattle.std.proofs.Math.Seq.{map-set_same}
use Rattle.std.proofs.lemmas.Bool.{cases_lt}
use Rattle.std.proofs.lemmas.List.{get_or_default, get_or-set_other, get_or-set_same}
use Rattle.pm_lines.specs.pm_model.declared.Cell.TheVariants.{Single}
use Rattle.pm_lines.specs.pm_model.Cells.{cell}
use Rattle.pm_lines.specs.pm_model.Parts.{Part}
use Rattle.write_jobs.specs.Jobs.{blocks_of, loan_at}

-- the first k loans hold their words
abbrev pub HoldFirst : List Part → List ℕ → ℕ → Type 0
HoldFirst loans words k = (n j : ℕ) → n < k → j < 512 → cell (loan_at loans n).cells j ≡ Single (slice_index words (512 * n + j))

module _ (loans : List Part) (k : ℕ) (below : k < length loans) where
  -- loan k, as it is read
  pub loan_is : (loan : Part) → loan ≡ slice_index_or loans k loan → loan ≡ loan_at loans k
  loan_is loan is = is ∙ get_or_default loans k loan (record { place = 0; cells = [] }) below

  module _ (loan : Part) where
    pub set_own : loan_at (slice_set loans k loan) k ≡ loan
    set_own = get_or-set_same loans k loan (record { place = 0; cells = [] }) below

    pub set_other : (n : ℕ) → (n ≡ k → ⊥) → loan_at (slice_set loans k loan) n ≡ loan_at loans n
    set_other n apart = get_or-set_other loans k n loan (record { place = 0; cells = [] }) apart

    pub set_places : loan.place ≡ (loan_at loans k).place → blocks_of (slice_set loans k loan) ≡ blocks_of loans
    set_places same = map-set_same (λ (p : Part). p.place) loans k loan (record { place = 0; cells = [] }) same

    pub set_holds : (words : List ℕ) → HoldFirst loans words k → ((j : ℕ) → j < 512 → cell loan.cells j ≡ Single (slice_index words (512 * k + j))) → HoldFirst (slice_set loans k loan) words (k + 1)
    set_holds words before own n j first word = elim (cases_lt n k) [
      | inl earlier ↦ subst (λ (p : Part). cell p.cells j ≡ Single (slice_index words (512 * n + j))) (sym (set_other n (λ same. omega (arith, same, earlier)))) (before n j earlier word)
      | inr last ↦
          let same : n ≡ k = omega (arith, first, last) in
          subst (λ m. cell (loan_at (slice_set loans k loan) m).cells j ≡ Single (slice_index words (512 * m + j))) (sym same)
          (subst (λ (p : Part). cell p.cells j ≡ Single (slice_index words (512 * k + j))) (sym set_own) (own j word))
    ]
