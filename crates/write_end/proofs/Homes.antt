-- The blocks of jobs, and loans that come home one after the other.
use Rattle.std.proofs.Common.{◌≡◌, ◌⊎◌, ◌<◌, ◌/◌, ◌%◌, ◌∷◌, ◌++◌, [], ℕ, zero, suc, false, List, length, refl, arith, ap, ◌∙◌, sym, inl, inr}
use Rattle.oplog_entry.specs.pm_model.declared.Cell.{Cell}
use Rattle.oplog_entry.specs.pm_model.declared.Cell.TheVariants.{Lent, Marked, Single, Two}
use Rattle.oplog_entry.specs.pm_model.Cells.{cell, is_lent, unmarked}
use Rattle.oplog_entry.specs.pm_model.Parts.{Part}
use Rattle.in_place.specs.k_split_laws.list_laws.Members.{In}
use Rattle.write_end.proofs.LosingPending.{job_of}
use Rattle.in_place.specs.live_model.write_jobs.Jobs.{loan_at}
use Rattle.write_end.specs.LosingLaws.{ComeHomeMore, ComeHomeNone, HasBlocksOut, LeavesBlocks}
use Rattle.write_end.proofs.Jobs.{blocks_out}

pub has_blocks_out : HasBlocksOut
has_blocks_out g k t kept n s p stands there =
    let its = job_of kept.pending stands.jobs p stands.jobs_are there in
    blocks_out k.volume p its.job.draft k.cells (stands.blocks p there) its.draft (stands.flying.out its.job its.there)

pub leaves_blocks : LeavesBlocks
leaves_blocks g d e blocks left = (λ out i at. left.lent i ∙ out i at, λ home i at. left.lent i ∙ home i at)

pub come_home_none : ComeHomeNone
come_home_none d = record { size = refl; words = λ loan i at word. absurd at; home = λ loan i at word. absurd at; beside = λ i none. refl }

-- ---- one list behind another

in_both : (xs ys : List Part) (x : Part) → In x (xs ++ ys) → In x xs ⊎ In x ys
in_both [] ys x at = inr at
in_both (y ∷ xs) ys x (inl same) = inl (inl same)
in_both (y ∷ xs) ys x (inr rest) = elim (in_both xs ys x rest) [ inl first ↦ inl (inr first) | inr last ↦ inr last ]

in_first : (xs ys : List Part) (x : Part) → In x xs → In x (xs ++ ys)
in_first [] ys x at = absurd at
in_first (y ∷ xs) ys x (inl same) = inl same
in_first (y ∷ xs) ys x (inr rest) = inr (in_first xs ys x rest)

in_second : (xs ys : List Part) (x : Part) → In x ys → In x (xs ++ ys)
in_second [] ys x at = at
in_second (y ∷ xs) ys x at = inr (in_second xs ys x at)

index_of : (xs : List Part) (x : Part) → In x xs → (n : ℕ) × (n < length xs) × (loan_at xs n ≡ x)
index_of [] x at = absurd at
index_of (y ∷ xs) x (inl same) = (0, omega arith, same)
index_of (y ∷ xs) x (inr rest) = let its = index_of xs x rest in (suc its.0, omega (arith, its.1), its.2)

at_index : (xs : List Part) (n : ℕ) → n < length xs → In (loan_at xs n) xs
at_index [] n below = absurd (omega (arith, below))
at_index (x ∷ xs) zero below = inl refl
at_index (x ∷ xs) (suc n) below = inr (at_index xs n (omega (arith, below)))

still_home : (c : Cell) → is_lent c ≡ false → is_lent (unmarked c) ≡ false
still_home (Single a) home = home
still_home (Two a b) home = home
still_home (Marked a b) home = home
still_home Lent home = home

pub come_home_more : ComeHomeMore
come_home_more loans more d e f first second parts apart = record {
  size = second.size ∙ first.size;
  words = λ loan i at word. elim (in_both loans more loan at) [
    | inl old ↦ still loan i old word ∙ first.words loan i old word
    | inr new ↦ new_words loan i new word
  ];
  home = λ loan i at word. elim (in_both loans more loan at) [
    | inl old ↦ ap is_lent (still loan i old word) ∙ first.home loan i old word
    | inr new ↦ ap is_lent (new_words loan i new word) ∙ still_home (cell loan.cells (i % 512)) (parts loan (i % 512) new)
  ];
  beside = λ i none.
      second.beside i (λ n below word. none (loan_at more n) (in_second loans more (loan_at more n) (at_index more n below)) word)
      ∙ first.beside i (λ loan at word. none loan (in_first loans more loan at) word);
} where
  still : (loan : Part) (i : ℕ) → In loan loans → i / 512 ≡ loan.place → cell f i ≡ cell e i
  still loan i at word = second.beside i (λ n below other. apart loan (loan_at more n) at (at_index more n below) (sym word ∙ other))

  new_words : (loan : Part) (i : ℕ) → In loan more → i / 512 ≡ loan.place → cell f i ≡ unmarked (cell loan.cells (i % 512))
  new_words loan i at word =
      let its = index_of more loan at in
      second.words its.0 i its.1 (word ∙ ap (λ (p : Part). p.place) (sym its.2)) ∙ ap (λ (p : Part). unmarked (cell p.cells (i % 512))) its.2
