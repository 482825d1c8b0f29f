-- Runs go out and come back: they share no block, and lie in the staging files.
use Rattle.std.proofs.Common.{◌≡◌, ◌≢◌, ◌≤◌, ◌<◌, ◌+◌, ◌-◌, ◌==◌, ◌&&◌, not, ℕ, Bool, true, false, List, [], ◌∷◌, length, refl, sym, ◌∙◌, ap, subst, inl, inr, arith, get_or}
use Rattle.std.specs.Prelude.{nat_lt, replicate, slice_set, All, remove}
use Rattle.std.specs.List.{list_any}
use Rattle.std.proofs.lemmas.Bool.{and_parts, both_ways, cases_eq, cases_lt, eq-eqb, eqb-true, false_from_ne_true, ne_eqb}
use Rattle.std.proofs.lemmas.Bool.Decides.{nat_tests}
use Rattle.std.proofs.lemmas.Grind.{get_or_default_zero}
use Rattle.std.proofs.lemmas.List.{get_or-replicate, get_or-set_other, get_or-set_same, length-set}
use Rattle.std.proofs.lemmas.List.Edits.{get_or-remove_above, get_or-remove_below, length-remove}
use Rattle.std.proofs.lemmas.List.Elements.{All-append}
use Rattle.std.proofs.lemmas.List.Folds.{list_any_at, list_any_none}
use Rattle.std.proofs.lemmas.List.Quantifiers.{all_pairs_push, all_pairs_remove}
use Rattle.k_split.specs.extent_model.Extents.{is_within}
use Rattle.staging_files.specs.declared.runs.StageRun.{StageRun}
use Rattle.staging_files.specs.Keeps.{AreApart, AreTaken, given_to, has_block, is_kept_free, IsKeptEmpty, IsPlaced, IsStaged, IsStaging, Staged}
use Rattle.staging_files.specs.GivesUp.{nothing_staged}
use Rattle.staging_files.specs.Reserves.{has_empty, IsFreeRun, with_given, with_out}

-- what a block that is kept as free is
pub free-given : (s : Staged) (x b : ℕ) → is_kept_free s x b ≡ true → b < given_to s x
free-given s x b free = let first = (and_parts (nat_lt b (given_to s x)) (not (list_any (has_block x b) s.out)) free).0 in grind (arith, nat_tests, first)

pub free-none : (s : Staged) (x b : ℕ) → is_kept_free s x b ≡ true → list_any (has_block x b) s.out ≡ false
free-none s x b free = by (list_any (has_block x b) s.out) (and_parts (nat_lt b (given_to s x)) (not (list_any (has_block x b) s.out)) free).1 where
  by : (a : Bool) → not a ≡ true → a ≡ false
  by true is = sym is
  by false is = refl

pub free-from : (s : Staged) (x b : ℕ) → b < given_to s x → list_any (has_block x b) s.out ≡ false → is_kept_free s x b ≡ true
free-from s x b below none = let test : nat_lt b (given_to s x) ≡ true = grind (arith, nat_tests, below) in (λ i. test i && not (none i))

-- what a block of a run is
pub has-parts : (x b : ℕ) (run : StageRun) → has_block x b run ≡ true → (run.staging ≡ x) × (run.block ≤ b) × (b < run.block + run.count)
has-parts x b run has =
    let both = and_parts (run.staging == x) (is_within run.block run.count b) has in
    let inside = both.1 in
    (eqb-true run.staging x both.0, grind (arith, nat_tests, inside), grind (arith, nat_tests, inside))

-- a run of blocks that are kept as free shares none with those that are out
pub apart-free : (s : Staged) (run : StageRun) → IsFreeRun s run.count run.staging run.block → (k : ℕ) (d : StageRun) → k < length s.out → AreApart (get_or s.out k d) run
apart-free s run free k d below y c has = false_from_ne_true (has_block y c run) (λ other.
    let parts = has-parts y c run other in
    let here : is_kept_free s run.staging c ≡ true = free c parts.1 parts.2 in
    let there : list_any (has_block run.staging c) s.out ≡ true = list_any_at (has_block run.staging c) s.out k d below (ap (λ z. has_block z c (get_or s.out k d)) parts.0 ∙ has) in
    both_ways (list_any (has_block run.staging c) s.out) (free-none s run.staging c here) there)

-- one of a staging file that is kept as empty, too
pub apart-empty : (s : Staged) (run : StageRun) → IsStaged s → IsKeptEmpty s run.staging → (k : ℕ) (d : StageRun) → k < length s.out → AreApart (get_or s.out k d) run
apart-empty s run keeps empty k d below y c has = false_from_ne_true (has_block y c run) (λ other.
    let parts = has-parts y c run other in
    let own = has-parts y c (get_or s.out k d) has in
    let placed = keeps.placed k d below in
    let same : given_to s (get_or s.out k d).staging ≡ 0 = ap (given_to s) (own.0 ∙ sym parts.0) ∙ empty in
    omega (arith, placed.inside, placed.some, same))

-- ---- a run goes out

-- by the first way
pub staged-taken : (s : Staged) (run : StageRun) → IsStaged s → IsStaging run.staging → 1 ≤ run.count → IsFreeRun s run.count run.staging run.block → IsStaged (with_out run s)
staged-taken s run keeps staging some free = record {
  files = keeps.files;
  most = keeps.most;
  placed = All-append (IsPlaced (with_out run s)) s.out (run ∷ []) (λ k d below. let was = keeps.placed k d below in record { staging = was.staging; some = was.some; inside = was.inside }) (λ k d below. one k d below);
  apart = all_pairs_push AreApart s.out run keeps.apart (apart-free s run free);
}
  where
    last : run.block + run.count ≤ given_to s run.staging
    last = omega (arith, free-given s run.staging (run.block + run.count - 1) (free (run.block + run.count - 1) (omega (arith, some)) (omega (arith, some))), some)

    one : (k : ℕ) (d : StageRun) → k < 1 → IsPlaced (with_out run s) (get_or (run ∷ []) k d)
    one k d below = subst (λ n. IsPlaced (with_out run s) (get_or (run ∷ []) n d)) (zero k below) (record { staging = staging; some = some; inside = last })
      where
        zero : (n : ℕ) → n < 1 → 0 ≡ n
        zero n h = omega arith

-- how many blocks each staging file was given, after one was given some
pub given_to-same : (s : Staged) (x n : ℕ) → IsStaged s → IsStaging x → given_to (with_given x n s) x ≡ n
given_to-same s x n keeps staging = get_or-set_same s.given (x - 1) n 0 (omega (arith, keeps.files, staging.least, staging.most))

pub given_to-other : (s : Staged) (x n y : ℕ) → IsStaging x → IsStaging y → y ≢ x → given_to (with_given x n s) y ≡ given_to s y
given_to-other s x n y first second other =
    get_or-set_other s.given (x - 1) (y - 1) n 0 (λ same. other (omega (arith, same, first.least, second.least)))

-- by the second way
pub staged-given : (s : Staged) (run : StageRun) (n : ℕ) → IsStaged s → IsStaging run.staging → 1 ≤ run.count → run.block ≡ 0 → run.count ≤ n → n ≤ 64
    → IsKeptEmpty s run.staging → IsStaged (with_out run (with_given run.staging n s))
staged-given s run n keeps staging some first fits most empty = record {
  files = length-set s.given (run.staging - 1) n ∙ keeps.files;
  most = All-set (λ m. m ≤ 64) s.given (run.staging - 1) n keeps.most most;
  placed = All-append (IsPlaced t) s.out (run ∷ []) old one;
  apart = all_pairs_push AreApart s.out run keeps.apart (apart-empty s run keeps empty);
}
  where
    t : Staged
    t = with_out run (with_given run.staging n s)

    All-set : (P : ℕ → Type 0) (xs : List ℕ) (i y : ℕ) → All P xs → P y → All P (slice_set xs i y)
    All-set P xs i y all new k d below = elim (cases_eq k i) [
      | inl same ↦
          let inside : i < length xs = omega (arith, length-set xs i y, below, same) in
          subst P (sym (ap (λ m. get_or (slice_set xs i y) m d) same ∙ get_or-set_same xs i y d inside)) new
      | inr other ↦
          subst P (sym (get_or-set_other xs i k y d other)) (all k d (omega (arith, length-set xs i y, below)))
    ]

    old : All (IsPlaced t) s.out
    old k d below =
        let was = keeps.placed k d below in
        elim (cases_eq (get_or s.out k d).staging run.staging) [
          | inl same ↦ absurd (omega (arith, was.inside, was.some, ap (given_to s) same, empty))
          | inr other ↦
              record {
                staging = was.staging;
                some = was.some;
                inside = omega (arith, was.inside, given_to-other s run.staging n (get_or s.out k d).staging staging was.staging other);
              }
        ]

    one : All (IsPlaced t) (run ∷ [])
    one k d below =
        subst (λ m. IsPlaced t (get_or (run ∷ []) m d)) (zero k below)
        (record { staging = staging; some = some; inside = omega (arith, first, fits, given_to-same s run.staging n keeps staging) })
      where
        zero : (m : ℕ) → m < 1 → 0 ≡ m
        zero m h = omega arith

-- ---- a run comes back

-- the place of a run that stays
left-place : (xs : List StageRun) (place k : ℕ) (d : StageRun) → place < length xs → k < length (remove xs place)
    → (j : ℕ) × (j < length xs) × (get_or (remove xs place) k d ≡ get_or xs j d)
left-place xs place k d inside below = elim (cases_lt k place) [
  | inl before ↦ (k, omega (arith, inside, before), get_or-remove_below xs place d k before inside)
  | inr behind ↦ (k + 1, omega (arith, length-remove xs place inside, below), get_or-remove_above xs place d k behind inside)
]

pub staged-back : (s : Staged) (place : ℕ) → IsStaged s → place < length s.out → IsStaged (record s { out = remove s.out place })
staged-back s place keeps inside = record {
  files = keeps.files;
  most = keeps.most;
  placed = λ k d below.
      let stays = left-place s.out place k d inside below in
      subst (IsPlaced (record s { out = remove s.out place })) (sym stays.2)
      (let was = keeps.placed stays.0 d stays.1 in record { staging = was.staging; some = was.some; inside = was.inside });
  apart = all_pairs_remove AreApart s.out place inside keeps.apart;
}

-- ---- looks

-- no staging file is kept as empty where none of the four is
pub none-empty : (s : Staged) → IsStaged s → ((y : ℕ) → IsStaging y → ¬ IsKeptEmpty s y) → has_empty s ≡ false
none-empty s keeps none = list_any_none (λ n. n == 0) s.given (λ k d below.
    ne_eqb (get_or s.given k d) 0 (λ zero. none (k + 1) (record { least = omega arith; most = omega (arith, below, keeps.files) })
    (place k ∙ (sym (get_or_default_zero s.given k d below) ∙ zero))))
  where
    place : (k : ℕ) → given_to s (k + 1) ≡ get_or s.given k 0
    place k = ap (λ n. get_or s.given n 0) {x = k + 1 - 1} {y = k} (omega arith)

pub some-empty : (s : Staged) (x : ℕ) → IsStaged s → IsStaging x → IsKeptEmpty s x → has_empty s ≡ true
some-empty s x keeps is empty = list_any_at (λ n. n == 0) s.given (x - 1) 0 (omega (arith, keeps.files, is.least, is.most)) (eq-eqb (given_to s x) 0 empty)

-- no run of free blocks starts behind the blocks that a staging file is given
pub none-past : (s : Staged) (count x c : ℕ) → IsStaged s → IsStaging x → 1 ≤ count → 64 ≤ c → ¬ IsFreeRun s count x c
none-past s count x c keeps is some past free =
    omega (arith, free-given s x c (free c (omega arith) (omega (arith, some))), keeps.most (x - 1) 0 (omega (arith, keeps.files, is.least, is.most)), past)

-- ---- a staging with nothing out

four_zeros : (xs : List ℕ) → length xs ≡ 4 → get_or xs 0 0 ≡ 0 → get_or xs 1 0 ≡ 0 → get_or xs 2 0 ≡ 0 → get_or xs 3 0 ≡ 0 → xs ≡ 0 ∷ 0 ∷ 0 ∷ 0 ∷ []
four_zeros [] four a b c d = absurd (omega (arith, four))
four_zeros (x ∷ []) four a b c d = absurd (omega (arith, four))
four_zeros (x ∷ y ∷ []) four a b c d = absurd (omega (arith, four))
four_zeros (x ∷ y ∷ z ∷ []) four a b c d = absurd (omega (arith, four))
four_zeros (x ∷ y ∷ z ∷ w ∷ []) four a b c d = λ i. a i ∷ b i ∷ c i ∷ d i ∷ []
four_zeros (x ∷ y ∷ z ∷ w ∷ u ∷ xs) four a b c d = absurd (omega (arith, four))

pub fresh_is : (s : Staged) → IsStaged s → s.out ≡ [] → given_to s 1 ≡ 0 → given_to s 2 ≡ 0 → given_to s 3 ≡ 0 → given_to s 4 ≡ 0 → s ≡ nothing_staged
fresh_is s keeps none a b c d = λ i. record { out = none i; given = four_zeros s.given keeps.files a b c d i }

-- ---- marks of blocks

-- no run, no mark
pub none_taken : (x : ℕ) → AreTaken [] x (replicate 64 false)
none_taken x = record { count = refl; each = λ b low. get_or-replicate 64 b false false low }
