-- Tables of a volume that are filled line by line, and rules that hold line by line.
use Rattle.std.proofs.Common.{◌≡◌, ℕ, ◌+◌, ◌<◌, ◌≤◌, List, [], ◌∷◌, ◌++◌, length, get_or, sym, ◌∙◌, ap, arith, inl, inr, subst, length-append}
use Rattle.std.proofs.lemmas.Bool.{cases_eq}
use Rattle.std.proofs.lemmas.List.{ext_get_or, get_or_at, get_or_append_left}
use Rattle.k_reading.specs.image_model.Broken.{Holds, FailsFirst, below}

-- the first n items of a table are those that were read, and the rule holds at each of their places
pub record IsFront {X : Type 0} (d : X) (P : ℕ → Type 0) (front all : List X) (n : ℕ) : Type 0 where
  pub count : length front ≡ n
  pub same : (k : ℕ) → k < n → get_or front k d ≡ get_or all k d
  pub holds : (k : ℕ) → k < n → P k

pub front-none : {X : Type 0} (d : X) (P : ℕ → Type 0) (front all : List X) → length front ≡ 0 → IsFront d P front all 0
front-none d P front all none = record { count = none; same = λ k below. absurd (omega arith); holds = λ k below. absurd (omega arith) }

pub front-more : {X : Type 0} (d : X) (P : ℕ → Type 0) (front all more : List X) (n : ℕ) (x : X) → IsFront d P front all n
    → x ≡ get_or all n d → P n → more ≡ front ++ x ∷ [] → IsFront d P more all (n + 1)
front-more d P front all more n x is next holds pushed = record {
  count = ap (λ l. length l) pushed ∙ length-append front (x ∷ []) ∙ ap (λ m. m + 1) is.count;
  same = λ k below. elim (cases_eq k n) [
    | inl last ↦
        ap (λ l. get_or l k d) pushed ∙ get_or_at front x [] d k (is.count ∙ sym last) ∙ next ∙ sym (ap (λ m. get_or all m d) last)
    | inr other ↦
        ap (λ l. get_or l k d) pushed ∙ get_or_append_left front (x ∷ []) d k (omega (arith, is.count)) ∙ is.same k (omega arith)
  ];
  holds = λ k below. elim (cases_eq k n) [
    | inl last ↦ subst P (sym last) holds
    | inr other ↦ is.holds k (omega arith)
  ];
}

-- the whole table
pub front-all : {X : Type 0} (d : X) (P : ℕ → Type 0) (front all : List X) (n : ℕ) → IsFront d P front all n → length all ≤ n → n ≤ length all → front ≡ all
front-all d P front all n is long short = ext_get_or d front all (omega (arith, is.count)) (λ k within. is.same k (omega (arith, is.count)))

pub front-holds : {X : Type 0} (d : X) (P : ℕ → Type 0) (front all : List X) (number n count : ℕ) → IsFront d P front all n → count ≤ n → Holds (below number count P)
front-holds d P front all number n count is long = λ p from within. is.holds p (omega arith)

-- the first place at which the rule fails
pub front-fails : {X : Type 0} (d : X) (P : ℕ → Type 0) (front all : List X) (number n count : ℕ) → IsFront d P front all n → n < count → (P n → ⊥)
    → FailsFirst (below number count P) n
front-fails d P front all number n count is within fails = record {
  from = omega arith;
  within = omega arith;
  before = λ p from early. is.holds p early;
  fails = fails;
}
