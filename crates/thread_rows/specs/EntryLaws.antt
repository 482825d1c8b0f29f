-- The laws of a list to which passes append.
use Rattle.std.specs.Prelude.{◌≡◌, ◌≤◌, ℕ, zero, suc, ◌+◌, List, [], ◌∷◌, ◌++◌, drop, length, replicate, slice_get, slice_set, sum_by, Some, refl}
use Rattle.std.proofs.Common.{arith, ap, sym, ◌∙◌}
use Rattle.std.proofs.lemmas.List.{length-replicate}
use Rattle.std.proofs.lemmas.List.Sums.{sum_by-cons}
use Rattle.ruled_turn.specs.list_laws.Numbers.{count_with-append}
use Rattle.thread_rows.specs.declared.entries.Own.{Own}
use Rattle.thread_rows.specs.Entries.{Entries, first_views, Holds, Knows, May, next_view, Opens, own, times}

pub sized_views : (x : Entries) (n : ℕ) → Opens x n → length (first_views x n) ≡ n
sized_views x n opens = length-replicate n (own [])

none_appended : (e n : ℕ) → sum_by (λ (v : Own). times e v.entries) (replicate n (own [])) ≡ 0
none_appended e zero = refl
none_appended e (suc n) = omega (arith, sum_by-cons (λ (v : Own). times e v.entries) (own []) (replicate n (own [])), none_appended e n)

pub starts_empty : (x : Entries) (n : ℕ) → Opens x n → Holds x (first_views x n)
starts_empty x n opens e = ap (times e) opens ∙ sym (none_appended e n)

-- a term of a sum is changed, and a term is within it
sum_at_place : (f : Own → ℕ) (views : List Own) (i : ℕ) (v w : Own) → slice_get views i ≡ Some v → sum_by f (slice_set views i w) + f v ≡ sum_by f views + f w
sum_at_place f [] i v w at = cc
sum_at_place f (x ∷ views) zero v w at = let same : x ≡ v = cc in omega (arith, sum_by-cons f x views, sum_by-cons f w views, ap f same)
sum_at_place f (x ∷ views) (suc i) v w at = omega (arith, sum_by-cons f x views, sum_by-cons f x (slice_set views i w), sum_at_place f views i v w at)

term_within : (f : Own → ℕ) (views : List Own) (i : ℕ) (v : Own) → slice_get views i ≡ Some v → f v ≤ sum_by f views
term_within f views i v at = omega (arith, sum_at_place f views i v (own []) at, none_lost f views i v at) where
  none_lost : (f : Own → ℕ) (views : List Own) (i : ℕ) (v : Own) → slice_get views i ≡ Some v → f v ≤ sum_by f views
  none_lost f [] i v at = cc
  none_lost f (x ∷ views) zero v at = let same : x ≡ v = cc in omega (arith, sum_by-cons f x views, ap f same)
  none_lost f (x ∷ views) (suc i) v at = omega (arith, sum_by-cons f x views, none_lost f views i v at)

pub drop_front : (xs more : List ℕ) → drop (length xs) (xs ++ more) ≡ more
drop_front [] more = refl
drop_front (x ∷ xs) more = drop_front xs more

pub keeps_entries : (x y : Entries) (views : List Own) (i : ℕ) (v : Own) → Holds x views → slice_get views i ≡ Some v → May v x y → Holds y (slice_set views i (next_view v x y))
keeps_entries x y views i v holds at may e =
    let f = λ (u : Own). times e u.entries in
    let new : drop (length x.items) y.items ≡ may.0 = ap (drop (length x.items)) may.1 ∙ drop_front x.items may.0 in
    omega (
      arith,
      sum_at_place f views i v (next_view v x y) at,
      holds e,
      ap (times e) may.1,
      count_with-append (λ (k : ℕ). k) e x.items may.0,
      count_with-append (λ (k : ℕ). k) e v.entries (drop (length x.items) y.items),
      ap (times e) new,
    )

pub tells_own : (x : Entries) (views : List Own) (i : ℕ) (v : Own) → Holds x views → slice_get views i ≡ Some v → Knows x v
tells_own x views i v holds at e = omega (arith, term_within (λ (u : Own). times e u.entries) views i v at, holds e)
