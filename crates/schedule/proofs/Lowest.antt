-- The lowest of some numbers, one after another.
use Rattle.std.specs.Prelude.{◌≡◌, ◌≢◌, ◌⊎◌, ◌≤◌, ◌<◌, ◌+◌, ◌++◌, ℕ, List, [], ◌∷◌, length, Option, Some, None, Contains, slice_get, refl}
use Rattle.std.proofs.Common.{arith, inl, inr}
use Rattle.std.proofs.lemmas.List.Elements.{Contains-append_left, Contains-push, Contains-push_cases}
use Rattle.std.proofs.lemmas.Option.{get_or_from_slice_get, slice_get_within}
use Rattle.crash_spec.specs.Orders.{IsInTurn, IsLowest}
use Rattle.schedule.specs.Picking.{IsLower, IsLowestFrom, IsNotLower}

-- ---- one number more

-- it is taken, where it is below the one that was found
pub lowest_takes : (xs : List ℕ) (from n : ℕ) (found : Option ℕ) → IsLowestFrom xs from found → from ≤ n → IsLower n found → IsLowestFrom (xs ++ n ∷ []) from (Some n)
lowest_takes xs from n None was le below = record {
  is_there = Contains-push xs n;
  passes_it = le;
  lowest = λ i there passes. elim (Contains-push_cases xs n i there) [
    | inl old ↦ absurd (omega (arith, was i old, passes))
    | inr same ↦ omega (arith, same)
  ];
}
lowest_takes xs from n (Some low) was le below = record {
  is_there = Contains-push xs n;
  passes_it = le;
  lowest = λ i there passes. elim (Contains-push_cases xs n i there) [
    | inl old ↦ omega (arith, was.lowest i old passes, below)
    | inr same ↦ omega (arith, same)
  ];
}

-- it is not, where it is lower than asked
pub lowest_leaves : (xs : List ℕ) (from n : ℕ) (found : Option ℕ) → IsLowestFrom xs from found → n < from → IsLowestFrom (xs ++ n ∷ []) from found
lowest_leaves xs from n None was low = λ i there. elim (Contains-push_cases xs n i there) [
  | inl old ↦ was i old
  | inr same ↦ omega (arith, same, low)
]
lowest_leaves xs from n (Some m) was low = record {
  is_there = Contains-append_left xs (n ∷ []) m was.is_there;
  passes_it = was.passes_it;
  lowest = λ i there passes. elim (Contains-push_cases xs n i there) [
    | inl old ↦ was.lowest i old passes
    | inr same ↦ absurd (omega (arith, same, low, passes))
  ];
}

-- nor where it is not below the one that was found
pub lowest_keeps : (xs : List ℕ) (from n : ℕ) (found : Option ℕ) → IsLowestFrom xs from found → IsNotLower n found → IsLowestFrom (xs ++ n ∷ []) from found
lowest_keeps xs from n None was past = absurd past
lowest_keeps xs from n (Some m) was past = record {
  is_there = Contains-append_left xs (n ∷ []) m was.is_there;
  passes_it = was.passes_it;
  lowest = λ i there passes. elim (Contains-push_cases xs n i there) [
    | inl old ↦ was.lowest i old passes
    | inr same ↦ omega (arith, same, past)
  ];
}

-- ---- round

-- the next higher one
pub turn_higher : (numbers : List ℕ) (low n : ℕ) → IsLowestFrom numbers (low + 1) (Some n) → IsInTurn numbers (Some low) n
turn_higher numbers low n is = inl (record { is_there = is.is_there; passes_it = omega (arith, is.passes_it); lowest = λ i there above. is.lowest i there (omega (arith, above)) })

lowest_all : (numbers : List ℕ) (n : ℕ) → IsLowestFrom numbers 0 (Some n) → IsLowest (λ i. Unit {0}) numbers n
lowest_all numbers n is = record { is_there = is.is_there; passes_it = tt; lowest = λ i there any. is.lowest i there (omega arith) }

-- or the lowest
pub turn_back : (numbers : List ℕ) (low n : ℕ) → IsLowestFrom numbers (low + 1) None → IsLowestFrom numbers 0 (Some n) → IsInTurn numbers (Some low) n
turn_back numbers low n none is = inr ((λ i there. (let below = none i there in omega (arith, below))), lowest_all numbers n is)

pub turn_first : (numbers : List ℕ) (n : ℕ) → IsLowestFrom numbers 0 (Some n) → IsInTurn numbers None n
turn_first numbers n is = lowest_all numbers n is

-- there is one
pub some_lowest : (numbers : List ℕ) → numbers ≢ [] → IsLowestFrom numbers 0 None → ⊥
some_lowest [] some none = some refl
some_lowest (x ∷ xs) some none = (let below = none x (0, omega arith, refl) in omega (arith, below))

-- nothing is below 0, in none
pub lowest_none : (from : ℕ) → IsLowestFrom [] from None
lowest_none from i there = absurd (omega (arith, there.1))

-- ---- members by their places

pub member_at : (numbers : List ℕ) (i n : ℕ) → slice_get numbers i ≡ Some n → Contains numbers n
member_at numbers i n at = (i, slice_get_within numbers i n at, get_or_from_slice_get numbers i n n at)

pub turn_member : (numbers : List ℕ) (last : Option ℕ) (n : ℕ) → IsInTurn numbers last n → Contains numbers n
turn_member numbers None n is = is.is_there
turn_member numbers (Some low) n (inl is) = is.is_there
turn_member numbers (Some low) n (inr is) = is.1.is_there
