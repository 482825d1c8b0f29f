-- Lists by their places: descriptors, bindings without the first of a handle, and tabulated lists.
use Rattle.std.specs.Prelude.{◌≡◌, ◌≢◌, ◌⊎◌, ℕ, zero, suc, ◌+◌, ◌<◌, ◌≤◌, Bool, true, false, cond, ◌==◌, ◌||◌, nat_lt, List, [], ◌∷◌, ◌++◌, length, map, find, position, remove, count_by, is_none, is_some, All, AllPairs, Option, Some, None, IsSome, get_or, slice_get, slice_set, refl}
use Rattle.std.specs.List.{list_any, position_or_len}
use Rattle.std.specs.Option.{option_flatten, option_map}
use Rattle.std.proofs.Common.{ap, ◌∙◌, sym, subst, inl, inr, arith}
use Rattle.std.proofs.lemmas.Bool.{cases_lt}
use Rattle.std.proofs.lemmas.Bool.Decides.{nat_tests}
use Rattle.std.proofs.lemmas.List.{length_push, set-append_left, set_at}
use Rattle.std.proofs.lemmas.List.Edits.{get_or-remove_above, get_or-remove_below, length-remove}
use Rattle.std.proofs.lemmas.List.Folds.{find_at}
use Rattle.std.proofs.lemmas.List.Quantifiers.{all_pairs_remove}
use Rattle.std.proofs.lemmas.List.Sums.{fails_before_first, passes_at_first, sum_by-cons}
use Rattle.std.proofs.lemmas.Option.{slice_get_past}
use Rattle.commute_laws.specs.list_laws.Members.{slice_get-front, slice_get-last}
use Rattle.posix_tables.specs.Names.{without_place}
use Rattle.posix_tables.specs.Open.{description_number, has_key}
use Rattle.commute_laws.specs.Lists.{slice_get-set_other}
use Rattle.open_files.specs.declared.files.kept.Reference.{Reference}
use Rattle.open_files.specs.Kept.{number_of, refers_to, tabulated}

-- ---- options

pub some_of : {X : Type 0} (o : Option X) → IsSome o → (x : X) × (o ≡ Some x)
some_of None is = cc
some_of (Some x) is = (x, refl)

pub is_some-of : {X : Type 0} (o : Option X) (x : X) → o ≡ Some x → IsSome o
is_some-of o x is = ap is_some is

-- ---- descriptors

pub slice_get-set_same : {X : Type 0} (xs : List X) (i : ℕ) (y : X) → i < length xs → slice_get (slice_set xs i y) i ≡ Some y
slice_get-set_same [] i y within = absurd (omega arith)
slice_get-set_same (x ∷ xs) zero y within = refl
slice_get-set_same (x ∷ xs) (suc i) y within = slice_get-set_same xs i y (omega arith)

pub flat-set_same : {X : Type 0} (xs : List (Option X)) (i : ℕ) (y : Option X) → i < length xs → option_flatten (slice_get (slice_set xs i y) i) ≡ y
flat-set_same xs i y within = ap (λ (o : Option (Option _)). option_flatten o) (slice_get-set_same xs i y within)

pub flat-set_other : {X : Type 0} (xs : List (Option X)) (i j : ℕ) (y : Option X) → j ≢ i → option_flatten (slice_get (slice_set xs i y) j) ≡ option_flatten (slice_get xs j)
flat-set_other xs i j y other = ap (λ (o : Option (Option _)). option_flatten o) (slice_get-set_other xs i j y other)

pub flat-get_or : {X : Type 0} (xs : List (Option X)) (i : ℕ) → option_flatten (slice_get xs i) ≡ get_or xs i None
flat-get_or [] i = refl
flat-get_or (x ∷ xs) zero = refl
flat-get_or (x ∷ xs) (suc i) = flat-get_or xs i

pub flat-within : {X : Type 0} (xs : List (Option X)) (i : ℕ) (y : X) → option_flatten (slice_get xs i) ≡ Some y → i < length xs
flat-within [] i y is = cc
flat-within (x ∷ xs) zero y is = omega arith
flat-within (x ∷ xs) (suc i) y is = omega (arith, flat-within xs i y is)

-- the number that a descriptor has, by what it refers to
pub number_at : (descriptors : List (Option Reference)) (d : ℕ) → description_number (map (option_map number_of) descriptors) d ≡ option_map number_of (get_or descriptors d None)
number_at [] d = refl
number_at (x ∷ xs) zero = refl
number_at (x ∷ xs) (suc d) = number_at xs d

none_length : (descriptors : List (Option Reference)) → position_or_len (λ slot. is_none slot) (map (option_map number_of) descriptors) ≡ position_or_len (λ slot. is_none slot) descriptors
none_length [] = refl
none_length (None ∷ xs) = refl
none_length (Some x ∷ xs) = ap (λ n. 1 + n) (none_length xs)

pub length-references : (descriptors : List (Option Reference)) → length (map (option_map number_of) descriptors) ≡ length descriptors
length-references [] = refl
length-references (x ∷ xs) = ap suc (length-references xs)

place_of : ℕ → ℕ → Option ℕ
place_of i n = cond (nat_lt i n) (Some i) None

-- the lowest free descriptor
pub free-references : (descriptors : List (Option Reference)) → position (λ slot. is_none slot) (map (option_map number_of) descriptors) ≡ position (λ slot. is_none slot) descriptors
unfolding place_of
free-references descriptors = ap (λ i. place_of i (length (map (option_map number_of) descriptors))) (none_length descriptors) ∙ ap (λ n. place_of (position_or_len (λ slot. is_none slot) descriptors) n) (length-references descriptors)

-- whether a descriptor has a number
pub used-references : (number : ℕ) (descriptors : List (Option Reference)) → list_any (has_key number) (map (option_map number_of) descriptors) ≡ list_any (refers_to number) descriptors
used-references number [] = refl
used-references number (None ∷ xs) = used-references number xs
used-references number (Some x ∷ xs) = ap (λ b. (number_of x == number) || b) (used-references number xs)

-- how many are in use
pub count-references : (descriptors : List (Option Reference)) → count_by is_some (map (option_map number_of) descriptors) ≡ count_by is_some descriptors
count-references [] = refl
count-references (None ∷ xs) = omega (arith, count-references xs, sum_by-cons (λ (o : Option ℕ). cond (is_some o) 1 0) None (map (option_map number_of) xs), sum_by-cons (λ (o : Option Reference). cond (is_some o) 1 0) None xs)
count-references (Some x ∷ xs) = omega (arith, count-references xs, sum_by-cons (λ (o : Option ℕ). cond (is_some o) 1 0) (Some (number_of x)) (map (option_map number_of) xs), sum_by-cons (λ (o : Option Reference). cond (is_some o) 1 0) (Some x) xs)

-- ---- the first place that passes

-- a list has a first place that passes, or none passes
pub record FirstPlace {X : Type 0} (p : X → Bool) (xs : List X) (i : ℕ) : Type 0 where
  pub is : position p xs ≡ Some i
  pub found : find p xs ≡ slice_get xs i
  pub within : i < length xs
  pub passes : (d : X) → p (get_or xs i d) ≡ true
  pub before : (k : ℕ) (d : X) → k < i → p (get_or xs k d) ≡ false

pub record NoPlace {X : Type 0} (p : X → Bool) (xs : List X) : Type 0 where
  pub is : position p xs ≡ None
  pub found : find p xs ≡ None
  pub fails : (k : ℕ) (d : X) → k < length xs → p (get_or xs k d) ≡ false

at_place : (i n : ℕ) → i < n → cond (nat_lt i n) (Some i) None ≡ Some i
at_place i n within = grind (arith, nat_tests)

past_place : (i n : ℕ) → n ≤ i → cond (nat_lt i n) (Some i) None ≡ None
past_place i n past = grind (arith, nat_tests)

pub first_place : {X : Type 0} (p : X → Bool) (xs : List X) → ((i : ℕ) × FirstPlace p xs i) ⊎ NoPlace p xs
first_place p xs = elim (cases_lt (position_or_len p xs) (length xs)) [
  | inl within ↦ inl (
    position_or_len p xs,
    record {
      is = at_place (position_or_len p xs) (length xs) within;
      found = find_at p xs;
      within = within;
      passes = λ d. passes_at_first p xs d within;
      before = λ k d below. fails_before_first p xs k d below;
    },
  )
  | inr past ↦ inr (record {
    is = past_place (position_or_len p xs) (length xs) past;
    found = find_at p xs ∙ slice_get_past xs (position_or_len p xs) past;
    fails = λ k d below. fails_before_first p xs k d (omega arith);
  })
]

pub place-none : {X : Type 0} (p : X → Bool) (xs : List X) → position p xs ≡ None → NoPlace p xs
place-none p xs none = elim (first_place p xs) [ inl found ↦ absurd (let never : Some found.0 ≡ None = sym found.1.is ∙ none in cc) | inr absent ↦ absent ]

-- ---- a list without the first that passes

-- each element of it has another place of the list
pub kept_place : {X : Type 0} (xs : List X) (n k : ℕ) → n < length xs → k < length (remove xs n)
    → (m : ℕ) × (m < length xs) × (m ≢ n) × ((d : X) → get_or (remove xs n) k d ≡ get_or xs m d)
kept_place xs n k inside within =
    let long = length-remove xs n inside in
    elim (cases_lt k n) [
      | inl below ↦ (k, omega arith, omega arith, λ d. get_or-remove_below xs n d k below inside)
      | inr above ↦ (k + 1, omega arith, omega arith, λ d. get_or-remove_above xs n d k above inside)
    ]

-- each element of a list without the first that passes is one of the list, at a place that is not the first
pub rest_place : {X : Type 0} (p : X → Bool) (xs : List X) (k : ℕ) → k < length (without_place xs (position p xs))
    → (m : ℕ) × (m < length xs) × (position p xs ≢ Some m) × ((d : X) → get_or (without_place xs (position p xs)) k d ≡ get_or xs m d)
rest_place {X} p xs k within = elim (first_place p xs) [
  | inl found ↦
      let gone = λ (o : Option ℕ). (m : ℕ) × (m < length xs) × (o ≢ Some m) × ((d : X) → get_or (without_place xs o) k d ≡ get_or xs m d) in
      let at = kept_place xs found.0 k found.1.within (subst (λ o. k < length (without_place xs o)) found.1.is within) in
      subst gone (sym found.1.is) (at.0, at.1, λ same. at.2 (cc), at.3)
  | inr absent ↦
      let gone = λ (o : Option ℕ). (m : ℕ) × (m < length xs) × (o ≢ Some m) × ((d : X) → get_or (without_place xs o) k d ≡ get_or xs m d) in
      subst gone (sym absent.is) (k, subst (λ o. k < length (without_place xs o)) absent.is within, λ same. cc, λ d. refl)
]

pub All-rest_places : {X : Type 0} (P : X → Type 0) (p : X → Bool) (xs : List X) → All P xs → All P (without_place xs (position p xs))
All-rest_places P p xs all = λ k d within. let at = rest_place p xs k within in subst P (sym (at.3 d)) (all at.0 d at.1)

pub AllPairs-rest_places : {X : Type 0} (R : X → X → Type 0) (p : X → Bool) (xs : List X) → AllPairs R xs → AllPairs R (without_place xs (position p xs))
AllPairs-rest_places R p xs pairs = elim (first_place p xs) [
  | inl found ↦ subst (λ o. AllPairs R (without_place xs o)) (sym found.1.is) (all_pairs_remove R xs found.0 found.1.within pairs)
  | inr absent ↦ subst (λ o. AllPairs R (without_place xs o)) (sym absent.is) pairs
]

-- ---- tabulated lists

pub length-tabulated : {X : Type 0} (f : ℕ → X) (n : ℕ) → length (tabulated f n) ≡ n
unfolding tabulated
length-tabulated f zero = refl
length-tabulated f (suc n) = length_push (tabulated f n) (f n) ∙ (let one : n + 1 ≡ suc n = omega arith in ap (λ k. k + 1) (length-tabulated f n) ∙ one)

pub get-tabulated : {X : Type 0} (f : ℕ → X) (n k : ℕ) → k < n → slice_get (tabulated f n) k ≡ Some (f k)
unfolding tabulated
get-tabulated f zero k within = absurd (omega arith)
get-tabulated f (suc n) k within = elim (cases_lt k n) [
  | inl below ↦ slice_get-front (tabulated f n) (f n ∷ []) k (f k) (get-tabulated f n k below)
  | inr last ↦
      let one : k ≡ n = omega arith in
      let long : length (tabulated f n) ≡ k = length-tabulated f n ∙ sym one in
      subst (λ j. slice_get (tabulated f n ++ f n ∷ []) j ≡ Some (f k)) long (slice_get-last (tabulated f n) (f n) ∙ ap (λ j. Some (f j)) (sym one))
]

pub past-tabulated : {X : Type 0} (f : ℕ → X) (n k : ℕ) → n ≤ k → slice_get (tabulated f n) k ≡ None
past-tabulated f n k past = let long = length-tabulated f n in slice_get_past (tabulated f n) k (omega arith)

-- functions that agree below n have the same list
pub tabulated-agree : {X : Type 0} (f g : ℕ → X) (n : ℕ) → ((k : ℕ) → k < n → g k ≡ f k) → tabulated g n ≡ tabulated f n
unfolding tabulated
tabulated-agree f g zero agree = refl
tabulated-agree f g (suc n) agree = λ i. tabulated-agree f g n (λ k below. agree k (omega arith)) i ++ agree n (omega arith) i ∷ []

pub tabulated-more : {X : Type 0} (f : ℕ → X) (n : ℕ) → tabulated f (n + 1) ≡ tabulated f n ++ f n ∷ []
unfolding tabulated
tabulated-more f n = let one : n + 1 ≡ suc n = omega arith in ap (λ k. tabulated f k) one

-- a function that differs at one place has the list with that element
pub tabulated-set : {X : Type 0} (f g : ℕ → X) (n i : ℕ) → i < n → ((k : ℕ) → k < n → k ≢ i → g k ≡ f k) → tabulated g n ≡ slice_set (tabulated f n) i (g i)
unfolding tabulated
tabulated-set f g zero i within agree = absurd (omega arith)
tabulated-set f g (suc n) i within agree = elim (cases_lt i n) [
  | inl below ↦
      let long = length-tabulated f n in
      let short : i < length (tabulated f n) = omega arith in
      let front = tabulated-set f g n i below (λ k less other. agree k (omega arith) other) in
      let last = agree n (omega arith) (omega arith) in
      (λ j. front j ++ last j ∷ []) ∙ sym (set-append_left (tabulated f n) (f n ∷ []) i (g i) short)
  | inr at ↦
      let one : n ≡ i = omega arith in
      let front = tabulated-agree f g n (λ k less. agree k (omega arith) (omega arith)) in
      let long : length (tabulated f n) ≡ i = length-tabulated f n ∙ one in
      (λ j. front j ++ g (one j) ∷ []) ∙ sym (set_at (tabulated f n) (f n) [] (g i) i long)
]
