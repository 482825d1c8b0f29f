-- Rising texts: byte order, lists whose texts rise, and elements put at their place among them.
use Rattle.std.specs.Prelude.{◌≡◌, ◌≢◌, ◌⊎◌, ◌≤◌, ℕ, zero, suc, ◌+◌, Bool, true, false, cond, not, nat_lt, List, [], ◌∷◌, ◌++◌, length, insert, position, Some, None, unwrap_or, slice_get, refl}
use Rattle.std.specs.Cmp.Lexicographic.{slice_cmp, texts_ties, bytes_decides}
use Rattle.std.specs.List.{prefix_len}
use Rattle.std.specs.Ordering.{nat_cmp, ordering_reverse, is_eq, is_lt}
use Rattle.std.specs.declared.cmp.Ordering.{Ordering}
use Rattle.std.specs.declared.cmp.Ordering.TheVariants.{Less, Equal, Greater}
use Rattle.std.proofs.Common.{arith, ap, ◌∙◌, sym, inl, inr}
use Rattle.std.proofs.lemmas.Cmp.{nat_list_cmp_total}
use Rattle.std.proofs.lemmas.Bool.Decides.{nat_tests}
use Rattle.std.proofs.lemmas.List.Sums.{prefix_len-le-length}
use Rattle.posix_spec.specs.posix_tables.Names.{bytes_before}
use Rattle.list_laws.specs.Members.{In, In-slice_get, pushed-In}

-- Byte order.

less : (r : Ordering) → is_lt r ≡ true → r ≡ Less
less Less is = refl
less Equal is = cc
less Greater is = cc

pub before_trans : (a b c : List ℕ) → bytes_before a b ≡ true → bytes_before b c ≡ true → bytes_before a c ≡ true
before_trans a b c first second =
    ap is_lt (nat_list_cmp_total.trans a b c (less (slice_cmp nat_cmp a b) first) (less (slice_cmp nat_cmp b c) second))

turned : (r : Ordering) → r ≡ ordering_reverse r → is_lt r ≡ true → ⊥
turned Less same is = cc
turned Equal same is = cc
turned Greater same is = cc

pub not_before_itself : (a : List ℕ) → bytes_before a a ≡ true → ⊥
not_before_itself a is = turned (slice_cmp nat_cmp a a) (nat_list_cmp_total.antisymm a a) is

-- one of two different texts stands before the other
pub before_or_after : (a b : List ℕ) → b ≢ a → bytes_before a b ≡ false → bytes_before b a ≡ true
before_or_after a b other not_before = by (slice_cmp nat_cmp a b) refl where
  by : (r : Ordering) → slice_cmp nat_cmp a b ≡ r → bytes_before b a ≡ true
  by Less is = let never : true ≡ false = sym (ap is_lt is) ∙ not_before in cc
  by Equal is = absurd (other (sym ((bytes_decides a b).0 (texts_ties a b ∙ ap is_eq is))))
  by Greater is = ap is_lt (nat_list_cmp_total.antisymm b a ∙ ap ordering_reverse is)

-- Rising texts.

-- the text of each element stands before those of all elements behind it
abbrev pub RisingBy : {X : Type 0} → (X → List ℕ) → List X → Type 0
RisingBy t [] = Unit {0}
RisingBy {X = X} t (x ∷ xs) = ((y : X) → In y xs → bytes_before (t x) (t y) ≡ true) × RisingBy t xs

-- so two places with one text are one place
pub rising_place : {X : Type 0} (t : X → List ℕ) (xs : List X) → RisingBy t xs → (m n : ℕ) (a b : X) → slice_get xs m ≡ Some a → slice_get xs n ≡ Some b → t a ≡ t b → m ≡ n
rising_place t [] rising m n a b first second same = cc
rising_place t (x ∷ xs) rising zero zero a b first second same = refl
rising_place t (x ∷ xs) rising zero (suc n) a b first second same =
    let one : x ≡ a = cc in
    absurd (not_before_itself (t b) (ap (λ w. bytes_before w (t b)) (sym same ∙ sym (ap t one)) ∙ rising.0 b (In-slice_get xs n b second)))
rising_place t (x ∷ xs) rising (suc m) zero a b first second same =
    let one : x ≡ b = cc in
    absurd (not_before_itself (t a) (ap (λ w. bytes_before w (t a)) (same ∙ sym (ap t one)) ∙ rising.0 a (In-slice_get xs m a first)))
rising_place t (x ∷ xs) rising (suc m) (suc n) a b first second same = ap suc (rising_place t xs rising.1 m n a b first second same)

-- with one more element at the end, whose text comes after all
pub Rising-push : {X : Type 0} (t : X → List ℕ) (xs : List X) (x : X) → RisingBy t xs → ((y : X) → In y xs → bytes_before (t y) (t x) ≡ true) → RisingBy t (xs ++ x ∷ [])
Rising-push t [] x rising last = (λ y is. absurd is, tt)
Rising-push {X} t (y ∷ ys) x rising last = (head, Rising-push t ys x rising.1 (λ z is. last z (inr is))) where
  head : (z : X) → In z (ys ++ x ∷ []) → bytes_before (t y) (t z) ≡ true
  head z is = elim (pushed-In ys x z is) [ inl behind ↦ rising.0 z behind | inr same ↦ ap (λ w. bytes_before (t y) (t w)) (sym same) ∙ last y (inl refl) ]

-- an element put before the first that passes
abbrev pub put_in : {X : Type 0} → (X → Bool) → X → List X → List X
put_in p x [] = x ∷ []
put_in p x (y ∷ ys) = cond (p y) (x ∷ y ∷ ys) (y ∷ put_in p x ys)

In-put_in : {X : Type 0} (p : X → Bool) (x : X) (xs : List X) (z : X) → In z (put_in p x xs) → (x ≡ z) ⊎ In z xs
In-put_in p x [] z is = is
In-put_in p x (y ∷ ys) z is = by (p y) is (In-put_in p x ys z) where
  by : (b : Bool) → In z (cond b (x ∷ y ∷ ys) (y ∷ put_in p x ys)) → (In z (put_in p x ys) → (x ≡ z) ⊎ In z ys) → (x ≡ z) ⊎ In z (y ∷ ys)
  by true there rest = there
  by false (inl same) rest = inr (inl same)
  by false (inr behind) rest = elim (rest behind) [ inl new ↦ inl new | inr old ↦ inr (inr old) ]

place_is : (n len : ℕ) → n ≤ len → unwrap_or (cond (nat_lt n len) (Some n) None) len ≡ n
place_is n len within = by (nat_lt n len) refl where
  past : nat_lt n len ≡ false → len ≤ n
  past is = grind (arith, nat_tests)

  by : (b : Bool) → nat_lt n len ≡ b → unwrap_or (cond b (Some n) None) len ≡ n
  by true is = refl
  by false is = omega (arith, past is, within)

one_plus : (n : ℕ) → 1 + n ≡ suc n
one_plus n = omega arith

insert-prefix_len : {X : Type 0} (p : X → Bool) (x : X) (xs : List X) → insert xs (prefix_len (λ y. not (p y)) xs) x ≡ put_in p x xs
insert-prefix_len p x [] = refl
insert-prefix_len p x (y ∷ ys) = by (p y) (insert-prefix_len p x ys) where
  by : (b : Bool) → insert ys (prefix_len (λ z. not (p z)) ys) x ≡ put_in p x ys
      → insert (y ∷ ys) (cond (not b) (1 + prefix_len (λ z. not (p z)) ys) 0) x ≡ cond b (x ∷ y ∷ ys) (y ∷ put_in p x ys)
  by true rest = refl
  by false rest = ap (λ n. insert (y ∷ ys) n x) (one_plus (prefix_len (λ z. not (p z)) ys)) ∙ ap (λ l. y ∷ l) rest

pub insert-position : {X : Type 0} (p : X → Bool) (x : X) (xs : List X) → insert xs (unwrap_or (position p xs) (length xs)) x ≡ put_in p x xs
insert-position p x xs =
    ap (λ n. insert xs n x) (place_is (prefix_len (λ y. not (p y)) xs) (length xs) (prefix_len-le-length (λ y. not (p y)) xs)) ∙ insert-prefix_len p x xs

-- put before the first text that comes after its own, an element with a new text leaves the texts rising
pub Rising-put_in : {X : Type 0} (t : X → List ℕ) (x : X) (xs : List X) → RisingBy t xs → ((z : X) → In z xs → t z ≢ t x) → RisingBy t (put_in (λ z. bytes_before (t x) (t z)) x xs)
Rising-put_in t x [] rising new = (λ y is. absurd is, tt)
Rising-put_in {X} t x (y ∷ ys) rising new = by (bytes_before (t x) (t y)) refl (Rising-put_in t x ys rising.1 (λ z is. new z (inr is))) where
  first : bytes_before (t x) (t y) ≡ true → (z : X) → In z (y ∷ ys) → bytes_before (t x) (t z) ≡ true
  first is z (inl same) = ap (λ w. bytes_before (t x) (t w)) (sym same) ∙ is
  first is z (inr behind) = before_trans (t x) (t y) (t z) is (rising.0 z behind)

  later : bytes_before (t x) (t y) ≡ false → (z : X) → In z (put_in (λ w. bytes_before (t x) (t w)) x ys) → bytes_before (t y) (t z) ≡ true
  later is z there = elim (In-put_in (λ w. bytes_before (t x) (t w)) x ys z there) [
    | inl same ↦ ap (λ w. bytes_before (t y) (t w)) (sym same) ∙ before_or_after (t x) (t y) (new y (inl refl)) is
    | inr behind ↦ rising.0 z behind
  ]

  by : (b : Bool) → bytes_before (t x) (t y) ≡ b → RisingBy t (put_in (λ w. bytes_before (t x) (t w)) x ys)
      → RisingBy t (cond b (x ∷ y ∷ ys) (y ∷ put_in (λ w. bytes_before (t x) (t w)) x ys))
  by true is rest = (first is, rising)
  by false is rest = (later is, rest)

-- two lists with the same members whose texts rise are one list
pub Rising-same : {X : Type 0} (t : X → List ℕ) (xs ys : List X) → RisingBy t xs → RisingBy t ys → ((z : X) → In z xs → In z ys) → ((z : X) → In z ys → In z xs) → xs ≡ ys
Rising-same t [] [] rising others on back = refl
Rising-same t [] (y ∷ ys) rising others on back = absurd (back y (inl refl))
Rising-same t (x ∷ xs) [] rising others on back = absurd (on x (inl refl))
Rising-same {X} t (x ∷ xs) (y ∷ ys) rising others on back =
    λ i. first i ∷ Rising-same t xs ys rising.1 others.1 onward backward i where
      least : In x (y ∷ ys) → In y (x ∷ xs) → x ≡ y
      least (inl same) there = sym same
      least (inr behind) (inl same) = same
      least (inr behind) (inr after) = absurd (not_before_itself (t x) (before_trans (t x) (t y) (t x) (rising.0 y after) (others.0 x behind)))

      first : x ≡ y
      first = least (on x (inl refl)) (back y (inl refl))

      not_first : (z : X) → (e : x ≡ z) → In z xs → ⊥
      not_first z e is = not_before_itself (t x) (ap (λ w. bytes_before (t x) (t w)) e ∙ rising.0 z is)

      not_first_there : (z : X) → (e : y ≡ z) → In z ys → ⊥
      not_first_there z e is = not_before_itself (t y) (ap (λ w. bytes_before (t y) (t w)) e ∙ others.0 z is)

      onward : (z : X) → In z xs → In z ys
      onward z is = elim (on z (inr is)) [ inl same ↦ absurd (not_first z (first ∙ same) is) | inr behind ↦ behind ]

      backward : (z : X) → In z ys → In z xs
      backward z is = elim (back z (inr is)) [ inl same ↦ absurd (not_first_there z (sym first ∙ same) is) | inr behind ↦ behind ]
