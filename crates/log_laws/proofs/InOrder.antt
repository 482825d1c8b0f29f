-- Live entries in their order: each stands once, and before the others of its file that come later.
use Rattle.std.proofs.Common.{◌≡◌, ◌≤◌, ◌<◌, ◌+◌, ◌&&◌, ◌==◌, ◌↔◌, ℕ, zero, suc, Bool, true, false, cond, List, [], ◌∷◌, length, Option, Some, None, refl, sym, ◌∙◌, ap, subst, arith, inl, inr, get_or}
use Rattle.std.specs.Prelude.{All, filter, sum_by, slice_get}
use Rattle.std.specs.List.{cons_option, filter_map, range_with_len}
use Rattle.std.specs.List.Sorted.{IsNonDecreasingBy, IsPermutation}
use Rattle.std.proofs.lemmas.Bool.{and_parts, cases_lt, eq-eqb, eqb-true}
use Rattle.std.proofs.lemmas.Option.{slice_get-get_or}
use Rattle.std.proofs.lemmas.List.Sorted.{All-permutation, IsPermutation-sym, sum_by-IsPermutation}
use Rattle.std.proofs.lemmas.List.Sums.{sum_by-cons}
use Rattle.world_write_laws.specs.layout_model.declared.lines.Draft.{Draft}
use Rattle.world_write_laws.specs.image_model.Live.{entry_in, is_live, live_entries}
use Rattle.world_write_laws.specs.image_model.Volume.{Volume}
use Rattle.world_write_laws.specs.pm_model.Words.{Words}
use Rattle.world_write_laws.specs.list_laws.Filters.{filter-In, filter_map-In, range-In}
use Rattle.world_write_laws.specs.list_laws.Members.{In, In-slice_get, slice_get-In}
use Rattle.world_write_laws.specs.posix_laws.Entries.{AreDifferent}
use Rattle.world_write_laws.specs.world_model.LogRules.{live_parts}
use Rattle.log_laws.specs.Orders.{AreInOrder, ComeFirst, HaveOwnOrders}

-- ---- members

pub all-from : {X : Type 0} (P : X → Type 0) (xs : List X) → ((x : X) → In x xs → P x) → All P xs
all-from P xs each i d below = each (get_or xs i d) (In-slice_get xs i (get_or xs i d) (slice_get-get_or xs i d below))

all-at : {X : Type 0} (P : X → Type 0) (xs : List X) (x : X) → All P xs → In x xs → P x
all-at P [] x all is = absurd is
all-at P (y ∷ ys) x all (inl same) = subst P same (all 0 y (omega arith))
all-at P (y ∷ ys) x all (inr is) = all-at P ys x (λ k d below. all (suc k) d (omega (arith, below))) is

pub permuted : {X : Type 0} (xs ys : List X) (x : X) → IsPermutation xs ys → In x xs ↔ In x ys
permuted xs ys x moved = (
  λ is. all-at (λ y. In y ys) xs x (All-permutation (λ y. In y ys) ys xs (IsPermutation-sym xs ys moved) (all-from (λ y. In y ys) ys (λ y there. there))) is,
  λ is. all-at (λ y. In y xs) ys x (All-permutation (λ y. In y xs) xs ys moved (all-from (λ y. In y xs) xs (λ y there. there))) is,
)

pub no-member : {X : Type 0} (xs : List X) → ((x : X) → In x xs → ⊥) → xs ≡ []
no-member [] none = refl
no-member (x ∷ xs) none = absurd (none x (inl refl))

-- ---- entries of one file and one order, counted

abbrev same_key : Draft → Draft → Bool
same_key d e = (d.ino == e.ino) && (d.order == e.order)

abbrev as_count : Bool → ℕ
as_count b = cond b 1 0

abbrev counted : Draft → Draft → ℕ
counted d e = as_count (same_key d e)

none_counted : (d : Draft) (xs : List Draft) → ((e : Draft) → In e xs → same_key d e ≡ true → ⊥) → sum_by (counted d) xs ≡ 0
none_counted d [] none = refl
none_counted d (x ∷ xs) none = by (same_key d x) refl (none_counted d xs (λ e there. none e (inr there))) where
  by : (b : Bool) → same_key d x ≡ b → sum_by (counted d) xs ≡ 0 → sum_by (counted d) (x ∷ xs) ≡ 0
  by true is rest = absurd (none x (inl refl) is)
  by false is rest = omega (arith, sum_by-cons (counted d) x xs, ap as_count is, rest)

some_counted : (d : Draft) (xs : List Draft) (e : Draft) → In e xs → same_key d e ≡ true → 1 ≤ sum_by (counted d) xs
some_counted d [] e is same = absurd is
some_counted d (x ∷ xs) e (inl one) same =
    omega (arith, sum_by-cons (counted d) x xs, ap as_count (ap (same_key d) one ∙ same))
some_counted d (x ∷ xs) e (inr is) same = omega (arith, sum_by-cons (counted d) x xs, some_counted d xs e is same)

-- of those that are found by rising numbers
module _ (q : Draft) (p : Draft → Bool) (h : ℕ → Option Draft) where
  once_found : (a n : ℕ)
      → ((s t : ℕ) (d e : Draft) → a ≤ s → s < t → t < a + n → h s ≡ Some d → h t ≡ Some e → p d ≡ true → p e ≡ true → same_key q d ≡ true → same_key q e ≡ true → ⊥)
      → sum_by (counted q) (filter p (filter_map h (range_with_len a n))) ≤ 1
  once_found a zero apart = omega arith
  once_found a (suc n) apart = by (h a) refl (once_found (a + 1) n (λ s t d e least before below. apart s t d e (omega (arith, least)) before (omega (arith, below)))) where
    none_behind : (d : Draft) → h a ≡ Some d → p d ≡ true → same_key q d ≡ true → sum_by (counted q) (filter p (filter_map h (range_with_len (a + 1) n))) ≡ 0
    none_behind d found passes key = none_counted q (filter p (filter_map h (range_with_len (a + 1) n))) (λ e is other.
        (let its = filter-In p (filter_map h (range_with_len (a + 1) n)) e is in
        let from = filter_map-In h (range_with_len (a + 1) n) e its.0 in
        let place = range-In (a + 1) n from.0 from.1 in
        apart a from.0 d e (omega arith) (omega (arith, place.0)) (omega (arith, place.1)) found from.2 passes its.1 key other))

    add : (b : Bool) (d : Draft) → same_key q d ≡ b → h a ≡ Some d → p d ≡ true → sum_by (counted q) (filter p (filter_map h (range_with_len (a + 1) n))) ≤ 1
        → sum_by (counted q) (d ∷ filter p (filter_map h (range_with_len (a + 1) n))) ≤ 1
    add true d key found passes rest =
        omega (arith, sum_by-cons (counted q) d (filter p (filter_map h (range_with_len (a + 1) n))), ap as_count key, none_behind d found passes key)
    add false d key found passes rest =
        omega (arith, sum_by-cons (counted q) d (filter p (filter_map h (range_with_len (a + 1) n))), ap as_count key, rest)

    pick : (b : Bool) (d : Draft) → p d ≡ b → h a ≡ Some d → sum_by (counted q) (filter p (filter_map h (range_with_len (a + 1) n))) ≤ 1
        → sum_by (counted q) (cond b (d ∷ filter p (filter_map h (range_with_len (a + 1) n))) (filter p (filter_map h (range_with_len (a + 1) n)))) ≤ 1
    pick true d passes found rest = add (same_key q d) d refl found passes rest
    pick false d passes found rest = rest

    by : (o : Option Draft) → h a ≡ o → sum_by (counted q) (filter p (filter_map h (range_with_len (a + 1) n))) ≤ 1
        → sum_by (counted q) (filter p (cons_option o (filter_map h (range_with_len (a + 1) n)))) ≤ 1
    by None found rest = rest
    by (Some d) found rest = pick (p d) d refl found rest

key_parts : (q d : Draft) → same_key q d ≡ true → (q.ino ≡ d.ino) × (q.order ≡ d.order)
key_parts q d is =
    let parts = and_parts (q.ino == d.ino) (q.order == d.order) is in
    (eqb-true q.ino d.ino parts.0, eqb-true q.order d.order parts.1)

-- so of the live ones
live_once : (v : Volume) (f : Words) (q : Draft) → HaveOwnOrders v f → sum_by (counted q) (live_entries v f) ≤ 1
live_once v f q orders = once_found q (is_live v) (entry_in v f) 0 v.geometry.log (λ s t d e least before below is_s is_t live_d live_e key_d key_e.
    (let d_is = key_parts q d key_d in
    let e_is = key_parts q e key_e in
    orders s t d e before (omega (arith, below)) is_s is_t (live_parts v d live_d).0 (live_parts v e live_e).0 (sym d_is.0 ∙ e_is.0) (sym d_is.1 ∙ e_is.1)))

own_key : (d : Draft) → same_key d d ≡ true
own_key d = λ i. eq-eqb d.ino d.ino refl i && eq-eqb d.order d.order refl i

different_once : (xs : List Draft) → ((q : Draft) → sum_by (counted q) xs ≤ 1) → AreDifferent xs
different_once [] once = tt
different_once (x ∷ xs) once = (
  λ is. omega (arith, once x, sum_by-cons (counted x) x xs, ap as_count (own_key x), some_counted x xs x is (own_key x)),
  different_once xs (λ q. omega (arith, once q, sum_by-cons (counted q) x xs)),
)

pub live-different : (v : Volume) (f : Words) → HaveOwnOrders v f → AreDifferent (live_entries v f)
live-different v f orders = different_once (live_entries v f) (λ q. live_once v f q orders)

-- ---- so each comes before the later ones of its file

at_place : (x : Draft) (xs : List Draft) (n : ℕ) (e : Draft) → slice_get xs n ≡ Some e → (n < length xs) × (get_or xs n x ≡ e)
at_place x [] n e is = absurd (cc)
at_place x (y ∷ ys) zero e is = (omega arith, cc)
at_place x (y ∷ ys) (suc n) e is = let rest = at_place x ys n e is in (omega (arith, rest.0), rest.1)

strict : (xs : List Draft) → IsNonDecreasingBy (λ (d : Draft). d.order) xs → ((q : Draft) → sum_by (counted q) xs ≤ 1) → ComeFirst xs
strict [] rising once = tt
strict (x ∷ xs) rising once = (
  first,
  strict xs (λ i j d before below. rising (suc i) (suc j) d (omega (arith, before)) (omega (arith, below))) (λ q. omega (arith, once q, sum_by-cons (counted q) x xs)),
) where
  same : (e : Draft) → x.ino ≡ e.ino → x.order ≡ e.order → same_key x e ≡ true
  same e ino order = λ i. eq-eqb x.ino e.ino ino i && eq-eqb x.order e.order order i

  twice : (e : Draft) → In e xs → same_key x e ≡ true → ⊥
  twice e is key =
      omega (arith, once x, sum_by-cons (counted x) x xs, ap as_count (same x refl refl), some_counted x xs e is key)

  first : (e : Draft) → In e xs → x.ino ≡ e.ino → x.order < e.order
  first e is ino =
      let place = slice_get-In xs e is in
      let at = at_place x xs place.0 e place.1 in
      let low : x.order ≤ e.order = subst (λ (d : Draft). x.order ≤ d.order) at.1 (rising 0 (suc place.0) x (omega arith) (omega (arith, at.0))) in
      elim (cases_lt x.order e.order) [
        | inl less ↦ less
        | inr not_less ↦ absurd (twice e is (same e ino (omega (arith, low, not_less))))
      ]

pub first-in_order : (v : Volume) (f : Words) (ds : List Draft) → HaveOwnOrders v f → AreInOrder (live_entries v f) ds → ComeFirst ds
first-in_order v f ds orders order =
    strict ds order.rising (λ q. subst (λ n. n ≤ 1) (sym (sum_by-IsPermutation (counted q) (live_entries v f) ds order.same)) (live_once v f q orders))
