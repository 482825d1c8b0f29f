-- The names of a directory, in the order of their bytes.
use Rattle.std.specs.Prelude.{◌≡◌, ◌≢◌, ◌≤◌, ◌<◌, ◌+◌, ◌==◌, ℕ, suc, nat_eq, nat_lt, Bool, true, false, cond, List, [], ◌∷◌, length, map, find, count_by, Option, Some, None, option_map, slice_index_or, IsSorted, refl}
use Rattle.std.specs.Cmp.Lexicographic.{bytes_decides, pointwise, slice_cmp}
use Rattle.std.specs.Ordering.{is_lt, nat_cmp, ordering_then}
use Rattle.std.specs.declared.cmp.Ordering.TheVariants.{Less, Equal, Greater}
use Rattle.std.proofs.Common.{arith, ap, sym, ◌∙◌, subst, inl, inr}
use Rattle.std.proofs.lemmas.Bool.{and_parts, eq-eqb, false_from_ne_true}
use Rattle.std.proofs.lemmas.Bool.Decides.{Decides-eqb, Decides-ltb}
use Rattle.std.proofs.lemmas.List.Sums.{sum_by-cons}
use Rattle.list_laws.specs.Filters.{filter-In, In-filter, In-map, map-In}
use Rattle.list_laws.specs.Members.{find-In, find-none, In}
use Rattle.posix_spec.specs.posix_tables.declared.nodes.DirEntry.{DirEntry}
use Rattle.posix_spec.specs.posix_tables.Names.{bytes_before, child_of, entries_in, is_entry, names_in, same_name}
use Rattle.posix_laws.specs.DistinctLaws.{own_entry}
use Rattle.posix_laws.specs.Order.{before_or_after, before_trans, Rising-same, RisingBy}
use Rattle.posix_laws.specs.Orders.{entry_text}

abbrev text_itself : List ℕ → List ℕ
text_itself name = name

-- ---- the names of entries in order

not_less : (p q : ℕ) → p ≡ q → nat_lt p q ≡ false
not_less p q same = false_from_ne_true (nat_lt p q) (λ is. let below = (Decides-ltb p q).0 is in omega (arith, below, same))

names_before : (p q : ℕ) (a b : List ℕ) → p ≡ q → bytes_before (p ∷ a) (q ∷ b) ≡ true → bytes_before a b ≡ true
names_before p q a b same is =
    sym (λ i. is_lt (ordering_then (cond (not_less p q same i) Less (cond (eq-eqb p q same i) Equal Greater)) (slice_cmp nat_cmp a b))) ∙ is

rising_in : (entries : List DirEntry) (n : ℕ) → RisingBy entry_text entries → RisingBy text_itself (names_in entries n)
rising_in [] n rising = tt
rising_in (e ∷ es) n rising = by (e.parent == n) refl (rising_in es n rising.1) where
  by : (b : Bool) → (e.parent == n) ≡ b → RisingBy text_itself (names_in es n) → RisingBy text_itself (map (λ (x : DirEntry). x.name) (cond b (e ∷ entries_in es n) (entries_in es n)))
  by false other rest = rest
  by true same rest = (head, rest) where
    head : (name : List ℕ) → In name (names_in es n) → bytes_before e.name name ≡ true
    head name is =
        let from = map-In (λ (x : DirEntry). x.name) (entries_in es n) name is in
        let there = filter-In (λ (x : DirEntry). x.parent == n) es from.0 from.1 in
        let parents : e.parent ≡ from.0.parent = (Decides-eqb e.parent n).0 same ∙ sym ((Decides-eqb from.0.parent n).0 there.1) in
        ap (bytes_before e.name) (sym from.2) ∙ names_before e.parent from.0.parent e.name from.0.name parents (rising.0 from.0 there.0)

-- ---- sorted names, none twice

abbrev is_name : List ℕ → List ℕ → Bool
is_name name x = pointwise nat_eq x name

-- no name stands there twice
abbrev pub AreOnce : List (List ℕ) → Type 0
AreOnce names = (name : List ℕ) → count_by (λ x. pointwise nat_eq x name) names ≤ 1

rising_sorted : (names : List (List ℕ)) → AreOnce names → ((k : ℕ) (d : List ℕ) → k + 1 < length names → bytes_before (slice_index_or names (k + 1) d) (slice_index_or names k d) ≡ false) → RisingBy text_itself names
rising_sorted [] once sorted = tt
rising_sorted (x ∷ []) once sorted = (λ y is. absurd is, tt)
rising_sorted (x ∷ y ∷ ys) once sorted = more (rising_sorted (y ∷ ys) tail_once tail_sorted) where
  tail_once : AreOnce (y ∷ ys)
  tail_once name = omega (arith, once name, sum_by-cons (λ z. cond (pointwise nat_eq z name) 1 0) x (y ∷ ys))

  tail_sorted : (k : ℕ) (d : List ℕ) → k + 1 < length (y ∷ ys) → bytes_before (slice_index_or (y ∷ ys) (k + 1) d) (slice_index_or (y ∷ ys) k d) ≡ false
  tail_sorted k d below =
      let next : suc k + 1 ≡ suc (k + 1) = omega arith in
      subst (λ n. bytes_before (slice_index_or (x ∷ y ∷ ys) n d) (slice_index_or (y ∷ ys) k d) ≡ false) next (sorted (suc k) d (omega (arith, below)))

  one : (a b : List ℕ) → a ≡ b → ◌≡◌ {A = ℕ} (cond (pointwise nat_eq a b) 1 0) 1
  one a b same = ap {B = ℕ} (λ t. cond t 1 0) ((bytes_decides a b).1 same)

  apart : x ≢ y
  apart same =
      omega
      (arith, once x, sum_by-cons (λ z. cond (pointwise nat_eq z x) 1 0) x (y ∷ ys), sum_by-cons (λ z. cond (pointwise nat_eq z x) 1 0) y ys, one x x refl, one y x (sym same))

  next : bytes_before x y ≡ true
  next = before_or_after y x apart (sorted 0 x (omega arith))

  more : RisingBy text_itself (y ∷ ys) → RisingBy text_itself (x ∷ y ∷ ys)
  more rest = (head, rest) where
    head : (z : List ℕ) → In z (y ∷ ys) → bytes_before x z ≡ true
    head z (inl same) = subst (λ w. bytes_before x w ≡ true) same next
    head z (inr behind) = before_trans x y z next (rest.0 z behind)

-- ---- the same names

found_child : (o : Option DirEntry) → o ≢ None → option_map (λ (e : DirEntry). e.child) o ≢ None
found_child None some none = some refl
found_child (Some e) some none = cc

named_child : (entries : List DirEntry) (n : ℕ) (z : List ℕ) → In z (names_in entries n) → child_of entries n z ≢ None
named_child entries n z is =
    let from = map-In (λ (x : DirEntry). x.name) (entries_in entries n) z is in
    let there = filter-In (λ (x : DirEntry). x.parent == n) entries from.0 from.1 in
    found_child (find (is_entry n z) entries) (λ none. find-none (is_entry n z) entries from.0 none there.0 (own_entry from.0 n z ((Decides-eqb from.0.parent n).0 there.1) from.2))

child_named : (entries : List DirEntry) (n : ℕ) (z : List ℕ) → child_of entries n z ≢ None → In z (names_in entries n)
child_named entries n z some = by (find (is_entry n z) entries) refl where
  by : (o : Option DirEntry) → find (is_entry n z) entries ≡ o → In z (names_in entries n)
  by None none = absurd (some (ap (option_map (λ (e : DirEntry). e.child)) none))
  by (Some e) found =
      let there = find-In (is_entry n z) entries e found in
      let both = and_parts (e.parent == n) (same_name e.name z) there.1 in
      subst (λ x. In x (names_in entries n)) ((bytes_decides e.name z).0 both.1) (In-map (λ (x : DirEntry). x.name) (entries_in entries n) e (In-filter (λ (x : DirEntry). x.parent == n) entries e there.0 both.0))

-- THE NAMES OF A DIRECTORY are those that lead to something there, sorted.
pub names-sorted : (entries : List DirEntry) (n : ℕ) (names : List (List ℕ)) → RisingBy entry_text entries → IsSorted (slice_cmp nat_cmp) names → AreOnce names
    → ((z : List ℕ) → In z names → child_of entries n z ≢ None) → ((z : List ℕ) → child_of entries n z ≢ None → In z names) → names_in entries n ≡ names
names-sorted entries n names rising sorted once leads lists =
    Rising-same text_itself (names_in entries n) names (rising_in entries n rising) (rising_sorted names once (λ k d below. sorted k d (omega arith) below)) (λ z is. lists z (named_child entries n z is)) (λ z is. child_named entries n z (leads z is))
